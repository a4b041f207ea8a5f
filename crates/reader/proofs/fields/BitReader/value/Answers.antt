use Rattle.std.proofs.Common.{◌≡◌, arith}
use Rattle.bits.proofs.BitLaws.{room, bit_lt, val_lt}
use Rattle.reader.proofs.fields.BitReader.value.Goals as goal

pub overflow_mul-v : goal.overflow_mul-v
overflow_mul-v c = omega (arith, room c.args.self.now.sheet.now c.args.self.now.at c.loop.counter (omega arith))

pub overflow_add-v : goal.overflow_add-v
overflow_add-v c = omega (arith, room c.args.self.now.sheet.now c.args.self.now.at c.loop.counter (omega arith), bit_lt c.loop.self.sheet.now c.loop.self.at)

pub returns-clause-bound : goal.returns-clause-bound
returns-clause-bound c = let done : c.args.width ≡ c.loop.counter = omega arith in rw done (omega (arith, val_lt c.args.self.now.sheet.now c.args.self.now.at c.loop.counter))
