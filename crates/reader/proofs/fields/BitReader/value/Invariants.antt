use Rattle.std.proofs.Common.{◌≡◌}
use Rattle.bits.specs.Bits.{val}
use Rattle.reader.specs.Readers.{Moves}
use Rattle.reader.proofs.fields.BitReader.value.Given as goal

abbrev pub invariant-loop : goal.invariant-loop
invariant-loop l =
    record {
      value : l.v ≡ val l.initial.self.sheet.now l.initial.self.at l.counter;
      moved : Moves l.initial.self l.self l.counter;
    }
