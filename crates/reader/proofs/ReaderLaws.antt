-- A reader of bits that moves on twice.
use Rattle.std.proofs.Common.{ℕ, ◌+◌, ◌∙◌, arith}
use Rattle.reader.specs.declared.fields.BitReader.{BitReader}
use Rattle.reader.specs.Readers.{Moves}

pub moves_more : {s t u : BitReader} {m n : ℕ} → Moves s t m → Moves t u n → Moves s u (m + n)
moves_more a b = record { sheet = b.sheet ∙ a.sheet; place = omega (arith, a.place, b.place) }
