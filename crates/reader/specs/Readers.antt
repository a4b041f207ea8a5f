-- How a reader of bits moves.
use Rattle.std.specs.Prelude.{◌≡◌, ℕ, ◌+◌}
use Rattle.reader.specs.declared.fields.BitReader.{BitReader}

-- t is s after n bits more of the same sheet
pub record Moves (s t : BitReader) (n : ℕ) : Type 0 where
  pub sheet : t.sheet.now ≡ s.sheet.now
  pub place : t.at ≡ s.at + n
