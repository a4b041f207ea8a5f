-- Fields put into bytes, and when their values fit.
use Rattle.std.specs.Prelude.{◌≡◌, ℕ, ◌+◌, ◌*◌, ◌<◌, ◌≤◌, List, slice_index}
use Rattle.std.specs.List.{AllByRecursion}
use Rattle.layout.specs.declared.rows.BarRow.{BarRow}
use Rattle.bits.specs.Bits.{bit}
use Rattle.layout.specs.Held.{Holds, Fits}
use Rattle.layout.specs.Layout.{Field, size, bar_fields}

-- each number of the bar fits its field
abbrev pub FitBar : BarRow → Type 0
FitBar b = AllByRecursion Fits (bar_fields b)

-- t is s with these fields in the places from p on, and no other bit changed
pub record Puts (s t : List ℕ) (p : ℕ) (fs : List Field) : Type 0 where
  pub holds : Holds t p fs
  pub before : (j : ℕ) → j < p → bit t j ≡ bit s j
  pub rest : (k : ℕ) → p + size fs ≤ 8 * k → slice_index t k ≡ slice_index s k
  pub after : (j : ℕ) → p + size fs ≤ j → bit t j ≡ bit s j
