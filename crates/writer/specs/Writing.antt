-- What a writing answers and leaves.
use Rattle.std.specs.Prelude.{◌≡◌, ℕ, List, length, take, drop, Some, None, Ok, Err, Result}
use Rattle.draft.specs.declared.fault.Fault.{Fault}
use Rattle.layout.specs.declared.rows.BarRow.{BarRow}
use Rattle.layout.specs.declared.rows.ChoiceRow.{ChoiceRow}
use Rattle.layout.specs.declared.rows.CourseRow.{CourseRow}
use Rattle.layout.specs.Layout.{IsSheet, bytes_of}
use Rattle.writer.specs.RowFaults.{write_fault}

-- the sheet of the rows stands in the first n bytes, and the rest is as it was
pub record Wrote (cs : List CourseRow) (hs : List ChoiceRow) (bs : List BarRow) (s t : List ℕ) (n : ℕ) : Type 0 where
  pub clean : write_fault cs hs bs (length s) ≡ None
  pub answer : n ≡ bytes_of cs hs bs
  pub sheet : IsSheet (take n t) cs hs bs
  pub rest : drop n t ≡ drop n s

-- the bytes s become t: the sheet of the rows and its length, or the first fault and no byte changed
abbrev pub Writing : List CourseRow → List ChoiceRow → List BarRow → List ℕ → List ℕ → Result ℕ Fault → Type 0
Writing cs hs bs s t (Ok n) = Wrote cs hs bs s t n
Writing cs hs bs s t (Err f) = (write_fault cs hs bs (length s) ≡ Some f) × (t ≡ s)
