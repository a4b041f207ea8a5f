-- Reading and writing undo each other.
use Rattle.std.specs.Prelude.{◌≡◌, ℕ, ◌≤◌, List, length, take, Ok, Result}
use Rattle.draft.specs.declared.fault.Fault.{Fault}
use Rattle.layout.specs.declared.rows.BarRow.{BarRow}
use Rattle.layout.specs.declared.rows.ChoiceRow.{ChoiceRow}
use Rattle.layout.specs.declared.rows.Counts.{Counts}
use Rattle.layout.specs.declared.rows.CourseRow.{CourseRow}
use Rattle.bits.specs.Bits.{Bytes}
use Rattle.reader.specs.Reading.{Reading}
use Rattle.writer.specs.Writing.{Writing}

-- whatever a writing wrote, a reading into lists that are long enough accepts, and gives the rows back
abbrev pub ReadsBack : Type 0
ReadsBack =
    (cs : List CourseRow) (hs : List ChoiceRow) (bs : List BarRow) (s t : List ℕ) (n : ℕ) → Writing cs hs bs s t (Ok n)
    → (xs xs' : List CourseRow) (ys ys' : List ChoiceRow) (zs zs' : List BarRow) (r : Result Counts Fault)
    → Reading (take n t) xs xs' ys ys' zs zs' r
    → length cs ≤ length xs → length hs ≤ length ys → length bs ≤ length zs
    → (r ≡ Ok (record { courses = length cs; choices = length hs; bars = length bs }))
    × (take (length cs) xs' ≡ cs) × (take (length hs) ys' ≡ hs) × (take (length bs) zs' ≡ bs)

-- whatever a reading accepted, a writing of its rows into bytes that are enough accepts, and gives the sheet back
abbrev pub WritesBack : Type 0
WritesBack =
    (s : List ℕ) (xs xs' : List CourseRow) (ys ys' : List ChoiceRow) (zs zs' : List BarRow) (n : Counts) → Reading s xs xs' ys ys' zs zs' (Ok n)
    → (t u : List ℕ) (r : Result ℕ Fault) → Writing (take n.courses xs') (take n.choices ys') (take n.bars zs') t u r
    → Bytes s → Bytes u → length s ≤ length t → (r ≡ Ok (length s)) × (take (length s) u ≡ s)
