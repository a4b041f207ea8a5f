-- What reading and writing accept, in terms of sheets and lawful rows.
use Rattle.std.specs.Prelude.{◌≡◌, ℕ, List, None}
use Rattle.layout.specs.declared.rows.BarRow.{BarRow}
use Rattle.layout.specs.declared.rows.ChoiceRow.{ChoiceRow}
use Rattle.layout.specs.declared.rows.CourseRow.{CourseRow}
use Rattle.layout.specs.Layout.{IsSheet, Lawful}
use Rattle.reader.specs.Verdict.{verdict}
use Rattle.writer.specs.RowFaults.{rows_fault}

-- the bytes are the sheet of some rows
abbrev pub OfSomeRows : List ℕ → Type 0
OfSomeRows s = (cs : List CourseRow) × ((hs : List ChoiceRow) × ((bs : List BarRow) × IsSheet s cs hs bs))

-- bytes have no fault exactly when they are the sheet of some rows
abbrev pub ReadsSheets : Type 0
ReadsSheets = (s : List ℕ) → (verdict s ≡ None → OfSomeRows s) × (OfSomeRows s → verdict s ≡ None)

-- rows have no fault exactly when they are lawful
abbrev pub WritesLawful : Type 0
WritesLawful =
    (cs : List CourseRow) (hs : List ChoiceRow) (bs : List BarRow)
    → (rows_fault cs hs bs ≡ None → Lawful cs hs bs) × (Lawful cs hs bs → rows_fault cs hs bs ≡ None)
