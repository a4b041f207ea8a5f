-- Rows have one sheet, and a sheet has one set of rows.
use Rattle.std.specs.Prelude.{◌≡◌, ℕ, List}
use Rattle.layout.specs.declared.rows.BarRow.{BarRow}
use Rattle.layout.specs.declared.rows.ChoiceRow.{ChoiceRow}
use Rattle.layout.specs.declared.rows.CourseRow.{CourseRow}
use Rattle.bits.specs.Bits.{Bytes}
use Rattle.layout.specs.Layout.{IsSheet}

-- rows have one sheet at most
abbrev pub OneSheet : Type 0
OneSheet =
    (s t : List ℕ) (cs : List CourseRow) (hs : List ChoiceRow) (bs : List BarRow)
    → Bytes s → Bytes t → IsSheet s cs hs bs → IsSheet t cs hs bs → s ≡ t

-- no two lists of rows have the same sheet
abbrev pub OneReading : Type 0
OneReading =
    (s : List ℕ) (cs ds : List CourseRow) (hs gs : List ChoiceRow) (bs xs : List BarRow)
    → IsSheet s cs hs bs → IsSheet s ds gs xs → (cs ≡ ds) × (hs ≡ gs) × (bs ≡ xs)
