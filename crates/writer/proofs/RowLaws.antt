-- Rows have no fault just where they are lawful.
use Rattle.std.proofs.Common.{◌≡◌, ℕ, ◌+◌, List, length, None, Option}
use Rattle.draft.specs.declared.fault.Fault.{Fault}
use Rattle.layout.specs.declared.rows.BarRow.{BarRow}
use Rattle.layout.specs.declared.rows.ChoiceRow.{ChoiceRow}
use Rattle.layout.specs.declared.rows.CourseRow.{CourseRow}
use Rattle.layout.specs.Faults.{first}
use Rattle.layout.specs.Layout.{counts_of, Lawful}
use Rattle.layout.proofs.FirstLaws.{first_none, first_both}
use Rattle.writer.specs.RowFaults.{length_fault, courses_fault, bars_fault, rows_fault, place}
use Rattle.writer.proofs.BarLaws.{names_hold, rising_holds, hold_bars}
use Rattle.writer.proofs.CourseLaws.{courses_hold, choices_hold, hold_courses}
use Rattle.writer.proofs.LengthLaws.{lengths_hold, hold_lengths}

-- the bit where the first bar begins
abbrev start : List CourseRow → ℕ
start cs = place cs (length cs) + 12

abbrev bars : List CourseRow → List BarRow → Option Fault
bars cs bs = bars_fault (counts_of cs) bs (start cs) (length bs)

abbrev fields : List CourseRow → List ChoiceRow → List BarRow → Option Fault
fields cs hs bs = first (courses_fault cs hs (length cs)) (bars cs bs)

pub rows_lawful : (cs : List CourseRow) (hs : List ChoiceRow) (bs : List BarRow) → rows_fault cs hs bs ≡ None → Lawful cs hs bs
rows_lawful cs hs bs none =
    let a = first_none (length_fault cs hs bs) (fields cs hs bs) none in
    let b = first_none (courses_fault cs hs (length cs)) (bars cs bs) a.1 in
    let n = lengths_hold cs hs bs a.0 in
    record {
      few = n.few;
      many = n.many;
      whole = n.whole;
      bars = n.bars;
      courses = courses_hold cs hs b.0;
      choices = choices_hold cs hs n.whole b.0;
      names = names_hold (counts_of cs) bs (start cs) b.1;
      rising = rising_holds (counts_of cs) bs (start cs) b.1;
    }

pub lawful_rows : (cs : List CourseRow) (hs : List ChoiceRow) (bs : List BarRow) → Lawful cs hs bs → rows_fault cs hs bs ≡ None
lawful_rows cs hs bs law =
    let lengths = hold_lengths cs hs bs (record { few = law.few; many = law.many; whole = law.whole; bars = law.bars }) in
    let courses = hold_courses cs hs law.whole law.courses law.choices in
    let rest = hold_bars (counts_of cs) bs (start cs) law.names law.rising in
    first_both (length_fault cs hs bs) (fields cs hs bs) lengths (first_both (courses_fault cs hs (length cs)) (bars cs bs) courses rest)
