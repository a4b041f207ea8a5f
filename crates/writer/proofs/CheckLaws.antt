-- What is known of rows after each step of their check.
use Rattle.std.proofs.Common.{◌≡◌, ℕ, ◌+◌, ◌*◌, ◌≤◌, List, length, None, Option, Result, sym, subst, arith}
use Rattle.std.proofs.ByRecursion.{All-get_or}
use Rattle.std.proofs.lemmas.List.{get_or-map}
use Rattle.draft.specs.Limits.{Limits}
use Rattle.draft.specs.declared.fault.Fault.{Fault}
use Rattle.layout.specs.declared.rows.BarRow.{BarRow}
use Rattle.layout.specs.declared.rows.ChoiceRow.{ChoiceRow}
use Rattle.layout.specs.declared.rows.CourseRow.{CourseRow}
use Rattle.layout.specs.Faults.{first, Tells}
use Rattle.layout.specs.Layout.{counts_of, LawfulCourse, Lawful}
use Rattle.layout.proofs.CountLaws.{counts_length}
use Rattle.layout.proofs.SizeLaws.{total_le}
use Rattle.writer.specs.declared.rows_check.CheckedRows.{CheckedRows}
use Rattle.writer.specs.RowFaults.{no_course, length_fault, courses_fault, bars_fault, rows_fault, place}
use Rattle.writer.proofs.CourseLaws.{courses_hold}
use Rattle.writer.proofs.LabelLaws.{label_all}
use Rattle.writer.proofs.LengthLaws.{lengths_hold}
use Rattle.writer.proofs.RowLaws.{rows_lawful}

-- a fault told after a test that found none
tells_after : {U : Type 0} (a b : Option Fault) (r : Result U Fault) → a ≡ None → Tells b r → Tells (first a b) r
tells_after a b r none told = subst (λ (x : Option Fault). Tells (first x b) r) (sym none) told

module _ (cs : List CourseRow) (hs : List ChoiceRow) (bs : List BarRow) (lengths : length_fault cs hs bs ≡ None) (courses : courses_fault cs hs (length cs) ≡ None) where
  pub few_checked : length hs ≤ 192
  few_checked =
      let n = lengths_hold cs hs bs lengths in
      omega (arith, n.many, n.whole, total_le cs (courses_hold cs hs courses))

  pub limits_hold : Limits (counts_of cs)
  limits_hold =
      let n = lengths_hold cs hs bs lengths in
      let m = counts_length cs in (
        omega (arith, n.few),
        omega (arith, n.many),
        λ k l.
            let at = get_or-map (λ (c : CourseRow). c.choices) cs k no_course 0 (omega arith) in
            let law = All-get_or LawfulCourse cs k no_course (omega arith) (courses_hold cs hs courses) in
            (omega (arith, law.0), omega (arith, law.1)),
      )

  -- the bars' faults are the rows' faults
  pub rows_tell : {U : Type 0} (a : List ℕ) (r : Result U Fault) → a ≡ counts_of cs → Tells (bars_fault a bs (21 + 9 * length cs + 8 * length hs) (length bs)) r → Tells (rows_fault cs hs bs) r
  rows_tell a r is told =
      let n = lengths_hold cs hs bs lengths in
      let at : 21 + 9 * length cs + 8 * length hs ≡ place cs (length cs) + 12 = omega (arith, n.whole, label_all cs (length cs) (omega arith)) in
      tells_after (length_fault cs hs bs) _ r lengths
      (tells_after (courses_fault cs hs (length cs)) _ r courses (subst (λ (x : Option Fault). Tells x r) (λ i. bars_fault (is i) bs (at i) (length bs)) told))

-- rows that passed the check are lawful
pub lawful_of : (k : CheckedRows) → Lawful k.rows.courses.now k.rows.choices.now k.rows.bars.now
lawful_of k = rows_lawful k.rows.courses.now k.rows.choices.now k.rows.bars.now k.clean
