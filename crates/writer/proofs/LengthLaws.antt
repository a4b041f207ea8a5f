-- No fault of the list lengths, and what it says of them.
use Rattle.std.proofs.Common.{◌≡◌, ◌≤◌, Bool, true, ◌&&◌, eqb, leb, List, length, None}
use Rattle.std.proofs.lemmas.Bool.{and_from, and_parts, eq-eqb, eqb-true, le-leb, leb-true}
use Rattle.draft.specs.declared.refusal.Refusal.TheVariants.{Limit}
use Rattle.layout.specs.declared.rows.BarRow.{BarRow}
use Rattle.layout.specs.declared.rows.ChoiceRow.{ChoiceRow}
use Rattle.layout.specs.declared.rows.CourseRow.{CourseRow}
use Rattle.layout.specs.Faults.{first, unless}
use Rattle.layout.specs.Layout.{total}
use Rattle.layout.proofs.FirstLaws.{first_none, first_both, unless_none, unless_holds}
use Rattle.writer.specs.RowFaults.{length_fault}

pub record Lengths (cs : List CourseRow) (hs : List ChoiceRow) (bs : List BarRow) : Type 0 where
  pub few : 2 ≤ length cs
  pub many : length cs ≤ 24
  pub whole : length hs ≡ total cs
  pub bars : length bs ≤ 4095

module _ (cs : List CourseRow) (hs : List ChoiceRow) (bs : List BarRow) where
  abbrev courses_ok : Bool
  courses_ok = leb 2 (length cs) && leb (length cs) 24

  abbrev choices_ok : Bool
  choices_ok = eqb (length hs) (total cs)

  abbrev bars_ok : Bool
  bars_ok = leb (length bs) 4095

  pub lengths_hold : length_fault cs hs bs ≡ None → Lengths cs hs bs
  lengths_hold none =
      let a = first_none (unless courses_ok Limit 0) (first (unless choices_ok Limit 0) (unless bars_ok Limit 0)) none in
      let b = first_none (unless choices_ok Limit 0) (unless bars_ok Limit 0) a.1 in
      let n = and_parts (leb 2 (length cs)) (leb (length cs) 24) (unless_none courses_ok Limit 0 a.0) in
      record {
        few = leb-true 2 (length cs) n.0;
        many = leb-true (length cs) 24 n.1;
        whole = eqb-true (length hs) (total cs) (unless_none choices_ok Limit 0 b.0);
        bars = leb-true (length bs) 4095 (unless_none bars_ok Limit 0 b.1);
      }

  pub hold_lengths : Lengths cs hs bs → length_fault cs hs bs ≡ None
  hold_lengths h =
      let n : courses_ok ≡ true = and_from _ _ (le-leb 2 (length cs) h.few) (le-leb (length cs) 24 h.many) in
      first_both (unless courses_ok Limit 0) (first (unless choices_ok Limit 0) (unless bars_ok Limit 0)) (unless_holds courses_ok Limit 0 n)
      (first_both (unless choices_ok Limit 0) (unless bars_ok Limit 0) (unless_holds choices_ok Limit 0 (eq-eqb (length hs) (total cs) h.whole)) (unless_holds bars_ok Limit 0 (le-leb (length bs) 4095 h.bars)))
