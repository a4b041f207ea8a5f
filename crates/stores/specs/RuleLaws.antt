-- The store by rule keeps the law of a store.
use Rattle.std.specs.Prelude.{◌≡◌, ℕ, not, ◌&&◌, ◌||◌, List}
use Rattle.std.proofs.Common.{ap, ap₂, ◌∙◌}
use Rattle.draft.specs.Drafts.{Lawful, whole}
use Rattle.draft.specs.Pairings.{mirrored}
use Rattle.draft.specs.Shapes.{counts}
use Rattle.draft.specs.declared.pairing.Pairing.{Pairing}
use Rattle.draft.specs.declared.shape.Shape.{Shape}
use Rattle.draft.proofs.DraftLaws.{whole_lawful, restrict_lawful}
use Rattle.draft.proofs.PairLaws.{eqb_swap, turn}
use Rattle.draft.proofs.ShapeLaws.{limits}
use Rattle.layout.specs.declared.rows.ChoiceRow.{ChoiceRow}
use Rattle.layout.specs.declared.rows.CourseRow.{CourseRow}
use Rattle.stores.specs.MarkLaws.{unmarked_lawful}
use Rattle.stores.specs.Rules.{clash, course_row, choice_row, known, allowed, clash_free, rule_draft}

-- two choices clash from either side
clash_swap : (t : ℕ) (x : ChoiceRow) (u : ℕ) (y : ChoiceRow) → clash t x u y ≡ clash u y t x
clash_swap t x u y = ap₂ ◌&&◌ (eqb_swap x.evening y.evening) (ap₂ ◌||◌ (eqb_swap x.room y.room) (eqb_swap t u))

-- a pairing is allowed from either side
allowed_swap : (a : List ℕ) (cs : List CourseRow) (hs : List ChoiceRow) (p : Pairing) → allowed a cs hs p ≡ allowed a cs hs (mirrored p)
allowed_swap a cs hs p =
    turn (known a cs hs p.one) (known a cs hs p.other) _
    ∙ ap (λ z. known a cs hs p.other && (known a cs hs p.one && not z))
    (clash_swap (course_row cs p.one).teacher (choice_row a hs p.one) (course_row cs p.other).teacher (choice_row a hs p.other))

-- the draft by rule is lawful
pub rule_lawful : (s : Shape) (cs : List CourseRow) (hs : List ChoiceRow) (marks : List ℕ) → Lawful (rule_draft (counts s) cs hs marks)
rule_lawful s cs hs marks =
    let a = counts s in
    unmarked_lawful (clash_free a cs hs) a marks (restrict_lawful (whole a) (allowed a cs hs) (allowed_swap a cs hs) (whole_lawful a (limits s)))
