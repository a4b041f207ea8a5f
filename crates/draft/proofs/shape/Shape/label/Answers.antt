use Rattle.std.proofs.Common.{◌≡◌, ◌+◌, ◌<◌, get_or, Some, ap, ◌∙◌, sym, arith}
use Rattle.std.proofs.lemmas.Bool.{cond-true, lt-ltb}
use Rattle.draft.specs.Labels.{there, label}
use Rattle.draft.specs.Shapes.{counts}
use Rattle.draft.proofs.PairLaws.{label_same}
use Rattle.draft.proofs.ShapeLaws.{course_in, label_at}
use Rattle.draft.proofs.shape.Shape.label.Goals as goal

pub bounds-self-side : goal.bounds-self-side
bounds-self-side c =
    let s = c.args.self.now in
    omega (arith, course_in s c.args.side.course c.args.side.choice (omega (arith, c.choices.ensures.value)), s.many)

pub returns-then-side-choices-clause-value : goal.returns-then-side-choices-clause-value
returns-then-side-choices-clause-value c =
    let a = counts c.args.self.now in
    let x = c.args.side in
    let here : x.choice < get_or a x.course 0 = omega (arith, c.choices.ensures.value) in
    let is : c.from.result + x.choice ≡ label a x = omega (arith, c.from.ensures, (label_at c.args.self.now x here).0) in
    ap (λ u. Some u) is ∙ sym (cond-true (there a x) _ _ (lt-ltb x.choice (get_or a x.course 0) here))

pub returns-then-side-choices-clause-bound : goal.returns-then-side-choices-clause-bound
returns-then-side-choices-clause-bound c =
    let at = label_at c.args.self.now c.args.side (omega (arith, c.choices.ensures.value)) in
    omega (arith, c.from.ensures, at.0, at.1)

pub returns-then-side-choices-clause-only : goal.returns-then-side-choices-clause-only
returns-then-side-choices-clause-only c y there same =
    let x = c.args.side in
    label_same (counts c.args.self.now) y x there (omega (arith, c.choices.ensures.value)) same
