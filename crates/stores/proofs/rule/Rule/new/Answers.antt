use Rattle.std.proofs.Common.{refl}
use Rattle.draft.specs.Labels.{pair_number}
use Rattle.draft.specs.Shapes.{counts}
use Rattle.stores.specs.Rules.{clash_free}
use Rattle.stores.proofs.Strikes.{none_marked}
use Rattle.stores.proofs.rule.Rule.new.Goals as goal

pub returns-clause-draft : goal.returns-clause-draft
returns-clause-draft c =
    let a = counts c.args.shape.now in
    none_marked (clash_free a c.args.courses.now c.args.choices.now) (pair_number a) 2292 _ refl
