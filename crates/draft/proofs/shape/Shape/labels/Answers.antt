use Rattle.std.proofs.Common.{◌∙◌}
use Rattle.draft.proofs.ShapeLaws.{firsts_last}
use Rattle.draft.proofs.shape.Shape.labels.Goals as goal

pub returns-clause-value : goal.returns-clause-value
returns-clause-value c = c.from.ensures ∙ firsts_last c.args.self.now
