use Rattle.std.proofs.Common.{sym}
use Rattle.draft.proofs.ShapeLaws.{counts_length}
use Rattle.draft.proofs.shape.Shape.courses.Goals as goal

pub returns-clause-value : goal.returns-clause-value
returns-clause-value c = sym (counts_length c.args.self.now)
