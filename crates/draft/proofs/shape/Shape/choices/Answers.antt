use Rattle.std.proofs.Common.{sym, arith}
use Rattle.std.proofs.lemmas.List.{get_or_past}
use Rattle.draft.specs.Shapes.{counts}
use Rattle.draft.proofs.ShapeLaws.{counts_length, counts_at}
use Rattle.draft.proofs.shape.Shape.choices.Goals as goal

pub returns-then-i-self-clause-value : goal.returns-then-i-self-clause-value
returns-then-i-self-clause-value c = omega (arith, c.from.ensures, counts_at c.args.self.now c.args.i c.if-i-self.true)

pub returns-else-i-self-clause-value : goal.returns-else-i-self-clause-value
returns-else-i-self-clause-value c = sym (get_or_past (counts c.args.self.now) c.args.i 0 (omega (arith, counts_length c.args.self.now)))
