use Rattle.std.proofs.Common.{◌≡◌, true, arith}
use Rattle.draft.specs.Labels.{named, pair_number}
use Rattle.draft.specs.Shapes.{counts}
use Rattle.draft.proofs.PairLaws.{labels_pair, pair_below, pair_same}
use Rattle.draft.proofs.shape.Shape.pair.Goals as goal

-- both labels were answered, so the pairing joins choices of two courses, and has the number answered
told : (c : goal.After-between) → (named (counts c.args.self.now) c.args.pairing ≡ true) × (c.between.result ≡ pair_number (counts c.args.self.now) c.args.pairing)
told c = labels_pair (counts c.args.self.now) c.args.pairing _ _ _ c.in_ok-label.ensures.value c.in_ok-label-2.ensures.value c.if-pairing.false c.between.ensures.value

pub returns-clause-below : goal.returns-clause-below
returns-clause-below c = omega (arith, (told c).1, pair_below (counts c.args.self.now) c.args.pairing (told c).0)

pub returns-clause-only : goal.returns-clause-only
returns-clause-only c q named = pair_same (counts c.args.self.now) c.args.pairing q (told c).0 named
