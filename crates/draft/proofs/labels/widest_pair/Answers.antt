use Rattle.std.proofs.Common.{◌≡◌, true, arith}
use Rattle.draft.specs.Labels.{named, pair_number, widest}
use Rattle.draft.proofs.PairLaws.{labels_pair, pair_below, pair_same}
use Rattle.draft.proofs.labels.widest_pair.Goals as goal

-- as for a shape's pairing
told : (c : goal.After-between) → (named widest c.args.pairing ≡ true) × (c.between.result ≡ pair_number widest c.args.pairing)
told c = labels_pair widest c.args.pairing _ _ _ c.in_ok-widest_label.ensures.value c.in_ok-widest_label-2.ensures.value c.if-pairing.false c.between.ensures.value

pub returns-clause-below : goal.returns-clause-below
returns-clause-below c = omega (arith, (told c).1, pair_below widest c.args.pairing (told c).0)

pub returns-clause-only : goal.returns-clause-only
returns-clause-only c q named = pair_same widest c.args.pairing q (told c).0 named
