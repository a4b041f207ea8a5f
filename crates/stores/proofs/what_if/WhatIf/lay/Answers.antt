use Rattle.std.proofs.Common.{refl}
use Rattle.draft.specs.Labels.{pair_number, widest}
use Rattle.stores.proofs.Strikes.{none_marked}
use Rattle.stores.proofs.what_if.WhatIf.lay.Goals as goal

pub returns-clause-draft : goal.returns-clause-draft
returns-clause-draft g c = none_marked (g.S.Store.draft c.args.below) (pair_number widest) 2292 _ refl
