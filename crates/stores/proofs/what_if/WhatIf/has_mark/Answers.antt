use Rattle.std.proofs.Common.{rules}
use Rattle.draft.proofs.DraftLaws.{standing_widest}
use Rattle.stores.proofs.what_if.WhatIf.has_mark.Goals as goal

pub returns-clause-standing : goal.returns-clause-standing
returns-clause-standing g c s =
    let below = c.args.self.now.below in
    let named = standing_widest (g.S.Store.draft below) (g.S.Store.laws below) c.args.pairing s in
    search rules
