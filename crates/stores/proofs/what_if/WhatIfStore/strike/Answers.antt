use Rattle.std.proofs.Common.{◌≡◌, ℕ, true, false, ◌&&◌, ltb, Some, None, sym, ◌∙◌, inl, inr}
use Rattle.std.proofs.lemmas.Bool.{and_from, cases_Bool, cond-true, cond-false, lt-ltb}
use Rattle.draft.specs.Drafts.{Draft, Lawful}
use Rattle.draft.specs.Labels.{named, pair_number, widest}
use Rattle.draft.specs.Pairings.{mirrored}
use Rattle.draft.specs.declared.pairing.Pairing.{Pairing}
use Rattle.draft.proofs.DraftLaws.{standing_widest}
use Rattle.draft.proofs.PairLaws.{pair_some}
use Rattle.stores.specs.WhatIfLaws.{what_if_lawful}
use Rattle.stores.specs.WhatIfs.{mark_of}
use Rattle.stores.proofs.Strikes.{made_strikes}
use Rattle.stores.proofs.what_if.WhatIfStore.strike.Goals as goal

-- an answered number of a mark is that of a pairing
mark_some : (D : Draft) (p : Pairing) (n : ℕ) → Some n ≡ mark_of D p → (named widest p ≡ true) × (n ≡ pair_number widest p)
mark_some D p n e =
    elim (cases_Bool (ltb p.one.choice (D.choices p.one.course) && ltb p.other.choice (D.choices p.other.course))) [
      | inl t ↦ pair_some widest p n (e ∙ cond-true _ _ _ t)
      | inr t ↦ absurd (let f : Some n ≡ None = e ∙ cond-false _ _ _ t in cc)
    ]

-- where no number is answered no such pairing stands
mark_none : (D : Draft) → Lawful D → (p : Pairing) → None ≡ mark_of D p → D.stands p ≡ false
mark_none D l p e =
    elim (cases_Bool (D.stands p)) [
      | inl s ↦ absurd (
          let t = and_from _ _ (lt-ltb p.one.choice (D.choices p.one.course) (l.choice p s)) (lt-ltb p.other.choice (D.choices p.other.course) (l.choice (mirrored p) (sym (l.mirrored p) ∙ s))) in
          let f : None ≡ Some (pair_number widest p) = e ∙ cond-true _ _ _ t ∙ cond-true (named widest p) _ _ (standing_widest D l p s) in cc)
      | inr s ↦ s
    ]

pub returns-clause-draft : goal.returns-clause-draft
returns-clause-draft g c =
    let D = g.S.Store.draft c.args.self.now.below in
    let l = g.S.Store.laws c.args.self.now.below in
    let xs = c.args.self.now.marks in
    let p = c.args.pairing in
    made_strikes true widest D xs c.set_bit_of.new.bits p (mark_of D p) (what_if_lawful D xs l) (standing_widest D l) (mark_some D p) (mark_none D l p)
    (rw c.mark_number.ensures.value at c.set_bit_of.ensures.bits)
