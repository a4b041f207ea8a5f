use Rattle.std.proofs.Common.{◌≡◌, ℕ, ◌+◌, ◌<◌, ◌≤◌, List, length, get_or, take, set, sum, sym, ap, ◌∙◌, inl, inr, arith, rules}
use Rattle.std.proofs.lemmas.List.{get_or-set_same, get_or-set_other, length-set}
use Rattle.std.proofs.lemmas.Bool.{cases_eq}
use Rattle.draft.proofs.ShapeLaws.{sum_more, sum_most}
use Rattle.draft.proofs.shape.firsts_of.Goals as goal

-- one first label more
wrote : (firsts a : List ℕ) (i v : ℕ) → i + 1 < length firsts → v ≡ sum (take (i + 1) a)
    → ((k : ℕ) → k ≤ i → get_or firsts k 0 ≡ sum (take k a))
    → (k : ℕ) → k ≤ i + 1 → get_or (set firsts (i + 1) v) k 0 ≡ sum (take k a)
wrote firsts a i v l e below k h =
    elim (cases_eq k (i + 1)) [
      | inl p ↦ ap (λ m. get_or (set firsts (i + 1) v) m 0) p ∙ get_or-set_same firsts (i + 1) v 0 l ∙ e ∙ ap (λ m. sum (take m a)) (sym p)
      | inr p ↦ get_or-set_other firsts (i + 1) k v 0 p ∙ below k (omega arith)
    ]

pub overflow_add-labels : goal.overflow_add-labels
overflow_add-labels c =
    let a = c.args.a.now in
    let i = c.loop-i.i in
    let more = sum_more a i in
    let most = sum_most a c.requires.limits (i + 1) in
    let few = c.requires.limits.1 in
    search rules

pub loop-i-preserved : goal.loop-i-preserved
loop-i-preserved c =
    let a = c.args.a.now in
    let i = c.loop-i.i in
    let inv = c.loop-i.invariant in
    let l : i + 1 < length c.loop-i.firsts = omega (arith, inv.0, c.requires.limits.1) in
    let e = sum_more a i in (
      length-set c.loop-i.firsts (i + 1) _ ∙ inv.0,
      omega (arith, inv.1, e),
      wrote c.loop-i.firsts a i _ l (omega (arith, inv.1, e)) inv.2,
    )
