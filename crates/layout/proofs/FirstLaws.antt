-- The first of several faults.
use Rattle.std.proofs.Common.{◌≡◌, ℕ, zero, suc, ◌+◌, ◌<◌, Bool, true, false, Some, None, Option, refl, subst, ⊎_elim, add-one, arith}
use Rattle.std.proofs.lemmas.Bool.{cases_eq}
use Rattle.draft.specs.declared.fault.Fault.{Fault}
use Rattle.draft.specs.declared.refusal.Refusal.{Refusal}
use Rattle.layout.specs.Faults.{first, first_of, unless}

pub first_of_more : (t : ℕ → Option Fault) (k : ℕ) → first_of t k ≡ None → t k ≡ None → first_of t (k + 1) ≡ None
first_of_more t k a b = rw (add-one, a) b

-- the first fault stays the first, whatever follows
pub first_of_stop : (t : ℕ → Option Fault) (k n : ℕ) (f : Fault) → k < n → first_of t k ≡ None → t k ≡ Some f → first_of t n ≡ Some f
first_of_stop t k zero f h a b = absurd (omega arith)
first_of_stop t k (suc n) f h a b =
    ⊎_elim
    (λ e. let F : ℕ → Type 0 = λ m. first (first_of t m) (t m) ≡ Some f in subst F e (rw a b))
    (λ ne. rw (first_of_stop t k n f (omega arith) a b))
    (cases_eq k n)

-- no fault of two tests is none of either
pub first_none : (a b : Option Fault) → first a b ≡ None → (a ≡ None) × (b ≡ None)
first_none None b h = (refl, h)
first_none (Some f) b h = let z : ◌≡◌ {A = ℕ} 0 1 = cc in absurd (omega arith)

pub first_both : (a b : Option Fault) → a ≡ None → b ≡ None → first a b ≡ None
first_both a b e f = rw e f

pub first_of_none : (t : ℕ → Option Fault) (n : ℕ) → first_of t n ≡ None → (k : ℕ) → k < n → t k ≡ None
first_of_none t zero h k l = absurd (omega arith)
first_of_none t (suc n) h k l =
    let p = first_none (first_of t n) (t n) h in
    ⊎_elim (λ e. rw e p.1) (λ ne. first_of_none t n p.0 k (omega arith)) (cases_eq k n)

pub first_of_each : (t : ℕ → Option Fault) (n : ℕ) → ((k : ℕ) → k < n → t k ≡ None) → first_of t n ≡ None
first_of_each t zero h = refl
first_of_each t (suc n) h = first_both (first_of t n) (t n) (first_of_each t n (λ k l. h k (omega arith))) (h n (omega arith))

pub unless_none : (ok : Bool) (e : Refusal) (p : ℕ) → unless ok e p ≡ None → ok ≡ true
unless_none true e p h = refl
unless_none false e p h = let z : ◌≡◌ {A = ℕ} 0 1 = cc in absurd (omega arith)

pub unless_holds : (ok : Bool) (e : Refusal) (p : ℕ) → ok ≡ true → unless ok e p ≡ None
unless_holds ok e p h = rw h
