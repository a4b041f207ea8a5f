-- Bits as tests: one bit made 1 or 0, and bytes of zeros.
use Rattle.std.proofs.Common.{◌≡◌, ℕ, ◌-◌, ◌/◌, ◌%◌, ◌^◌, Bool, true, false, not, ◌&&◌, ◌||◌, eqb, List, get_or, replicate, sym, refl, ap, ◌∙◌, inl, inr, arith}
use native.Mathlib.Nat.{zero-div}
use Rattle.std.proofs.lemmas.List.{get_or_past, get_or-replicate, length-replicate}
use Rattle.std.proofs.lemmas.Bool.{cases_eq, cases_lt, eq-eqb, ne_eqb}
use Rattle.bits.specs.Bits.{bit, is_set}

-- s with bit k made 1 or 0 is t
module _ (s t : List ℕ) (k : ℕ) (others : (j : ℕ) → (j ≡ k → ⊥) → bit t j ≡ bit s j) where
  kept : (q : ℕ) → (k ≡ q → ⊥) → is_set t q ≡ is_set s q
  kept q ne = ap (λ (n : ℕ). eqb n 1) (others q (λ e. ne (sym e)))

  pub set_one : bit t k ≡ 1 → (q : ℕ) → is_set t q ≡ (is_set s q || eqb k q)
  set_one one q =
      elim (cases_eq k q) [
        | inl e ↦ (ap (λ n. is_set t n) (sym e) ∙ ap (λ (n : ℕ). eqb n 1) one ∙ sym (or_yes (is_set s q) (eqb k q) (eq-eqb k q e)))
        | inr ne ↦ (kept q ne ∙ sym (or_no (is_set s q) (eqb k q) (ne_eqb k q ne)))
      ]
    where
      or_yes : (x y : Bool) → y ≡ true → (x || y) ≡ true
      or_yes true y e = refl
      or_yes false y e = e

      or_no : (x y : Bool) → y ≡ false → (x || y) ≡ x
      or_no true y e = refl
      or_no false y e = e

  pub set_none : is_set t k ≡ false → (q : ℕ) → is_set t q ≡ (is_set s q && not (eqb k q))
  set_none none q =
      elim (cases_eq k q) [
        | inl e ↦ (ap (λ n. is_set t n) (sym e) ∙ none ∙ sym (and_no (is_set s q) (eqb k q) (eq-eqb k q e)))
        | inr ne ↦ (kept q ne ∙ sym (and_yes (is_set s q) (eqb k q) (ne_eqb k q ne)))
      ]
    where
      and_no : (x y : Bool) → y ≡ true → (x && not y) ≡ false
      and_no true y e = ap not e
      and_no false y e = refl

      and_yes : (x y : Bool) → y ≡ false → (x && not y) ≡ x
      and_yes true y e = ap not e
      and_yes false y e = refl

-- no bit of zeros is 1
pub zeros_not_set : (n k : ℕ) → is_set (replicate n 0) k ≡ false
zeros_not_set n k = ap (λ (x : ℕ). eqb (x / 2 ^ (7 - k % 8) % 2) 1) byte ∙ ap (λ (x : ℕ). eqb (x % 2) 1) (zero-div (2 ^ (7 - k % 8)))
  where
    byte : ◌≡◌ {A = ℕ} (get_or (replicate n 0) (k / 8) 0) 0
    byte =
        elim (cases_lt (k / 8) n) [
          | inl h ↦ get_or-replicate {A = ℕ} n (k / 8) 0 0 h
          | inr h ↦ get_or_past (replicate n 0) (k / 8) 0 (omega (arith, length-replicate {A = ℕ} n 0))
        ]
