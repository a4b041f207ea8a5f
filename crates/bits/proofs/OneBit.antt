-- One bit of a number changed, the others kept.
use Rattle.std.proofs.Common.{◌≡◌, ℕ, suc, ◌+◌, ◌-◌, ◌*◌, ◌/◌, ◌%◌, ◌^◌, ◌<◌, ◌≤◌, Bool, true, false, cond, List, length, get_or, set, sym, refl, ap, ◌∙◌, subst, ⊎_elim, mul_assoc, add-mul, add_comm, mul_left_comm, arith, pow_mono}
use mir.Val.{bool_byte}
use native.Mathlib.Nat.{add-mul-div_right}
use Rattle.std.proofs.lemmas.Nat.{pow-add, pow_pos, shr-shr, shr_split, shr_high, mod_below, shr_below, mul-le, mul-add-lt}
use Rattle.std.proofs.lemmas.List.{get_or-set_same, get_or-set_other}
use Rattle.std.proofs.lemmas.Bool.{cases_eq, cases_order}
use Rattle.bits.specs.Bits.{bit}

-- x with its bit p made b
abbrev pub made : ℕ → ℕ → ℕ → ℕ
made x p b = x - x / 2 ^ p % 2 * 2 ^ p + b * 2 ^ p

abbrev parts : ℕ → ℕ → ℕ → ℕ → ℕ
parts h c p l = (h * 2 + c) * 2 ^ p + l

whole : (x p : ℕ) → x ≡ parts (x / 2 ^ p / 2) (x / 2 ^ p % 2) p (x % 2 ^ p)
whole x p =
    let e : x / 2 ^ p / 2 * 2 + x / 2 ^ p % 2 ≡ x / 2 ^ p = omega arith in
    rw e (sym (shr_split x p))

made_parts : (x p b : ℕ) → made x p b ≡ parts (x / 2 ^ p / 2) b p (x % 2 ^ p)
made_parts x p b =
    omega (arith, whole x p, add-mul (x / 2 ^ p / 2 * 2) (x / 2 ^ p % 2) (2 ^ p), add-mul (x / 2 ^ p / 2 * 2) b (2 ^ p))

pub taken : (x p : ℕ) → x / 2 ^ p % 2 * 2 ^ p ≤ x
taken x p = omega (arith, whole x p, add-mul (x / 2 ^ p / 2 * 2) (x / 2 ^ p % 2) (2 ^ p))

bit_here : (h c p l : ℕ) → c < 2 → l < 2 ^ p → parts h c p l / 2 ^ p % 2 ≡ c
bit_here h c p l s t = rw (shr_high (h * 2 + c) p l t) (omega arith)

bit_above : (h c p l d : ℕ) → c < 2 → l < 2 ^ p → parts h c p l / 2 ^ (p + (1 + d)) % 2 ≡ h / 2 ^ d % 2
bit_above h c p l d s t =
    let e : (h * 2 + c) / 2 ^ 1 ≡ h = omega arith in
    rw (← shr-shr (parts h c p l) p (1 + d), shr_high (h * 2 + c) p l t, ← shr-shr (h * 2 + c) 1 d, e)

bit_below : (m l d q : ℕ) → (m * 2 ^ (1 + d + q) + l) / 2 ^ q % 2 ≡ l / 2 ^ q % 2
bit_below m l d q =
    let e : m * 2 ^ (1 + d + q) ≡ m * 2 ^ (1 + d) * 2 ^ q = rw (pow-add 2 (1 + d) q) (sym (mul_assoc m (2 ^ (1 + d)) (2 ^ q))) in
    let f : m * 2 ^ (1 + d) ≡ 2 * (m * 2 ^ d) = rw (pow-add 2 1 d) (mul_left_comm m 2 (2 ^ d)) in
    let g : (l + m * 2 ^ (1 + d) * 2 ^ q) / 2 ^ q ≡ l / 2 ^ q + m * 2 ^ (1 + d) = add-mul-div_right l (m * 2 ^ (1 + d)) (pow_pos q) in
    rw (e, add_comm (m * 2 ^ (1 + d) * 2 ^ q) l, g) (omega (arith, f))

-- the bits other than p do not see the bit at p
other_bit : (h c b p l q : ℕ) → c < 2 → b < 2 → l < 2 ^ p → (q ≡ p → ⊥) → parts h b p l / 2 ^ q % 2 ≡ parts h c p l / 2 ^ q % 2
other_bit h c b p l q s t u ne =
    ⊎_elim (λ e. absurd (ne e)) (λ o. ⊎_elim
    (λ lt.
    let d = p - suc q in
    let e : p ≡ 1 + d + q = omega arith in
    let F : ℕ → Type 0 = λ r. parts h b r l / 2 ^ q % 2 ≡ parts h c r l / 2 ^ q % 2 in
    subst F (sym e) (bit_below (h * 2 + b) l d q ∙ sym (bit_below (h * 2 + c) l d q)))
    (λ gt.
    let d = q - suc p in
    let e : q ≡ p + (1 + d) = omega arith in
    let F : ℕ → Type 0 = λ r. parts h b p l / 2 ^ r % 2 ≡ parts h c p l / 2 ^ r % 2 in
    subst F (sym e) (bit_above h b p l d t u ∙ sym (bit_above h c p l d s u)))
    o) (cases_order q p)

pub made_here : (x p b : ℕ) → b < 2 → made x p b / 2 ^ p % 2 ≡ b
made_here x p b h = rw (made_parts x p b) (bit_here (x / 2 ^ p / 2) b p (x % 2 ^ p) h (mod_below x (2 ^ p) (pow_pos p)))

pub made_other : (x p b q : ℕ) → b < 2 → (q ≡ p → ⊥) → made x p b / 2 ^ q % 2 ≡ x / 2 ^ q % 2
made_other x p b q h ne =
    let o = other_bit (x / 2 ^ p / 2) (x / 2 ^ p % 2) b p (x % 2 ^ p) q (omega arith) h (mod_below x (2 ^ p) (pow_pos p)) ne in
    ap (λ y. y / 2 ^ q % 2) (made_parts x p b) ∙ o ∙ ap (λ y. y / 2 ^ q % 2) (sym (whole x p))

-- the byte that the code makes: its shifts lose nothing
module _ (x p b : ℕ) (byte : x < 256) (low : p < 8) (two : b < 2) where
  weight : 2 ^ p ≤ 128
  weight = pow_mono {i = p} {j = 7} (omega arith)

  pub cleared : x / 2 ^ p % 2 * 2 ^ p % 256 ≡ x / 2 ^ p % 2 * 2 ^ p
  cleared = omega (arith, taken x p)

  pub placed : b * 2 ^ p % 256 ≡ b * 2 ^ p
  placed = let w = weight in let h : b * 2 ^ p ≤ 1 * 2 ^ p = mul-le b (2 ^ p) 1 (2 ^ p) (omega arith) (omega arith) in omega arith

  pub coded : x - x / 2 ^ p % 2 * 2 ^ p % 256 + b * 2 ^ p % 256 ≡ made x p b
  coded = rw (cleared, placed)

  -- x < 2 ^ (7 - p) * 2 * 2 ^ p, and so is what is made
  pub made_byte : made x p b < 256
  made_byte =
      let d = 7 - p in
      let e : 1 + d + p ≡ 8 = omega arith in
      let f : x < 2 ^ (1 + d + p) = subst (λ (n : ℕ). x < 2 ^ n) (sym e) byte in
      let top = shr_below x (1 + d) p f in
      let even = pow-add 2 1 d in
      let m : parts (x / 2 ^ p / 2) b p (x % 2 ^ p) < 2 ^ p * 2 ^ (1 + d) = mul-add-lt (x / 2 ^ p / 2 * 2 + b) (2 ^ p) (x % 2 ^ p) (2 ^ (1 + d)) (omega arith) (mod_below x (2 ^ p) (pow_pos p)) in
      let eight : p + (1 + d) ≡ 8 = omega arith in
      let g : 2 ^ p * 2 ^ (1 + d) ≡ 256 = sym (pow-add 2 p (1 + d)) ∙ ap (λ (n : ℕ). 2 ^ n) eight in
      omega (arith, made_parts x p b)

-- the same of the bits of a list of bytes
module _ (s : List ℕ) (k b v : ℕ) (inside : k / 8 < length s) (two : b < 2) (is : v ≡ made (get_or s (k / 8) 0) (7 - k % 8) b) where
  pub bit_set : bit (set s (k / 8) v) k ≡ b
  bit_set = rw (get_or-set_same s (k / 8) v 0 inside, is) (made_here (get_or s (k / 8) 0) (7 - k % 8) b two)

  pub bit_kept : (j : ℕ) → (j ≡ k → ⊥) → bit (set s (k / 8) v) j ≡ bit s j
  bit_kept j ne =
      ⊎_elim
      (λ e.
      let F : ℕ → Type 0 = λ i. get_or (set s (k / 8) v) i 0 / 2 ^ (7 - j % 8) % 2 ≡ get_or s i 0 / 2 ^ (7 - j % 8) % 2 in
      subst F (sym e) (rw (get_or-set_same s (k / 8) v 0 inside, is) (made_other (get_or s (k / 8) 0) (7 - k % 8) b (7 - j % 8) two (λ q. ne (omega arith)))))
      (λ o. rw (get_or-set_other s (k / 8) (j / 8) v 0 o))
      (cases_eq (j / 8) (k / 8))

-- the byte of a test
pub byte_is : (on : Bool) → bool_byte on ≡ cond on 1 0
byte_is true = refl
byte_is false = refl

pub byte_below : (on : Bool) → bool_byte on < 2
byte_below true = omega arith
byte_below false = omega arith
