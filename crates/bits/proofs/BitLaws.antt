-- The numbers that bits mean, and the bits of a number.
use Rattle.std.proofs.Common.{◌≡◌, ℕ, zero, suc, ◌+◌, ◌-◌, ◌*◌, ◌/◌, ◌%◌, ◌^◌, ◌<◌, ◌≤◌, List, length, get_or, sym, refl, ap, pow-suc, add-one, arith, pow_mono}
use native.Mathlib.Nat.{sub-zero, div-eq_of_lt, zero-div}
use Rattle.std.proofs.lemmas.Nat.{mod_below, shr-shr}
use Rattle.std.proofs.lemmas.List.{get_or_past}
use Rattle.bits.specs.Bits.{bit, val}

pub bit_lt : (s : List ℕ) (k : ℕ) → bit s k < 2
bit_lt s k = mod_below (get_or s (k / 8) 0 / 2 ^ (7 - k % 8)) 2 (omega arith)

pub val_lt : (s : List ℕ) (p w : ℕ) → val s p w < 2 ^ w
val_lt s p zero = omega arith
val_lt s p (suc w) = omega (arith, val_lt s p w, bit_lt s (p + w), pow-suc 2 w)

-- below sixteen bits there is room for one more
pub room : (s : List ℕ) (p w : ℕ) → w < 16 → val s p w < 2 ^ 15
room s p w h = omega (arith, val_lt s p w, pow_mono {i = w} {j = 15} (omega arith))

pub val_more : (s : List ℕ) (p w : ℕ) → val s p (w + 1) ≡ val s p w * 2 + bit s (p + w)
val_more s p w = rw add-one

-- equal bits mean equal numbers
pub val_ext : (s t : List ℕ) (p w : ℕ) → ((j : ℕ) → p ≤ j → j < p + w → bit s j ≡ bit t j) → val s p w ≡ val t p w
val_ext s t p zero same = refl
val_ext s t p (suc w) same =
    omega (arith, val_ext s t p w (λ j a b. same j a (omega arith)), same (p + w) (omega arith) (omega arith))

-- the front of a number, one bit on
pub front_more : (v w i : ℕ) → i < w → v / 2 ^ (w - i) * 2 + v / 2 ^ (w - 1 - i) % 2 ≡ v / 2 ^ (w - (i + 1))
front_more v w i h =
    let d = w - 1 - i in
    let e : w - i ≡ d + 1 = omega arith in
    let f : w - (i + 1) ≡ d = omega arith in
    rw (e, f, ← shr-shr v d 1) (omega arith)

pub front_none : (v w : ℕ) → v < 2 ^ w → 0 ≡ v / 2 ^ (w - 0)
front_none v w h = rw (sub-zero w) (sym (div-eq_of_lt h))

-- no bit past the end
pub bit_past : (s : List ℕ) (k : ℕ) → length s ≤ k / 8 → bit s k ≡ 0
bit_past s k h = rw (get_or_past s (k / 8) 0 h) (ap (λ (x : ℕ). x % 2) (zero-div (2 ^ (7 - k % 8))))
