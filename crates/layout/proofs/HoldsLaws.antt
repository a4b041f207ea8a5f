-- Fields one after another, and the bits that they fix.
use Rattle.std.proofs.Common.{◌≡◌, ℕ, zero, suc, ◌+◌, ◌-◌, ◌/◌, ◌%◌, ◌^◌, ◌<◌, ◌≤◌, ltb, List, [], ◌∷◌, ◌++◌, sym, refl, ap, ◌∙◌, ⊎_elim, add-zero, add_assoc, arith}
use Rattle.std.specs.List.{AllByRecursion}
use Rattle.std.proofs.lemmas.Nat.{shr-shr}
use Rattle.std.proofs.lemmas.Bool.{cases_lt, cases_eq, cond-true, cond-false, lt-ltb, le-ltb}
use Rattle.bits.specs.Bits.{bit, val}
use Rattle.layout.specs.Held.{Holds, Fits}
use Rattle.layout.specs.Layout.{Field, size, laid}
use Rattle.bits.proofs.BitLaws.{bit_lt, val_ext, front_more, front_none}

pub size-append : (fs gs : List Field) → size (fs ++ gs) ≡ size fs + size gs
size-append [] gs = omega arith
size-append (f ∷ fs) gs = omega (arith, size-append fs gs)

pub holds_front : (s : List ℕ) (p : ℕ) (fs gs : List Field) → Holds s p (fs ++ gs) → Holds s p fs
holds_front s p [] gs h = tt
holds_front s p (f ∷ fs) gs h = (h.0, holds_front s (p + f.0) fs gs h.1)

pub holds_back : (s : List ℕ) (p : ℕ) (fs gs : List Field) → Holds s p (fs ++ gs) → Holds s (p + size fs) gs
holds_back s p [] gs h = rw add-zero h
holds_back s p (f ∷ fs) gs h = rw (← add_assoc) (holds_back s (p + f.0) fs gs h.1)

pub holds_append : (s : List ℕ) (p : ℕ) (fs gs : List Field) → Holds s p fs → Holds s (p + size fs) gs → Holds s p (fs ++ gs)
holds_append s p [] gs h k = rw add-zero at k
holds_append s p (f ∷ fs) gs h k = (h.0, holds_append s (p + f.0) fs gs h.1 (rw (← add_assoc) at k))

-- fields lie in bits, so equal bits hold the same fields
pub holds_same : (s t : List ℕ) (p : ℕ) (fs : List Field) → ((j : ℕ) → p ≤ j → j < p + size fs → bit t j ≡ bit s j) → Holds s p fs → Holds t p fs
holds_same s t p [] same h = tt
holds_same s t p (f ∷ fs) same h =
    (val_ext t s p f.0 (λ j a b. same j a (omega arith)) ∙ h.0, holds_same s t (p + f.0) fs (λ j a b. same j (omega arith) (omega arith)) h.1)

-- the bits of a number
pub val_bit : (s : List ℕ) (p w v j : ℕ) → val s p w ≡ v → j < w → bit s (p + j) ≡ v / 2 ^ (w - 1 - j) % 2
val_bit s p zero v j e h = absurd (omega arith)
val_bit s p (suc w) v j e h =
    let b = bit_lt s (p + w) in
    ⊎_elim
    (λ q.
    let z : suc w - 1 - j ≡ 0 = omega arith in
    let here : bit s (p + w) ≡ v / 1 % 2 = omega arith in
    ap (λ (x : ℕ). bit s (p + x)) q ∙ here ∙ sym (ap (λ (x : ℕ). v / 2 ^ x % 2) z))
    (λ ne.
    let m : suc w - 1 - j ≡ 1 + (w - 1 - j) = omega arith in
    let half : val s p w ≡ v / 2 ^ 1 = omega arith in
    rw (m, ← shr-shr v 1 (w - 1 - j)) (val_bit s p w (v / 2 ^ 1) j half (omega arith)))
    (cases_eq j w)

-- a number from its bits
pub bit_val : (s : List ℕ) (p w v i : ℕ) → i ≤ w → v < 2 ^ w → ((j : ℕ) → j < w → bit s (p + j) ≡ v / 2 ^ (w - 1 - j) % 2) → val s p i ≡ v / 2 ^ (w - i)
bit_val s p w v zero l h b = front_none v w h
bit_val s p w v (suc i) l h b =
    let more = front_more v w i (omega arith) in
    let e : w - (i + 1) ≡ w - suc i = omega arith in
    rw (← e) (omega (arith, bit_val s p w v i (omega arith) h b, b i (omega arith)))

laid_here : (f : Field) (fs : List Field) (j : ℕ) → j < f.0 → laid (f ∷ fs) j ≡ f.1 / 2 ^ (f.0 - 1 - j) % 2
laid_here f fs j h = cond-true (ltb j f.0) _ _ (lt-ltb j f.0 h)

laid_later : (f : Field) (fs : List Field) (j : ℕ) → f.0 ≤ j → laid (f ∷ fs) j ≡ laid fs (j - f.0)
laid_later f fs j h = cond-false (ltb j f.0) _ _ (le-ltb j f.0 h)

-- held fields are the bits laid end to end
pub holds_laid : (s : List ℕ) (p : ℕ) (fs : List Field) → Holds s p fs → (j : ℕ) → j < size fs → bit s (p + j) ≡ laid fs j
holds_laid s p [] h j l = absurd (omega arith)
holds_laid s p (f ∷ fs) h j l =
    ⊎_elim
    (λ lt. val_bit s p f.0 f.1 j h.0 lt ∙ sym (laid_here f fs j lt))
    (λ ge.
    let e : p + f.0 + (j - f.0) ≡ p + j = omega arith in
    sym (ap (bit s) e) ∙ holds_laid s (p + f.0) fs h.1 (j - f.0) (omega arith) ∙ sym (laid_later f fs j ge))
    (cases_lt j f.0)

pub laid_holds : (s : List ℕ) (p : ℕ) (fs : List Field) → AllByRecursion Fits fs → ((j : ℕ) → j < size fs → bit s (p + j) ≡ laid fs j) → Holds s p fs
laid_holds s p [] a h = tt
laid_holds s p (f ∷ fs) a h =
    let w = f.0 in
    let v = f.1 in
    let none : v / 2 ^ (w - w) ≡ v = (let z : w - w ≡ 0 = omega arith in rw z (omega arith)) in (
      bit_val s p w v w (omega arith) a.0 (λ j l. h j (omega arith) ∙ laid_here f fs j l) ∙ none,
      laid_holds s (p + w) fs a.1 (λ j l.
          let e : p + (w + j) ≡ p + w + j = omega arith in
          let d : w + j - w ≡ j = omega arith in
          sym (ap (bit s) e) ∙ h (w + j) (omega arith) ∙ laid_later f fs (w + j) (omega arith) ∙ ap (laid fs) d),
    )

pub laid_past : (fs : List Field) (j : ℕ) → size fs ≤ j → laid fs j ≡ 0
laid_past [] j h = refl
laid_past (f ∷ fs) j h = laid_later f fs j (omega arith) ∙ laid_past fs (j - f.0) (omega arith)
