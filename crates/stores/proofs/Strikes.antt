-- Drafts that are read off bits, and what making a pairing's bit 1 or 0 does to them.
use Rattle.std.proofs.Common.{◌≡◌, ℕ, Bool, true, false, not, ◌&&◌, ◌||◌, eqb, List, replicate, Some, None, Option, refl, ap, ◌∙◌}
use mathlib.Core.Path.{fun_ext}
use Rattle.std.proofs.lemmas.Bool.{and_left}
use Rattle.bits.specs.Bits.{is_set}
use Rattle.bits.proofs.TestLaws.{set_one, set_none, zeros_not_set}
use Rattle.draft.specs.Drafts.{Draft, Lawful, restrict, strike}
use Rattle.draft.specs.Labels.{named, pair_number}
use Rattle.draft.specs.declared.pairing.Pairing.{Pairing}
use Rattle.draft.proofs.DraftLaws.{restrict_strike, strike_absent}
use Rattle.draft.proofs.PairLaws.{pair_same}
use Rattle.stores.specs.Marks.{unmarked, BitMade, Made}

-- where nothing is marked, the whole draft is left
pub none_marked : (D : Draft) (number : Pairing → ℕ) (n : ℕ) (xs : List ℕ) → xs ≡ replicate n 0 → unmarked D number xs ≡ D
none_marked D number n xs z = λ t. record {
  courses = D.courses;
  choices = D.choices;
  stands = fun_ext (λ p. kept (D.stands p) _ (ap (λ l. is_set l (number p)) z ∙ zeros_not_set n (number p))) t;
}
  where
    kept : (x y : Bool) → y ≡ false → (x && not y) ≡ x
    kept true y e = ap not e
    kept false y e = refl

-- a bit passes where it is not as strikes make it
abbrev pub passes : (on : Bool) → Bool → Bool
passes true x = not x
passes false x = x

-- the pairings of D whose bits pass, at their numbers in the shape with the counts a
abbrev pub read : (on : Bool) → List ℕ → Draft → List ℕ → Draft
read on a D xs = restrict D (λ p. passes on (is_set xs (pair_number a p)))

-- the bit n alone no longer passes
made_passes : (on : Bool) (xs ys : List ℕ) (n : ℕ) → BitMade on xs ys n → (q : ℕ) → passes on (is_set ys q) ≡ (passes on (is_set xs q) && not (eqb n q))
made_passes true xs ys n m q = ap not (set_one xs ys n m.others m.here q) ∙ neither (is_set xs q) (eqb n q)
  where
    neither : (x y : Bool) → not (x || y) ≡ (not x && not y)
    neither true y = refl
    neither false y = refl
made_passes false xs ys n m q = set_none xs ys n m.others (ap (λ x. eqb x 1) m.here) q

-- making the bit of a pairing strikes it: o is its number, and without a number no such pairing stands
pub made_strikes : (on : Bool) (a : List ℕ) (D : Draft) (xs ys : List ℕ) (p : Pairing) (o : Option ℕ) → Lawful (read on a D xs)
    → ((q : Pairing) → D.stands q ≡ true → named a q ≡ true)
    → ((n : ℕ) → Some n ≡ o → (named a p ≡ true) × (n ≡ pair_number a p))
    → (None ≡ o → D.stands p ≡ false)
    → Made on o xs ys → read on a D ys ≡ strike (read on a D xs) p
made_strikes on a D xs ys p (Some n) l inside some none m =
    restrict_strike D (λ q. passes on (is_set xs (pair_number a q))) (λ q. passes on (is_set ys (pair_number a q))) p (λ q s.
    let told = some n refl in
    let one : eqb n (pair_number a q) ≡ _ = ap (λ k. eqb k (pair_number a q)) told.1 ∙ pair_same a p q told.0 (inside q s) in
    made_passes on xs ys n m (pair_number a q) ∙ ap (λ b. passes on (is_set xs (pair_number a q)) && not b) one)
made_strikes on a D xs ys p None l inside some none m =
    ap (read on a D) m ∙ strike_absent (read on a D xs) l p (and_left _ _ (none refl))
