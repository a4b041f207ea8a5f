-- Labels and pair numbers are one to one.
use Rattle.std.proofs.Common.{◌≡◌, ℕ, zero, suc, ◌+◌, ◌-◌, ◌*◌, ◌<◌, ◌≤◌, Bool, true, false, not, ◌&&◌, eqb, ltb, ◌⊎◌, List, get_or, take, Some, None, Decides, sum, sym, refl, ap, ap₂, ◌∙◌, inl, inr, mul_comm, mul-suc, arith}
use native.Mathlib.Decide.{le_ind}
use Rattle.std.proofs.lemmas.Bool.{cases_Bool, cases_lt, cases_eq, cases_order, cond-true, cond-false, eq-eqb, ne_eqb, lt-ltb, le-ltb}
use Rattle.std.proofs.lemmas.Bool.Decides.{Decides-and, Decides-or, Decides-not, Decides-like, Decides-eqb, Decides-ltb, same_from_decides}
use Rattle.draft.specs.Labels.{there, label, label_of, named, pairs_among, ordered, between, pair_number, pair_of, pair_count}
use Rattle.draft.specs.Pairings.{mirrored, same_side, same}
use Rattle.draft.specs.declared.pairing.Pairing.{Pairing}
use Rattle.draft.specs.declared.pairing.Side.{Side}
use Rattle.draft.specs.Shapes.{counts}
use Rattle.draft.specs.declared.shape.Shape.{Shape}
use Rattle.draft.proofs.ShapeLaws.{label_below, label_in, labels_most, limits}

-- choices with one label are one choice
pub label_same : (a : List ℕ) (x y : Side) → x.choice < get_or a x.course 0 → y.choice < get_or a y.course 0 → label a x ≡ label a y → x ≡ y
label_same a x y hx hy e =
    elim (cases_order x.course y.course) [
      | inl p ↦ (let q : sum (take x.course a) ≡ sum (take y.course a) = ap (λ n. sum (take n a)) p in let r : x.choice ≡ y.choice = omega arith in λ t. record { course = p t; choice = r t })
      | inr (inl l) ↦ absurd (omega (arith, label_below a x y.course l hx))
      | inr (inr l) ↦ absurd (omega (arith, label_below a y x.course l hy))
    ]

-- an answered label is that of a choice
pub label_some : (a : List ℕ) (x : Side) (u : ℕ) → Some u ≡ label_of a x → (x.choice < get_or a x.course 0) × (u ≡ label a x)
label_some a x u e =
    elim (cases_lt x.choice (get_or a x.course 0)) [
      | inl l ↦ (l, let f : Some u ≡ Some (label a x) = e ∙ cond-true (there a x) _ _ (lt-ltb x.choice (get_or a x.course 0) l) in cc)
      | inr l ↦ absurd (let f : Some u ≡ None = e ∙ cond-false (there a x) _ _ (le-ltb x.choice (get_or a x.course 0) l) in let z : ◌≡◌ {A = ℕ} 0 1 = cc in omega arith)
    ]

-- a label more makes a pair with each of v labels
pairs_suc : (v : ℕ) → pairs_among (suc v) ≡ pairs_among v + v
pairs_suc zero = refl
pairs_suc (suc w) =
    let e : suc (suc w) * suc w ≡ suc w * w + suc w + suc w = mul_comm (suc (suc w)) (suc w) ∙ mul-suc (suc w) (suc w) ∙ ap (λ n. n + suc w) (mul-suc (suc w) w) in
    let s : suc (suc w) - 1 ≡ suc w = omega arith in
    let t : suc w - 1 ≡ w = omega arith in
    rw (s, t, e) (omega arith)

-- more labels make more pairs
pub pairs_below : (v w : ℕ) → v < w → pairs_among v + v ≤ pairs_among w
pairs_below v w h = le_ind (λ n. pairs_among v + v ≤ pairs_among n) (omega (arith, pairs_suc v)) (λ m _ q. omega (arith, pairs_suc m)) w h

-- 192 labels make 18336 pairs
pub pairs_most : (n : ℕ) → n ≤ 192 → pairs_among n ≤ 18336
pairs_most n h =
    elim (cases_lt n 192) [
      | inl l ↦ omega (arith, pairs_below n 192 l)
      | inr l ↦ let e : n ≡ 192 = omega arith in omega (arith, ap (λ m. pairs_among m) e)
    ]

-- the pair numbers of a shape are below 18336
pub number_below : (s : Shape) (p : ℕ) → p < pair_count (counts s) → p < 18336
number_below s p h = omega (arith, pairs_most _ (labels_most (counts s) (limits s)))

-- ordered pairs with one number are one pair
ordered_same : (u v x y : ℕ) → u < v → x < y → ordered u v ≡ ordered x y → (u ≡ x) × (v ≡ y)
ordered_same u v x y h k e =
    elim (cases_order v y) [
      | inl p ↦ (let q : pairs_among v ≡ pairs_among y = ap (λ n. pairs_among n) p in omega arith, p)
      | inr (inl l) ↦ absurd (omega (arith, pairs_below v y l))
      | inr (inr l) ↦ absurd (omega (arith, pairs_below y v l))
    ]

-- the labels in order, with their pair number
sorted : (u v : ℕ) → (u ≡ v → ⊥) → ((u < v) × (between u v ≡ ordered u v)) ⊎ ((v < u) × (between u v ≡ ordered v u))
sorted u v n =
    elim (cases_order u v) [
      | inl e ↦ absurd (n e)
      | inr (inl h) ↦ inl (h, cond-true (ltb u v) _ _ (lt-ltb u v h))
      | inr (inr h) ↦ inr (h, cond-false (ltb u v) _ _ (le-ltb u v (omega arith)))
    ]

-- a pair number is the same from either side
pub between_swap : (u v : ℕ) → between u v ≡ between v u
between_swap u v =
    elim (cases_order u v) [
      | inl e ↦ ap (λ w. between u w) (sym e) ∙ ap (λ w. between w u) e
      | inr (inl h) ↦ cond-true (ltb u v) _ _ (lt-ltb u v h) ∙ sym (cond-false (ltb v u) _ _ (le-ltb v u (omega arith)))
      | inr (inr h) ↦ cond-false (ltb u v) _ _ (le-ltb u v (omega arith)) ∙ sym (cond-true (ltb v u) _ _ (lt-ltb v u h))
    ]

-- two pairs of labels with one number are one pair
pub between_same : (u v x y : ℕ) → (u ≡ v → ⊥) → (x ≡ y → ⊥) → between u v ≡ between x y → ((u ≡ x) × (v ≡ y)) ⊎ ((u ≡ y) × (v ≡ x))
between_same u v x y n m e =
    elim (sorted u v n) [
      | inl p ↦ elim (sorted x y m) [
        | inl q ↦ inl (ordered_same u v x y p.0 q.0 (sym p.1 ∙ e ∙ q.1))
        | inr q ↦ inr (ordered_same u v y x p.0 q.0 (sym p.1 ∙ e ∙ q.1))
      ]
      | inr p ↦ elim (sorted x y m) [
        | inl q ↦ let r = ordered_same v u x y p.0 q.0 (sym p.1 ∙ e ∙ q.1) in inr (r.1, r.0)
        | inr q ↦ let r = ordered_same v u y x p.0 q.0 (sym p.1 ∙ e ∙ q.1) in inl (r.1, r.0)
      ]
    ]

-- the pair number of two of n labels is below the number of pairs
pub between_below : (n u v : ℕ) → (u ≡ v → ⊥) → u < n → v < n → between u v < pairs_among n
between_below n u v d h k =
    elim (sorted u v d) [
      | inl p ↦ omega (arith, p.1, pairs_below v n k)
      | inr p ↦ omega (arith, p.1, pairs_below u n h)
    ]

-- equality of numbers is the same from either side
pub eqb_swap : (i j : ℕ) → eqb i j ≡ eqb j i
eqb_swap i j = elim (cases_eq i j) [ inl e ↦ eq-eqb i j e ∙ sym (eq-eqb j i (sym e)) | inr n ↦ ne_eqb i j n ∙ sym (ne_eqb j i (λ e. n (sym e))) ]

-- the first two of three tests may be turned
pub turn : (x y z : Bool) → (x && (y && z)) ≡ (y && (x && z))
turn true true z = refl
turn true false z = refl
turn false true z = refl
turn false false z = refl

-- a pairing is named from either side
pub named_swap : (a : List ℕ) (p : Pairing) → named a p ≡ named a (mirrored p)
named_swap a p =
    turn (there a p.one) (there a p.other) (not (eqb p.one.course p.other.course))
    ∙ ap (λ t. there a p.other && (there a p.one && not t)) (eqb_swap p.one.course p.other.course)

-- what `named` tells
pub named_says : (a : List ℕ) (p : Pairing) → Decides (named a p) ((p.one.choice < get_or a p.one.course 0) × ((p.other.choice < get_or a p.other.course 0) × (p.one.course ≡ p.other.course → ⊥)))
named_says a p =
    Decides-and _ _ (Decides-ltb p.one.choice (get_or a p.one.course 0))
    (Decides-and _ _ (Decides-ltb p.other.choice (get_or a p.other.course 0)) (Decides-not _ (Decides-eqb p.one.course p.other.course)))

-- the labels of choices of two courses make the number of their pairing
pub labels_pair : (a : List ℕ) (p : Pairing) (u v n : ℕ) → Some u ≡ label_of a p.one → Some v ≡ label_of a p.other → (p.one.course ≡ p.other.course → ⊥)
    → n ≡ between u v → (named a p ≡ true) × (n ≡ pair_number a p)
labels_pair a p u v n one other apart is =
    let x = label_some a p.one u one in
    let y = label_some a p.other v other in
    ((named_says a p).1 (x.0, (y.0, apart)), is ∙ ap₂ between x.1 y.1)

-- a pairing has the number of its mirrored name
pub number_swap : (a : List ℕ) (p : Pairing) → pair_number a p ≡ pair_number a (mirrored p)
number_swap a p = between_swap (label a p.one) (label a p.other)

-- what `same_side` tells
same_side_says : (x y : Side) → Decides (same_side x y) (x ≡ y)
same_side_says x y =
    Decides-like _ (λ h t. record { course = h.0 t; choice = h.1 t }) (λ e. (ap (λ s. s.course) e, ap (λ s. s.choice) e))
    (Decides-and _ _ (Decides-eqb x.course y.course) (Decides-eqb x.choice y.choice))

-- what `same` tells
pub same_says : (p q : Pairing) → Decides (same p q) ((p ≡ q) ⊎ (p ≡ mirrored q))
same_says p q =
    Decides-or _ _
    (Decides-like _ (both p q) (parts p q) (Decides-and _ _ (same_side_says p.one q.one) (same_side_says p.other q.other)))
    (Decides-like _ (both p (mirrored q)) (parts p (mirrored q)) (Decides-and _ _ (same_side_says p.one q.other) (same_side_says p.other q.one)))
  where
    both : (p q : Pairing) → (p.one ≡ q.one) × (p.other ≡ q.other) → p ≡ q
    both p q h = λ t. record { one = h.0 t; other = h.1 t }

    parts : (p q : Pairing) → p ≡ q → (p.one ≡ q.one) × (p.other ≡ q.other)
    parts p q e = (ap (λ r. r.one) e, ap (λ r. r.other) e)

-- the two choices of a pairing have two labels
pub labels_differ : (a : List ℕ) (p : Pairing) → named a p ≡ true → label a p.one ≡ label a p.other → ⊥
labels_differ a p s z =
    let h = (named_says a p).0 s in
    h.1.1 (ap (λ x. x.course) (label_same a p.one p.other h.0 h.1.0 z))

-- a pair number is below the number of them
pub pair_below : (a : List ℕ) (p : Pairing) → named a p ≡ true → pair_number a p < pair_count a
pair_below a p s =
    let h = (named_says a p).0 s in
    between_below (sum a) (label a p.one) (label a p.other) (labels_differ a p s) (label_in a p.one h.0) (label_in a p.other h.1.0)

-- an answered pair number is that of a pairing
pub pair_some : (a : List ℕ) (p : Pairing) (n : ℕ) → Some n ≡ pair_of a p → (named a p ≡ true) × (n ≡ pair_number a p)
pair_some a p n e =
    elim (cases_Bool (named a p)) [
      | inl t ↦ (t, let f : Some n ≡ Some (pair_number a p) = e ∙ cond-true (named a p) _ _ t in cc)
      | inr t ↦ absurd (let f : Some n ≡ None = e ∙ cond-false (named a p) _ _ t in let z : ◌≡◌ {A = ℕ} 0 1 = cc in omega arith)
    ]

-- what has no pair number is no pairing
pub pair_none : (a : List ℕ) (p : Pairing) → None ≡ pair_of a p → named a p ≡ false
pair_none a p e =
    elim (cases_Bool (named a p)) [
      | inl t ↦ absurd (let f : None ≡ Some (pair_number a p) = e ∙ cond-true (named a p) _ _ t in let z : ◌≡◌ {A = ℕ} 0 1 = cc in omega arith)
      | inr t ↦ t
    ]

-- one pairing has one number
one_number : (a : List ℕ) (p q : Pairing) → (p ≡ q) ⊎ (p ≡ mirrored q) → pair_number a p ≡ pair_number a q
one_number a p q (inl h) = ap (pair_number a) h
one_number a p q (inr h) = ap (pair_number a) h ∙ sym (number_swap a q)

-- one number is that of one pairing
one_pairing : (a : List ℕ) (p q : Pairing) → named a p ≡ true → named a q ≡ true
    → pair_number a p ≡ pair_number a q → (p ≡ q) ⊎ (p ≡ mirrored q)
one_pairing a p q s t h =
    let x = (named_says a p).0 s in
    let y = (named_says a q).0 t in
    elim (between_same _ _ _ _ (labels_differ a p s) (labels_differ a q t) h) [
      | inl z ↦ (let u = label_same a p.one q.one x.0 y.0 z.0 in let v = label_same a p.other q.other x.1.0 y.1.0 z.1 in inl (λ k. record { one = u k; other = v k }))
      | inr z ↦ (let u = label_same a p.one q.other x.0 y.1.0 z.0 in let v = label_same a p.other q.one x.1.0 y.0 z.1 in inr (λ k. record { one = u k; other = v k }))
    ]

-- pairings of one shape have one number where they are one pairing, and only there
pub pair_same : (a : List ℕ) (p q : Pairing) → named a p ≡ true → named a q ≡ true
    → eqb (pair_number a p) (pair_number a q) ≡ same p q
pair_same a p q s t =
    same_from_decides _ _
    (Decides-eqb (pair_number a p) (pair_number a q))
    (Decides-like _ (one_number a p q) (one_pairing a p q s t) (same_says p q))
