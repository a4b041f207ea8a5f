-- What the limits of a shape say of its counts and its labels.
use Rattle.std.proofs.Common.{◌≡◌, ℕ, zero, suc, ◌+◌, ◌-◌, ◌*◌, ◌<◌, ◌≤◌, List, map, length, get_or, take, sum, sym, ap, ◌∙◌, inl, inr, add-one, arith}
use Rattle.std.specs.List.{range_with_len, AllByRecursion}
use Rattle.std.proofs.ByRecursion.{All-from_get_or, All-take, sum_by_le}
use Rattle.std.proofs.lemmas.List.{get_or_past, ext_get_or, length-take, take_all, take-take}
use Rattle.std.proofs.lemmas.List.FromFn.{length-map-range_with_len, get_or-map-range_with_len}
use Rattle.std.proofs.lemmas.List.Sums.{sum_by_more, sum_by-take-le}
use Rattle.std.proofs.lemmas.Bool.{cases_lt}
use Rattle.draft.specs.Labels.{label}
use Rattle.draft.specs.Limits.{Limits}
use Rattle.draft.specs.Shapes.{counts}
use Rattle.draft.specs.declared.pairing.Side.{Side}
use Rattle.draft.specs.declared.shape.Shape.{Shape}

-- there is a count for each course
pub counts_length : (s : Shape) → length (counts s) ≡ s.len
counts_length s = length-map-range_with_len _ 0 s.len

-- the count of course k
pub counts_at : (s : Shape) (k : ℕ) → k < s.len → get_or (counts s) k 0 ≡ get_or s.firsts (k + 1) 0 - get_or s.firsts k 0
counts_at s k h = get_or-map-range_with_len _ 0 s.len k k 0 h (omega arith)

-- no shape is outside the limits
pub limits : (s : Shape) → Limits (counts s)
limits s =
    let n = counts_length s in (
      omega (arith, s.few),
      omega (arith, s.many),
      λ k h. let l : k < s.len = omega arith in let e = s.each k l in (omega (arith, counts_at s k l, e.0), omega (arith, counts_at s k l, e.1)),
    )

-- a course with a choice is there
pub within : (a : List ℕ) (k b : ℕ) → b < get_or a k 0 → k < length a
within a k b h = elim (cases_lt k (length a)) [ inl l ↦ l | inr l ↦ absurd (omega (arith, get_or_past a k 0 l)) ]

-- no course has more than 8 choices
pub at_most : (a : List ℕ) → Limits a → (k : ℕ) → get_or a k 0 ≤ 8
at_most a m k = elim (cases_lt k (length a)) [ inl l ↦ (m.2 k l).1 | inr l ↦ omega (arith, get_or_past a k 0 l) ]

-- one course more adds its choices
pub sum_more : (a : List ℕ) (k : ℕ) → sum (take (k + 1) a) ≡ sum (take k a) + get_or a k 0
sum_more a k =
    elim (cases_lt k (length a)) [
      | inl l ↦ sum_by_more (λ x. x) a k 0 l
      | inr l ↦ let p = ap sum (take_all k a l) in let q = ap sum (take_all (k + 1) a (omega arith)) in omega (arith, p, q, get_or_past a k 0 l)
    ]

-- the first label of course k, and after the last course the number of labels
pub firsts_at : (s : Shape) (k : ℕ) → k ≤ s.len → get_or s.firsts k 0 ≡ sum (take k (counts s))
firsts_at s zero h = s.from
firsts_at s (suc k) h =
    let more : sum (take (k + 1) (counts s)) ≡ sum (take k (counts s)) + get_or (counts s) k 0 = sum_more (counts s) k in
    let below = firsts_at s k (omega arith) in
    let l : k < s.len = omega arith in
    let e : get_or s.firsts (k + 1) 0 ≡ sum (take (k + 1) (counts s)) = omega (arith, more, below, counts_at s k l, (s.each k l).0) in
    ap (λ n. get_or s.firsts n 0) (sym (add-one k)) ∙ e ∙ ap (λ n. sum (take n (counts s))) (add-one k)

-- more courses have no fewer labels
pub sum_mono : (a : List ℕ) (j k : ℕ) → j ≤ k → sum (take j a) ≤ sum (take k a)
sum_mono a j k h = omega (arith, sum_by-take-le (λ x. x) (take k a) j, ap sum (take-take j k a h))

-- k courses have at most 8 * k labels
pub sum_most : (a : List ℕ) → Limits a → (k : ℕ) → sum (take k a) ≤ 8 * k
sum_most a m k =
    let each : AllByRecursion (λ x. x ≤ 8) a = All-from_get_or (λ x. x ≤ 8) a 0 (λ i h. (m.2 i h).1) in
    omega (arith, sum_by_le (λ x. x) 8 (take k a) (All-take (λ x. x ≤ 8) k a each), length-take k a)

-- there are at most 192 labels
pub labels_most : (a : List ℕ) → Limits a → sum a ≤ 192
labels_most a m = omega (arith, m.1, sum_most a m (length a), ap sum (take_all (length a) a (omega arith)))

-- there are at least 2 labels
pub labels_least : (a : List ℕ) → Limits a → 2 ≤ sum a
labels_least a m =
    let one : sum (take 1 a) ≡ sum (take 0 a) + get_or a 0 0 = sum_more a 0 in
    let two : sum (take 2 a) ≡ sum (take 1 a) + get_or a 1 0 = sum_more a 1 in
    omega (arith, m.0, one, two, (m.2 0 (omega (arith, m.0))).0, (m.2 1 (omega (arith, m.0))).0, sum_by-take-le (λ x. x) a 2)

-- after the last course comes the number of labels
pub firsts_last : (s : Shape) → get_or s.firsts s.len 0 ≡ sum (counts s)
firsts_last s = firsts_at s s.len (omega arith) ∙ ap sum (take_all s.len (counts s) (omega (arith, counts_length s)))

-- a course with a choice is one of the shape
pub course_in : (s : Shape) (k b : ℕ) → b < get_or (counts s) k 0 → k < s.len
course_in s k b h = omega (arith, within (counts s) k b h, counts_length s)

-- the labels of a course stand below the first label of a later one
pub label_below : (a : List ℕ) (x : Side) (j : ℕ) → x.course < j → x.choice < get_or a x.course 0 → label a x < sum (take j a)
label_below a x j h l = omega (arith, sum_more a x.course, sum_mono a (x.course + 1) j (omega arith))

-- a label is below the number of labels
pub label_in : (a : List ℕ) (x : Side) → x.choice < get_or a x.course 0 → label a x < sum a
label_in a x l = omega (arith, sum_more a x.course, sum_by-take-le (λ n. n) a (x.course + 1))

-- the label of a choice that is there: its course's first label plus its number, below 192
pub label_at : (s : Shape) (x : Side) → x.choice < get_or (counts s) x.course 0 → (get_or s.firsts x.course 0 + x.choice ≡ label (counts s) x) × (label (counts s) x < 192)
label_at s x h =
    let first = firsts_at s x.course (omega (arith, course_in s x.course x.choice h)) in
    (omega (arith, first), omega (arith, label_in (counts s) x h, labels_most (counts s) (limits s)))

-- a table of first labels gives back the counts
pub counts_back : (firsts a : List ℕ) → ((k : ℕ) → k ≤ length a → get_or firsts k 0 ≡ sum (take k a))
    → map (λ k. get_or firsts (k + 1) 0 - get_or firsts k 0) (range_with_len 0 (length a)) ≡ a
counts_back firsts a h =
    let f : ℕ → ℕ = λ k. get_or firsts (k + 1) 0 - get_or firsts k 0 in
    ext_get_or 0 (map f (range_with_len 0 (length a))) a (length-map-range_with_len f 0 (length a)) (λ k l.
    let more : sum (take (k + 1) a) ≡ sum (take k a) + get_or a k 0 = sum_more a k in
    let low : k < length a = omega (arith, length-map-range_with_len f 0 (length a)) in
    omega (arith, get_or-map-range_with_len f 0 (length a) k k 0 low (omega arith), h k (omega arith), h (k + 1) (omega arith), more))
