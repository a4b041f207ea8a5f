-- Rows made by a function of the index, and rows in the front of a list.
use Rattle.std.proofs.Common.{◌≡◌, ℕ, zero, suc, ◌+◌, ◌-◌, ◌<◌, ◌≤◌, List, [], ◌∷◌, ◌++◌, length, get_or, take, drop, set, sym, ap, ◌∙◌, subst, add-one, arith}
use Rattle.std.specs.List.{AllByRecursion}
use Rattle.std.proofs.lemmas.List.FromFn.{length-map-range_with_len, get_or-map-range_with_len, map-range_with_len_more}
use Rattle.std.proofs.ByRecursion.{All-from_get_or}
use Rattle.std.proofs.lemmas.List.{take_more_set, take_all, length-take-le, length-drop, drop-drop}
use Rattle.std.proofs.lemmas.Slice.{take-put_mid, drop-put_mid}
use borrow.Rule.Slice.PartMut.{put_mid}
use Rattle.reader.specs.Decoded.{rows_of}

pub length-rows_of : {X : Type 0} (f : ℕ → X) (n : ℕ) → length (rows_of f n) ≡ n
length-rows_of f n = length-map-range_with_len f 0 n

pub get_or-rows_of : {X : Type 0} (f : ℕ → X) (n k : ℕ) (d : X) → k < n → get_or (rows_of f n) k d ≡ f k
get_or-rows_of f n k d h = get_or-map-range_with_len f 0 n k k d h (omega arith)

-- one row more
pub rows_of_more : {X : Type 0} (f : ℕ → X) (n : ℕ) → rows_of f (n + 1) ≡ rows_of f n ++ (f n ∷ [])
rows_of_more f n = map-range_with_len_more f 0 n n (omega arith)

pub rows_of_suc : {X : Type 0} (f : ℕ → X) (n : ℕ) → rows_of f (suc n) ≡ rows_of f n ++ (f n ∷ [])
rows_of_suc f n = ap (rows_of f) (sym (add-one n)) ∙ rows_of_more f n

pub All-rows_of : {X : Type 0} (P : X → Type 0) (f : ℕ → X) (n : ℕ) → ((k : ℕ) → k < n → P (f k)) → AllByRecursion P (rows_of f n)
All-rows_of P f zero h = tt
All-rows_of P f (suc n) h =
    All-from_get_or P (rows_of f (suc n)) (f 0) (λ i l.
    let m = length-rows_of f (suc n) in
    let e : get_or (rows_of f (suc n)) i (f 0) ≡ f i = get_or-rows_of f (suc n) i (f 0) (omega arith) in
    subst P (sym e) (h i (omega arith)))

-- one row more in the front of a table
pub front_more : {X : Type 0} (f : ℕ → X) (xs : List X) (k : ℕ) (y : X) → take k xs ≡ rows_of f k → y ≡ f k → k < length xs → take (k + 1) (set xs k y) ≡ rows_of f (k + 1)
front_more f xs k y e is h = take_more_set xs k y h ∙ (λ i. e i ++ (is i ∷ [])) ∙ sym (rows_of_more f k)

-- a table that is all front
pub front_all : {X : Type 0} (f : ℕ → X) (xs : List X) (k n : ℕ) → take k xs ≡ rows_of f k → k ≡ n → n ≡ length xs → xs ≡ rows_of f n
front_all f xs k n e is l = sym (take_all n xs (omega arith)) ∙ subst (λ (m : ℕ). take m xs ≡ rows_of f m) is e

-- n rows written into a list from place t on
module _ {X : Type 0} (ys own : List X) (t n : ℕ) (room : t + n ≤ length ys) where
  pub part_long : length (take (t + n - t) (drop t ys)) ≡ n
  part_long = length-take-le (t + n - t) (drop t ys) (omega (arith, length-drop t ys)) ∙ omega arith

  pub put_front : length own ≡ n → take (t + n) (put_mid t (t + n - t) ys own) ≡ take t ys ++ own
  put_front l = take-put_mid t (t + n - t) ys own (t + n) (omega arith) (omega arith)

  pub put_rest : (xs : List X) → length own ≡ n → drop t ys ≡ drop t xs → drop (t + n) (put_mid t (t + n - t) ys own) ≡ drop (t + n) xs
  put_rest xs l e =
      drop-put_mid t (t + n - t) ys own (t + n) (omega arith) (omega arith) (omega arith) ∙ sym (drop-drop n t ys) ∙ ap (drop n) e ∙ drop-drop n t xs
