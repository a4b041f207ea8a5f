-- Fields put into cleared bytes make the sheet, and a writing's verdict.
use Rattle.std.proofs.Common.{◌≡◌, ℕ, ◌+◌, ◌-◌, ◌*◌, ◌/◌, ◌%◌, ◌^◌, ◌<◌, ◌≤◌, List, ◌++◌, length, get_or, take, drop, replicate, sym, ap, ◌∙◌, ⊎_elim, arith}
use native.Mathlib.Nat.{zero-div}
use Rattle.std.proofs.lemmas.List.{drop_at, ext_get_or, get_or_append_left, get_or-drop, get_or_past, get_or-replicate, get_or-take, length-append, length-drop, length-replicate, length-take-le}
use Rattle.std.proofs.lemmas.Bool.{cases_lt}
use Rattle.layout.specs.declared.rows.BarRow.{BarRow}
use Rattle.layout.specs.declared.rows.ChoiceRow.{ChoiceRow}
use Rattle.layout.specs.declared.rows.CourseRow.{CourseRow}
use Rattle.bits.specs.Bits.{bit}
use Rattle.layout.specs.Layout.{size, layout, Lawful, IsSheet, bytes_of}
use Rattle.layout.proofs.HoldsLaws.{holds_same}
use Rattle.layout.proofs.SheetLaws.{held_sheet}
use Rattle.writer.specs.Putting.{Puts}

-- a byte that is 0 has bits that are 0
bit_zero : (s : List ℕ) (j : ℕ) → get_or s (j / 8) 0 ≡ 0 → bit s j ≡ 0
bit_zero s j e = ap (λ (x : ℕ). x / 2 ^ (7 - j % 8) % 2) e ∙ ap (λ (x : ℕ). x % 2) (zero-div (2 ^ (7 - j % 8)))

-- s cleared is u, and u with the fields is t
module _ (s u t : List ℕ) (cs : List CourseRow) (hs : List ChoiceRow) (bs : List BarRow) (n : ℕ) (is : n ≡ bytes_of cs hs bs) (room : n ≤ length s) (same : length t ≡ length s) (clear : u ≡ replicate n 0 ++ drop n s) (puts : Puts u t 0 (layout cs hs bs)) where
  abbrev zeros : List ℕ
  zeros = replicate n 0

  length-zeros : length zeros ≡ n
  length-zeros = length-replicate n 0

  cleared : (j : ℕ) → j < 8 * n → bit u j ≡ 0
  cleared j h =
      let l = length-zeros in
      let inside : j / 8 < n = omega arith in
      bit_zero u j (ap (λ (v : List ℕ). get_or v (j / 8) 0) clear ∙ get_or_append_left zeros (drop n s) 0 (j / 8) (omega arith) ∙ get_or-replicate n (j / 8) 0 0 inside)

  front_bit : (j : ℕ) → j < 8 * n → bit (take n t) j ≡ bit t j
  front_bit j h = ap (λ (x : ℕ). x / 2 ^ (7 - j % 8) % 2) (get_or-take n t (j / 8) 0 (omega arith))

  long : length (take n t) ≡ n
  long = length-take-le n t (omega arith)

  -- zeros after the last field
  filled : (j : ℕ) → size (layout cs hs bs) ≤ j → bit (take n t) j ≡ 0
  filled j h =
      let l = long in
      ⊎_elim
      (λ in-front. front_bit j in-front ∙ puts.after j (omega arith) ∙ cleared j in-front)
      (λ past. bit_zero (take n t) j (get_or_past (take n t) (j / 8) 0 (omega arith)))
      (cases_lt j (8 * n))

  pub filled_sheet : Lawful cs hs bs → IsSheet (take n t) cs hs bs
  filled_sheet law =
      held_sheet (take n t) cs hs bs law (long ∙ is) (holds_same t (take n t) 0 (layout cs hs bs) (λ j a b. front_bit j (omega arith)) puts.holds) filled

  length-u : length u ≡ length s
  length-u = let l = length-zeros in ap length clear ∙ length-append zeros (drop n s) ∙ omega (arith, length-drop n s)

  pub rest_kept : drop n t ≡ drop n s
  rest_kept =
      let l = length-u in
      let back : drop n t ≡ drop n u =
      ext_get_or 0 (drop n t) (drop n u) (omega (arith, length-drop n t, length-drop n u)) (λ i h. get_or-drop n t i 0 ∙ puts.rest (n + i) (omega arith) ∙ sym (get_or-drop n u i 0)) in
      back ∙ ap (drop n) clear ∙ drop_at zeros (drop n s) n length-zeros
