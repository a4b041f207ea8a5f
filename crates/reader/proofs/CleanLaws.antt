-- Where a sheet has no fault, its rows are lawful and it is their sheet.
use Rattle.std.proofs.Common.{◌≡◌, ℕ, zero, suc, ◌+◌, ◌-◌, ◌*◌, ◌/◌, ◌<◌, ◌≤◌, true, ◌&&◌, eqb, leb, List, [], ◌∷◌, ◌++◌, length, get_or, take, drop, None, Option, sym, refl, ap, ◌∙◌, subst, ⊎_elim, append_assoc, arith}
use Rattle.std.specs.List.{flat_map, AllByRecursion}
use Rattle.std.proofs.ByRecursion.{All-append}
use Rattle.std.proofs.lemmas.List.{append-nil, take_at, take-append-le, drop-append-le, length-drop, flat_map_more}
use Rattle.std.proofs.lemmas.List.Sums.{sum_by_push}
use Rattle.std.proofs.lemmas.Bool.{leb-true, eqb-true, and_parts, cases_lt}
use Rattle.draft.specs.declared.fault.Fault.{Fault}
use Rattle.draft.specs.declared.refusal.Refusal.TheVariants.{Edition, Limit, Evening, Filling}
use Rattle.layout.specs.declared.rows.BarRow.{BarRow}
use Rattle.layout.specs.declared.rows.ChoiceRow.{ChoiceRow}
use Rattle.layout.specs.declared.rows.CourseRow.{CourseRow}
use Rattle.bits.specs.Bits.{bit, val}
use Rattle.layout.specs.Faults.{first, unless, above, prior, bar_fault}
use Rattle.layout.specs.Held.{Holds}
use Rattle.layout.specs.Layout.{Field, size, choice_fields, course_fields, courses_fields, bar_fields, bars_fields, layout, total, counts_of, number_of, no_bar, LawfulCourse, LawfulChoice, LawfulBar, Rising, Lawful, IsSheet}
use Rattle.layout.proofs.BarTests.{bar_parts, above_rises}
use Rattle.bits.proofs.BitLaws.{val_lt, bit_past}
use Rattle.layout.proofs.FirstLaws.{first_none, first_of_none, unless_none}
use Rattle.layout.proofs.HoldsLaws.{holds_append}
use Rattle.layout.proofs.SheetLaws.{held_sheet}
use Rattle.layout.proofs.SizeLaws.{total-cons, size_choices, size_bars, size_fields, size_layout}
use Rattle.reader.specs.Decoded.{rows_of, course_at, choice_at, bar_at, course_rows, choice_rows, own_choices, bar_rows, label, place, course_count, bars_place, bar_count}
use Rattle.reader.specs.Verdict.{ends, edition_fault, count_fault, start_fault, choice_fault, choices_fault, course_fault, courses_fault, next_fault, bars_fault, bits_fault, fill_fault, tail_fault, verdict}
use Rattle.reader.proofs.RowLaws.{length-rows_of, get_or-rows_of, rows_of_suc, All-rows_of}
use Rattle.reader.proofs.Places.{length-choice_rows}

-- the choices of decoded courses
total_push : (cs : List CourseRow) (c : CourseRow) → total (cs ++ (c ∷ [])) ≡ total cs + c.choices
total_push cs c = sum_by_push (λ (x : CourseRow). x.choices) cs c

total-course_rows : (s : List ℕ) (c : ℕ) → total (course_rows s c) ≡ label s c
total-course_rows s zero = refl
total-course_rows s (suc c) =
    ap total (rows_of_suc (λ k. course_at s (place s k)) c) ∙ total_push (course_rows s c) (course_at s (place s c)) ∙ omega (arith, total-course_rows s c)

pub whole_rows : (s : List ℕ) (n : ℕ) → length (choice_rows s n) ≡ total (course_rows s n)
whole_rows s n = length-choice_rows s n ∙ sym (total-course_rows s n)

-- the fields of one course more
fields_push : (cs : List CourseRow) (c : CourseRow) (hs gs : List ChoiceRow) → length hs ≡ total cs → length gs ≡ c.choices → courses_fields (cs ++ (c ∷ [])) (hs ++ gs) ≡ courses_fields cs hs ++ course_fields c gs
fields_push [] c [] gs e f =
    let t : take c.choices gs ≡ gs = ap (take c.choices) (sym (append-nil gs)) ∙ take_at gs [] c.choices f in
    append-nil (course_fields c (take c.choices gs)) ∙ ap (course_fields c) t
fields_push [] c (h ∷ hs) gs e f = absurd (omega (arith, e))
fields_push (d ∷ cs) c hs gs e f =
    let a = d.choices in
    let tc = total-cons d cs in
    let t = take-append-le a hs gs (omega arith) in
    let u = drop-append-le a hs gs (omega arith) in
    let ih = fields_push cs c (drop a hs) gs (length-drop a hs ∙ omega arith) f in
    (λ i. course_fields d (t i) ++ courses_fields (cs ++ (c ∷ [])) (u i)) ∙ ap (λ (fs : List Field). course_fields d (take a hs) ++ fs) ih
    ∙ sym (append_assoc (course_fields d (take a hs)) (courses_fields cs (drop a hs)) (course_fields c gs))

pushed : (s : List ℕ) (c : ℕ) → courses_fields (course_rows s (suc c)) (choice_rows s (suc c)) ≡ courses_fields (course_rows s c) (choice_rows s c) ++ course_fields (course_at s (place s c)) (own_choices s c)
pushed s c =
    ap (λ (cs : List CourseRow). courses_fields cs (choice_rows s c ++ own_choices s c)) (rows_of_suc (λ k. course_at s (place s k)) c)
    ∙ fields_push (course_rows s c) (course_at s (place s c)) (choice_rows s c) (own_choices s c) (whole_rows s c) (length-rows_of (λ k. choice_at s (place s c + 9 + 8 * k)) (val s (place s c) 3 + 1))

-- the bits hold the fields of the rows that they mean
holds_choices : (s : List ℕ) (p n : ℕ) → Holds s p (flat_map choice_fields (rows_of (λ k. choice_at s (p + 8 * k)) n))
holds_choices s p zero = tt
holds_choices s p (suc n) =
    let rows = rows_of (λ k. choice_at s (p + 8 * k)) n in
    let e : p + size (flat_map choice_fields rows) ≡ p + 8 * n = omega (arith, size_choices rows, length-rows_of (λ k. choice_at s (p + 8 * k)) n) in
    let x = choice_at s (p + 8 * n) in
    let last : Holds s (p + size (flat_map choice_fields rows)) (choice_fields x) = subst (λ (q : ℕ). Holds s q (choice_fields x)) (sym e) (refl, (refl, tt)) in
    subst (Holds s p) (flat_map_more choice_fields [] rows x ∙ ap (flat_map choice_fields) (sym (rows_of_suc (λ k. choice_at s (p + 8 * k)) n)))
    (holds_append s p (flat_map choice_fields rows) (choice_fields x) (holds_choices s p n) last)

holds_bars : (s : List ℕ) (p n : ℕ) → Holds s p (flat_map bar_fields (bar_rows s p n))
holds_bars s p zero = tt
holds_bars s p (suc n) =
    let rows = bar_rows s p n in
    let q = p + 16 * n in
    let e : p + size (flat_map bar_fields rows) ≡ q = omega (arith, size_bars rows, length-rows_of (λ k. bar_at s (p + 16 * k)) n) in
    let x = bar_at s q in
    let eight : q + 8 ≡ q + 5 + 3 = omega arith in
    let thirteen : q + 13 ≡ q + 5 + 3 + 5 = omega arith in
    let here : Holds s q (bar_fields x) = (refl, (refl, (ap (λ (r : ℕ). val s r 5) (sym eight), (ap (λ (r : ℕ). val s r 3) (sym thirteen), tt)))) in
    let last : Holds s (p + size (flat_map bar_fields rows)) (bar_fields x) = subst (λ (r : ℕ). Holds s r (bar_fields x)) (sym e) here in
    subst (Holds s p) (flat_map_more bar_fields [] rows x ∙ ap (flat_map bar_fields) (sym (rows_of_suc (λ k. bar_at s (p + 16 * k)) n)))
    (holds_append s p (flat_map bar_fields rows) (bar_fields x) (holds_bars s p n) last)

size_rows : (s : List ℕ) (n : ℕ) → 9 + size (courses_fields (course_rows s n) (choice_rows s n)) ≡ place s n
size_rows s n =
    omega (arith, size_fields (course_rows s n) (choice_rows s n) (whole_rows s n), length-rows_of (λ c. course_at s (place s c)) n, length-choice_rows s n)

holds_courses : (s : List ℕ) (c : ℕ) → Holds s 9 (courses_fields (course_rows s c) (choice_rows s c))
holds_courses s zero = tt
holds_courses s (suc c) =
    let before = courses_fields (course_rows s c) (choice_rows s c) in
    let fs = course_fields (course_at s (place s c)) (own_choices s c) in
    let less : val s (place s c) 3 ≡ val s (place s c) 3 + 1 - 1 = omega arith in
    let nine : place s c + 9 ≡ place s c + 3 + 6 = omega arith in
    let rest : Holds s (place s c + 3 + 6) (flat_map choice_fields (own_choices s c)) = subst (λ (q : ℕ). Holds s q (flat_map choice_fields (own_choices s c))) nine (holds_choices s (place s c + 9) (val s (place s c) 3 + 1)) in
    let here : Holds s (place s c) fs = (less, (refl, rest)) in
    subst (Holds s 9) (sym (pushed s c)) (holds_append s 9 before fs (holds_courses s c) (subst (λ (q : ℕ). Holds s q fs) (sym (size_rows s c)) here))

-- what no fault says of each part
module _ (s : List ℕ) where
  inside : (p w : ℕ) → ends s p w ≡ None → p + w ≤ 8 * length s
  inside p w h = leb-true (p + w) (8 * length s) (unless_none _ _ _ h)

  choice_lawful : (p : ℕ) → choice_fault s p ≡ None → LawfulChoice (choice_at s p)
  choice_lawful p h =
      let a = first_none (ends s p 3) (first (unless (leb (val s p 3) 6) Evening p) (ends s (p + 3) 5)) h in
      let b = first_none (unless (leb (val s p 3) 6) Evening p) (ends s (p + 3) 5) a.1 in
      let five = val_lt s (p + 3) 5 in
      (leb-true (val s p 3) 6 (unless_none _ _ _ b.0), omega arith)

  course_lawful : (p : ℕ) → LawfulCourse (course_at s p)
  course_lawful p = let t = val_lt s p 3 in let u = val_lt s (p + 3) 6 in (omega arith, omega arith, omega arith)

  course_choices : (p : ℕ) → course_fault s p ≡ None → (k : ℕ) → k < val s p 3 + 1 → choice_fault s (p + 9 + 8 * k) ≡ None
  course_choices p h k l =
      let a = first_none (ends s p 3) (first (ends s (p + 3) 6) (choices_fault s (p + 9) (val s p 3 + 1))) h in
      let b = first_none (ends s (p + 3) 6) (choices_fault s (p + 9) (val s p 3 + 1)) a.1 in
      first_of_none (λ x. choice_fault s (p + 9 + 8 * x)) (val s p 3 + 1) b.1 k l

  choices_lawful : (n : ℕ) → courses_fault s n ≡ None → AllByRecursion LawfulChoice (choice_rows s n)
  choices_lawful zero h = tt
  choices_lawful (suc n) h =
      let a = first_none (courses_fault s n) (course_fault s (place s n)) h in
      All-append LawfulChoice (choice_rows s n) (own_choices s n) (choices_lawful n a.0)
      (All-rows_of LawfulChoice (λ k. choice_at s (place s n + 9 + 8 * k)) (val s (place s n) 3 + 1) (λ k l. choice_lawful (place s n + 9 + 8 * k) (course_choices (place s n) a.1 k l)))

  zeros : (p : ℕ) → p ≤ 8 * length s → fill_fault s p ≡ None → (length s ≡ (p + 7) / 8) × ((j : ℕ) → p ≤ j → bit s j ≡ 0)
  zeros p i h =
      let pad = (p + 7) / 8 * 8 - p in
      let t : ℕ → Option Fault = λ k. unless (eqb (bit s (p + k)) 0) Filling (p + k) in
      let a = first_none (bits_fault s p pad) (unless (leb (length s) ((p + 7) / 8)) Filling ((p + 7) / 8 * 8)) h in
      let short = leb-true (length s) ((p + 7) / 8) (unless_none _ _ _ a.1) in
      let long : length s ≡ (p + 7) / 8 = omega arith in (
        long,
        λ j l.
            ⊎_elim
            (λ lt.
            let e : p + (j - p) ≡ j = omega arith in
            let z : bit s (p + (j - p)) ≡ 0 = eqb-true _ 0 (unless_none _ _ _ (first_of_none t pad a.0 (j - p) (omega arith))) in
            rw e at z)
            (λ ge. bit_past s j (omega arith))
            (cases_lt j ((p + 7) / 8 * 8)),
      )

-- what no fault says of the bars
module _ (s a : List ℕ) (q m : ℕ) (clean : bars_fault s a q m ≡ None) where
  abbrev bar : ℕ → BarRow
  bar k = bar_at s (q + 16 * k)

  one_clean : (k : ℕ) → k < m → next_fault s a (prior bar k) (q + 16 * k) ≡ None
  one_clean k l = first_of_none (λ i. next_fault s a (prior bar i) (q + 16 * i)) m clean k l

  tests : (k : ℕ) → k < m → LawfulBar a (bar k) × (above (prior bar k) (bar k) ≡ true)
  tests k l =
      let p = q + 16 * k in
      bar_parts a (prior bar k) (bar k) p (first_none (ends s p 16) (bar_fault a (prior bar k) (bar k) p) (one_clean k l)).1

  pub bars_named : AllByRecursion (LawfulBar a) (bar_rows s q m)
  bars_named = All-rows_of (LawfulBar a) bar m (λ k l. (tests k l).0)

  pub bars_rising : Rising (bar_rows s q m)
  bars_rising k h =
      let l : k + 1 < m = omega (arith, length-rows_of bar m) in
      let low : get_or (bar_rows s q m) k no_bar ≡ bar k = get_or-rows_of bar m k no_bar (omega arith) in
      let high : get_or (bar_rows s q m) (k + 1) no_bar ≡ bar (k + 1) = get_or-rows_of bar m (k + 1) no_bar l in
      subst (λ (b : BarRow). number_of b < number_of (get_or (bar_rows s q m) (k + 1) no_bar)) (sym low)
      (subst (λ (b : BarRow). number_of (bar k) < number_of b) (sym high) (above_rises bar k (tests (k + 1) l).1))

  pub bars_inside : q ≤ 8 * length s → q + 16 * m ≤ 8 * length s
  bars_inside h =
      ⊎_elim
      (λ l.
      let k = m - 1 in
      let x = first_none (ends s (q + 16 * k) 16) _ (one_clean k (omega arith)) in
      omega (arith, inside s (q + 16 * k) 16 x.0))
      (λ l. omega arith)
      (cases_lt 0 m)

-- the rows that the bits mean end where the filling begins
size_sheet : (s : List ℕ) (n m : ℕ) → size (layout (course_rows s n) (choice_rows s n) (bar_rows s (place s n + 12) m)) ≡ place s n + 12 + 16 * m
size_sheet s n m =
    omega (
      arith,
      size_layout (course_rows s n) (choice_rows s n) (bar_rows s (place s n + 12) m) (whole_rows s n),
      length-rows_of (λ c. course_at s (place s c)) n,
      length-choice_rows s n,
      length-rows_of (λ k. bar_at s (place s n + 12 + 16 * k)) m,
    )

-- a good start: the edition, and a lawful number of courses
started : (s : List ℕ) → start_fault s ≡ None → (val s 0 4 ≡ 1) × (2 ≤ course_count s) × (course_count s ≤ 24)
started s h =
    let n = course_count s in
    let b = first_none (edition_fault s) (count_fault s) h in
    let edition = first_none (ends s 0 4) (unless (eqb (val s 0 4) 1) Edition 0) b.0 in
    let limit = first_none (ends s 4 5) (unless (leb 2 n && leb n 24) Limit 4) b.1 in
    let count = and_parts (leb 2 n) (leb n 24) (unless_none _ _ _ limit.1) in
    (eqb-true (val s 0 4) 1 (unless_none _ _ _ edition.1), leb-true 2 n count.0, leb-true n 24 count.1)

lawful_rows : (s : List ℕ) (n m : ℕ) → 2 ≤ n → n ≤ 24 → m ≤ 4095 → courses_fault s n ≡ None → bars_fault s (counts_of (course_rows s n)) (place s n + 12) m ≡ None → Lawful (course_rows s n) (choice_rows s n) (bar_rows s (place s n + 12) m)
lawful_rows s n m few many bars c b =
    let lc : length (course_rows s n) ≡ n = length-rows_of (λ c. course_at s (place s c)) n in
    let lb : length (bar_rows s (place s n + 12) m) ≡ m = length-rows_of (λ k. bar_at s (place s n + 12 + 16 * k)) m in
    record {
      few = omega arith;
      many = omega arith;
      whole = whole_rows s n;
      bars = omega arith;
      courses = All-rows_of LawfulCourse (λ c. course_at s (place s c)) n (λ k l. course_lawful s (place s k));
      choices = choices_lawful s n c;
      names = bars_named s (counts_of (course_rows s n)) (place s n + 12) m b;
      rising = bars_rising s (counts_of (course_rows s n)) (place s n + 12) m b;
    }

holds_all : (s : List ℕ) (n m : ℕ) → val s 0 4 ≡ 1 → n ≡ val s 4 5 → m ≡ val s (place s n) 12 → Holds s 0 (layout (course_rows s n) (choice_rows s n) (bar_rows s (place s n + 12) m))
holds_all s n m edition count bars =
    let cs = course_rows s n in
    let hs = choice_rows s n in
    let bs = bar_rows s (place s n + 12) m in
    let lc : length cs ≡ n = length-rows_of (λ c. course_at s (place s c)) n in
    let lb : length bs ≡ m = length-rows_of (λ k. bar_at s (place s n + 12 + 16 * k)) m in
    let back : Holds s (9 + size (courses_fields cs hs)) (bars_fields bs) = subst (λ (p : ℕ). Holds s p (bars_fields bs)) (sym (size_rows s n)) (sym bars ∙ sym lb, holds_bars s (place s n + 12) m) in
    (edition, (sym count ∙ sym lc, holds_append s 9 (courses_fields cs hs) (bars_fields bs) (holds_courses s n) back))

-- a sheet with no fault is the sheet of the rows that its bits mean
pub clean_sheet : (s : List ℕ) → verdict s ≡ None → IsSheet s (course_rows s (course_count s)) (choice_rows s (course_count s)) (bar_rows s (bars_place s + 12) (bar_count s))
clean_sheet s h =
    let n = course_count s in
    let q = bars_place s in
    let m = bar_count s in
    let cs = course_rows s n in
    let a = first_none (start_fault s) (first (courses_fault s n) (tail_fault s (counts_of cs) q)) h in
    let b = started s a.0 in
    let d = first_none (courses_fault s n) (tail_fault s (counts_of cs) q) a.1 in
    let e = first_none (ends s q 12) (first (bars_fault s (counts_of cs) (q + 12) m) (fill_fault s (q + 12 + 16 * m))) d.1 in
    let f = first_none (bars_fault s (counts_of cs) (q + 12) m) (fill_fault s (q + 12 + 16 * m)) e.1 in
    let twelve = val_lt s q 12 in
    let wide = size_sheet s n m in
    let z = zeros s (q + 12 + 16 * m) (bars_inside s (counts_of cs) (q + 12) m f.0 (inside s q 12 e.0)) f.1 in
    held_sheet s cs (choice_rows s n) (bar_rows s (q + 12) m)
    (lawful_rows s n m b.1 b.2 (most m twelve) d.0 f.0)
    (z.0 ∙ ap (λ (p : ℕ). (p + 7) / 8) (sym wide))
    (holds_all s n m b.0 refl refl)
    (λ j l. z.1 j (subst (λ (p : ℕ). p ≤ j) wide l))
  where
    most : (m : ℕ) → m < 4096 → m ≤ 4095
    most m h = omega arith
