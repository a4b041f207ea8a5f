-- The sheet of some rows has no fault.
use Rattle.std.proofs.Common.{◌≡◌, ℕ, zero, suc, ◌+◌, ◌-◌, ◌*◌, ◌/◌, ◌<◌, ◌≤◌, eqb, leb, List, [], ◌∷◌, length, get_or, take, drop, None, sym, ap, ◌∙◌, subst, add-zero, zero-add, arith}
use Rattle.std.specs.List.{flat_map, AllByRecursion}
use Rattle.std.proofs.ByRecursion.{All-take, All-drop, All-get_or}
use Rattle.std.proofs.lemmas.List.{ext_get_or, length-take-le, length-drop}
use Rattle.std.proofs.lemmas.Bool.{le-leb, eq-eqb, and_from}
use Rattle.draft.specs.declared.refusal.Refusal.TheVariants.{SheetEnds, Edition, Limit, Evening, Filling}
use Rattle.layout.specs.declared.rows.BarRow.{BarRow}
use Rattle.layout.specs.declared.rows.ChoiceRow.{ChoiceRow}
use Rattle.layout.specs.declared.rows.CourseRow.{CourseRow}
use Rattle.bits.specs.Bits.{bit, val}
use Rattle.layout.specs.Faults.{unless, prior}
use Rattle.layout.specs.Held.{Holds}
use Rattle.layout.specs.Layout.{size, choice_fields, course_fields, courses_fields, bar_fields, bars_fields, layout, total, counts_of, number_of, no_bar, LawfulCourse, LawfulChoice, LawfulBar, Rising, IsSheet}
use Rattle.layout.proofs.BarTests.{bar_clean, rises_above}
use Rattle.layout.proofs.CountLaws.{counts_length}
use Rattle.layout.proofs.FirstLaws.{first_both, first_of_each, unless_holds}
use Rattle.layout.proofs.HoldsLaws.{holds_front, holds_back}
use Rattle.layout.proofs.SheetLaws.{sheet_holds, sheet_filled}
use Rattle.layout.proofs.SizeLaws.{total-cons, size_choices, size_fields, size_layout}
use Rattle.reader.specs.Decoded.{counts, course_at, bar_at, course_rows, label, place, course_count, bars_place, bar_count}
use Rattle.reader.specs.Verdict.{ends, edition_fault, start_fault, choice_fault, course_fault, courses_fault, next_fault, bars_fault, bits_fault, fill_fault, verdict}
use Rattle.reader.proofs.Places.{label_next, decoded_count}
use Rattle.reader.proofs.RowLaws.{length-rows_of}

module _ (s : List ℕ) where
  in_bytes : (p w : ℕ) → p + w ≤ 8 * length s → ends s p w ≡ None
  in_bytes p w h = unless_holds _ SheetEnds p (le-leb (p + w) (8 * length s) h)

  -- the choices of a list that the bytes hold
  choice_ok : (p k : ℕ) (hs : List ChoiceRow) → k < length hs → Holds s p (flat_map choice_fields hs) → AllByRecursion LawfulChoice hs → p + 8 * length hs ≤ 8 * length s → choice_fault s (p + 8 * k) ≡ None
  choice_ok p k [] l h a m = absurd (omega arith)
  choice_ok p zero (x ∷ hs) l h a m =
      let e : p ≡ p + 8 * 0 = omega arith in
      let few : val s p 3 ≤ 6 = rw h.0 a.0.0 in
      subst (λ (q : ℕ). choice_fault s q ≡ None) e
      (first_both (ends s p 3) _ (in_bytes p 3 (omega arith)) (first_both (unless (leb (val s p 3) 6) Evening p) _ (unless_holds _ Evening p (le-leb (val s p 3) 6 few)) (in_bytes (p + 3) 5 (omega arith))))
  choice_ok p (suc k) (x ∷ hs) l h a m =
      let e : p + 3 + 5 + 8 * k ≡ p + 8 * suc k = omega arith in
      subst (λ (q : ℕ). choice_fault s q ≡ None) e (choice_ok (p + 3 + 5) k hs (omega arith) h.1.1 a.1 (omega arith))

  -- a course that the bytes hold
  course_ok : (p : ℕ) (c : CourseRow) (hs : List ChoiceRow) → length hs ≡ c.choices → Holds s p (course_fields c hs) → LawfulCourse c → AllByRecursion LawfulChoice hs → p + 9 + 8 * length hs ≤ 8 * length s → (course_fault s p ≡ None) × (val s p 3 + 1 ≡ c.choices)
  course_ok p c hs e h lc lh m =
      let n : val s p 3 + 1 ≡ c.choices = omega (arith, h.0, lc.0) in
      let nine : p + 3 + 6 ≡ p + 9 = omega arith in
      let held = subst (λ (q : ℕ). Holds s q (flat_map choice_fields hs)) nine h.1.1 in (
        first_both (ends s p 3) _ (in_bytes p 3 (omega arith)) (first_both (ends s (p + 3) 6) _ (in_bytes (p + 3) 6 (omega arith)) (first_of_each (λ k. choice_fault s (p + 9 + 8 * k)) (val s p 3 + 1) (λ k l. choice_ok (p + 9) k hs (omega arith) held lh (omega arith)))),
        n,
      )

  -- course i of the list has no fault, and its count is the row's
  abbrev CourseGood : ℕ → ℕ → Type 0
  CourseGood c a = (course_fault s (place s c) ≡ None) × (val s (place s c) 3 + 1 ≡ a)

  here : (k : ℕ) (c : CourseRow) (cs : List CourseRow) → CourseGood k c.choices → ((i : ℕ) → i < length cs → CourseGood (k + 1 + i) (get_or (counts_of cs) i 0)) → (i : ℕ) → i < suc (length cs) → CourseGood (k + i) (get_or (counts_of (c ∷ cs)) i 0)
  here k c cs a b zero l = rw (add-zero k) a
  here k c cs a b (suc i) l =
      let e : k + 1 + i ≡ k + suc i = omega arith in
      subst (λ (x : ℕ). CourseGood x (get_or (counts_of cs) i 0)) e (b i (omega arith))

  courses_ok : (k : ℕ) (cs : List CourseRow) (hs : List ChoiceRow) → Holds s (place s k) (courses_fields cs hs) → AllByRecursion LawfulCourse cs → AllByRecursion LawfulChoice hs → length hs ≡ total cs → place s k + 9 * length cs + 8 * length hs ≤ 8 * length s → ((i : ℕ) → i < length cs → CourseGood (k + i) (get_or (counts_of cs) i 0)) × (label s (k + length cs) ≡ label s k + length hs)
  courses_ok k [] hs h lc lh e m = (λ i l. absurd (omega arith), ap (label s) (add-zero k) ∙ omega (arith, e))
  courses_ok k (c ∷ cs) hs h lc lh e m =
      let a = c.choices in
      let tc = total-cons c cs in
      let front = take a hs in
      let lf : length front ≡ a = length-take-le a hs (omega arith) in
      let lr = length-drop a hs in
      let rest = courses_fields cs (drop a hs) in
      let one = course_ok (place s k) c front lf (holds_front s (place s k) (course_fields c front) rest h) lc.0 (All-take LawfulChoice a hs lh) (omega arith) in
      let next = label_next s k in
      let q : place s k + size (course_fields c front) ≡ place s (k + 1) = omega (arith, size_choices front, one.1) in
      let back : Holds s (place s (k + 1)) rest = subst (λ (x : ℕ). Holds s x rest) q (holds_back s (place s k) (course_fields c front) rest h) in
      let ih = courses_ok (k + 1) cs (drop a hs) back lc.1 (All-drop LawfulChoice a hs lh) (omega arith) (omega (arith, one.1)) in
      let far : k + 1 + length cs ≡ k + suc (length cs) = omega arith in (
        here k c cs one ih.0,
        ap (label s) (sym far) ∙ ih.1 ∙ omega (arith, one.1),
      )

  counts_same : (n : ℕ) (cs : List CourseRow) → n ≡ length cs → ((i : ℕ) → i < length cs → val s (place s i) 3 + 1 ≡ get_or (counts_of cs) i 0) → counts_of (course_rows s n) ≡ counts_of cs
  counts_same n cs e same =
      let l : length (course_rows s n) ≡ n = length-rows_of (λ c. course_at s (place s c)) n in
      ext_get_or 0 (counts_of (course_rows s n)) (counts_of cs) (counts_length (course_rows s n) ∙ l ∙ e ∙ sym (counts_length cs)) (λ i h.
      let inside : i < n = omega (arith, counts_length (course_rows s n), l) in
      decoded_count s n i inside ∙ same i (omega arith))

  -- the bars of a list that the bytes hold
  bar_held : (q k : ℕ) (bs : List BarRow) → k < length bs → Holds s q (flat_map bar_fields bs) → bar_at s (q + 16 * k) ≡ get_or bs k no_bar
  bar_held q k [] l h = absurd (omega arith)
  bar_held q zero (b ∷ bs) l h =
      let z : q + 16 * 0 ≡ q = omega arith in
      let eight : q + 8 ≡ q + 5 + 3 = omega arith in
      let thirteen : q + 13 ≡ q + 5 + 3 + 5 = omega arith in
      let higher = ap (λ (r : ℕ). val s r 5) eight ∙ h.1.1.0 in
      let partner = ap (λ (r : ℕ). val s r 3) thirteen ∙ h.1.1.1.0 in
      let course = h.0 in
      let choice = h.1.0 in
      ap (bar_at s) z ∙ (λ i. record { course = course i; choice = choice i; higher = higher i; partner = partner i })
  bar_held q (suc k) (b ∷ bs) l h =
      let e : q + 16 * suc k ≡ q + 5 + 3 + 5 + 3 + 16 * k = omega arith in
      ap (bar_at s) e ∙ bar_held (q + 5 + 3 + 5 + 3) k bs (omega arith) h.1.1.1.1

  bar_ok : (a : List ℕ) (q k : ℕ) (bs : List BarRow) → k < length bs → Holds s q (flat_map bar_fields bs) → AllByRecursion (LawfulBar a) bs → Rising bs → q + 16 * length bs ≤ 8 * length s → next_fault s a (prior (λ i. bar_at s (q + 16 * i)) k) (q + 16 * k) ≡ None
  bar_ok a q k bs l h names rising m =
      let bar : ℕ → BarRow = λ i. bar_at s (q + 16 * i) in
      let law : LawfulBar a (bar k) = subst (LawfulBar a) (sym (bar_held q k bs l h)) (All-get_or (LawfulBar a) bs k no_bar l names) in
      let up : (i : ℕ) → i + 1 < length bs → number_of (bar i) < number_of (bar (i + 1)) = λ i j.
      subst (λ (b : BarRow). number_of b < number_of (bar (i + 1))) (sym (bar_held q i bs (omega arith) h))
      (subst (λ (b : BarRow). number_of (get_or bs i no_bar) < number_of b) (sym (bar_held q (i + 1) bs j h)) (rising i j)) in
      first_both (ends s (q + 16 * k) 16) _ (in_bytes (q + 16 * k) 16 (omega arith)) (bar_clean a (prior bar k) (bar k) (q + 16 * k) law (rises_above bar (length bs) up k l))

  fill_ok : (p : ℕ) → length s ≡ (p + 7) / 8 → ((j : ℕ) → p ≤ j → bit s j ≡ 0) → fill_fault s p ≡ None
  fill_ok p e z =
      first_both (bits_fault s p ((p + 7) / 8 * 8 - p)) _
      (first_of_each (λ k. unless (eqb (bit s (p + k)) 0) Filling (p + k)) ((p + 7) / 8 * 8 - p) (λ k l. unless_holds _ Filling (p + k) (eq-eqb (bit s (p + k)) 0 (z (p + k) (omega arith)))))
      (unless_holds _ Filling _ (le-leb (length s) ((p + 7) / 8) (omega arith)))

  start_ok : val s 0 4 ≡ 1 → 2 ≤ course_count s → course_count s ≤ 24 → 9 ≤ 8 * length s → start_fault s ≡ None
  start_ok edition few many long =
      first_both (edition_fault s) _ (first_both (ends s 0 4) _ (in_bytes 0 4 (omega arith)) (unless_holds _ Edition 0 (eq-eqb (val s 0 4) 1 edition)))
      (first_both (ends s 4 5) _ (in_bytes 4 5 (omega arith)) (unless_holds _ Limit 4 (and_from _ _ (le-leb 2 (course_count s) few) (le-leb (course_count s) 24 many))))

sums : (n t m : ℕ) → 9 + 9 * n + 8 * t + 12 + 16 * m ≡ 21 + 9 * n + 8 * t + 16 * m
sums n t m = omega arith

-- the parts of a sheet, by the fields that it holds
module _ (s : List ℕ) (cs : List CourseRow) (hs : List ChoiceRow) (bs : List BarRow) (sheet : IsSheet s cs hs bs) where
  fields : Holds s 0 (layout cs hs bs)
  fields = sheet_holds s cs hs bs sheet

  count_is : course_count s ≡ length cs
  count_is = fields.1.0

  wide : 21 + 9 * length cs + 8 * length hs + 16 * length bs ≤ 8 * length s
  wide = omega (arith, size_layout cs hs bs sheet.lawful.whole, sheet.long)

  all_courses : ((i : ℕ) → i < length cs → CourseGood s (0 + i) (get_or (counts_of cs) i 0)) × (label s (0 + length cs) ≡ 0 + length hs)
  all_courses =
      let law = sheet.lawful in
      courses_ok s 0 cs hs (holds_front s 9 (courses_fields cs hs) (bars_fields bs) fields.1.1) law.courses law.choices law.whole (omega (arith, wide))

  course_good : (i : ℕ) → i < length cs → CourseGood s i (get_or (counts_of cs) i 0)
  course_good i l = subst (λ (x : ℕ). CourseGood s x (get_or (counts_of cs) i 0)) (zero-add i) (all_courses.0 i l)

  label_is : label s (course_count s) ≡ length hs
  label_is = ap (label s) (count_is ∙ sym (zero-add (length cs))) ∙ all_courses.1 ∙ zero-add (length hs)

  place_is : bars_place s ≡ 9 + 9 * length cs + 8 * length hs
  place_is = omega (arith, count_is, label_is)

  bars_held : Holds s (bars_place s) (bars_fields bs)
  bars_held =
      let e : 9 + size (courses_fields cs hs) ≡ bars_place s = omega (arith, size_fields cs hs sheet.lawful.whole, place_is) in
      subst (λ (p : ℕ). Holds s p (bars_fields bs)) e (holds_back s 9 (courses_fields cs hs) (bars_fields bs) fields.1.1)

  bars_is : bar_count s ≡ length bs
  bars_is = bars_held.0

  end_is : bars_place s + 12 + 16 * bar_count s ≡ size (layout cs hs bs)
  end_is =
      let e : bars_place s + 12 + 16 * bar_count s ≡ 9 + 9 * length cs + 8 * length hs + 12 + 16 * length bs = λ i. place_is i + 12 + 16 * bars_is i in
      e ∙ sums (length cs) (length hs) (length bs) ∙ sym (size_layout cs hs bs sheet.lawful.whole)

  same_counts : counts_of (course_rows s (course_count s)) ≡ counts_of cs
  same_counts = counts_same s (course_count s) cs count_is (λ i l. (course_good i l).1)

  bars_ok : bars_fault s (counts_of (course_rows s (course_count s))) (bars_place s + 12) (bar_count s) ≡ None
  bars_ok =
      let law = sheet.lawful in
      let good : bars_fault s (counts_of cs) (bars_place s + 12) (length bs) ≡ None =
      first_of_each (λ k. next_fault s (counts_of cs) (prior (λ i. bar_at s (bars_place s + 12 + 16 * i)) k) (bars_place s + 12 + 16 * k)) (length bs)
      (λ k l. bar_ok s (counts_of cs) (bars_place s + 12) k bs l bars_held.1 law.names law.rising (omega (arith, place_is, wide))) in
      subst (λ (m : ℕ). bars_fault s (counts_of (course_rows s (course_count s))) (bars_place s + 12) m ≡ None) (sym bars_is)
      (subst (λ (a : List ℕ). bars_fault s a (bars_place s + 12) (length bs) ≡ None) (sym same_counts) good)

  no_fault : verdict s ≡ None
  no_fault =
      let law = sheet.lawful in
      first_both (start_fault s) _ (start_ok s fields.0 (omega (arith, count_is, law.few)) (omega (arith, count_is, law.many)) (omega (arith, wide)))
      (first_both (courses_fault s (course_count s)) _ (first_of_each (λ c. course_fault s (place s c)) (course_count s) (λ i l. (course_good i (omega (arith, count_is))).0))
      (first_both (ends s (bars_place s) 12) _ (in_bytes s (bars_place s) 12 (omega (arith, place_is, wide)))
      (first_both (bars_fault s (counts_of (course_rows s (course_count s))) (bars_place s + 12) (bar_count s)) _ bars_ok
      (fill_ok s (bars_place s + 12 + 16 * bar_count s) (sheet.long ∙ ap (λ (x : ℕ). (x + 7) / 8) (sym end_is)) (λ j l. sheet_filled s cs hs bs sheet j (subst (λ (p : ℕ). p ≤ j) end_is l))))))

-- the counts are the numbers of rows
pub sheet_clean : (s : List ℕ) (cs : List CourseRow) (hs : List ChoiceRow) (bs : List BarRow) → IsSheet s cs hs bs → (verdict s ≡ None) × (counts s ≡ record { courses = length cs; choices = length hs; bars = length bs })
sheet_clean s cs hs bs h =
    let n = count_is s cs hs bs h in
    let t = label_is s cs hs bs h in
    let m = bars_is s cs hs bs h in
    (no_fault s cs hs bs h, λ i. record { courses = n i; choices = t i; bars = m i })
