-- Where the courses of a sheet lie.
use Rattle.std.proofs.Common.{◌≡◌, ℕ, zero, suc, ◌+◌, ◌*◌, ◌<◌, ◌≤◌, List, ◌++◌, length, get_or, sym, refl, ap, ◌∙◌, ⊎_elim, add-one, arith}
use lib.Arith.{le-zero}
use Rattle.std.proofs.lemmas.List.{length-append, get_or-map}
use Rattle.std.proofs.lemmas.Bool.{cases_eq}
use Rattle.layout.specs.declared.rows.ChoiceRow.{ChoiceRow}
use Rattle.layout.specs.declared.rows.CourseRow.{CourseRow}
use Rattle.bits.specs.Bits.{val}
use Rattle.layout.specs.Layout.{counts_of}
use Rattle.reader.specs.Decoded.{label, place, course_at, choice_at, course_rows, choice_rows, own_choices, rows_of}
use Rattle.reader.proofs.RowLaws.{length-rows_of, get_or-rows_of}

-- one course more
pub label_next : (s : List ℕ) (c : ℕ) → label s (c + 1) ≡ label s c + val s (place s c) 3 + 1
label_next s c = ap (label s) (add-one c)

pub label_mono : (s : List ℕ) (c n : ℕ) → c ≤ n → label s c ≤ label s n
label_mono s c zero h = rw (le-zero h) (omega arith)
label_mono s c (suc n) h =
    ⊎_elim (λ e. rw e (omega arith)) (λ ne. omega (arith, label_mono s c n (omega arith))) (cases_eq c (suc n))

-- the counts of decoded rows
pub decoded_count : (s : List ℕ) (n k : ℕ) → k < n → get_or (counts_of (course_rows s n)) k 0 ≡ val s (place s k) 3 + 1
decoded_count s n k h =
    let none : CourseRow = record { teacher = 0; choices = 0 } in
    let inside : k < length (course_rows s n) = omega (arith, length-rows_of (λ c. course_at s (place s c)) n) in
    get_or-map (λ (c : CourseRow). c.choices) (course_rows s n) k none 0 inside ∙ ap (λ (c : CourseRow). c.choices) (get_or-rows_of (λ c. course_at s (place s c)) n k none h)

-- the count of a course that a list of decoded rows has
pub count_at : (s : List ℕ) (cs : List CourseRow) (c : ℕ) → cs ≡ course_rows s (length cs) → c < length cs → (get_or cs c (record { teacher = 0; choices = 0 })).choices ≡ val s (place s c) 3 + 1
count_at s cs c is h =
    ap (λ (xs : List CourseRow). (get_or xs c (record { teacher = 0; choices = 0 })).choices) is
    ∙ ap (λ (r : CourseRow). r.choices) (get_or-rows_of (λ k. course_at s (place s k)) (length cs) c (record { teacher = 0; choices = 0 }) h)

pub length-choice_rows : (s : List ℕ) (c : ℕ) → length (choice_rows s c) ≡ label s c
length-choice_rows s zero = refl
length-choice_rows s (suc c) =
    length-append (choice_rows s c) _ ∙ omega (arith, length-choice_rows s c, length-rows_of (λ k. choice_at s (place s c + 9 + 8 * k)) (val s (place s c) 3 + 1))

-- the choices of one course more
pub choices_more : (s : List ℕ) (c n : ℕ) (rows own : List ChoiceRow) → n ≡ val s (place s c) 3 + 1 → rows ≡ choice_rows s c → own ≡ rows_of (λ k. choice_at s (place s c + 9 + 8 * k)) n → rows ++ own ≡ choice_rows s (c + 1)
choices_more s c n rows own count front is =
    let moved : rows_of (λ k. choice_at s (place s c + 9 + 8 * k)) n ≡ own_choices s c = ap (rows_of (λ k. choice_at s (place s c + 9 + 8 * k))) count in
    (λ i. front i ++ (is ∙ moved) i) ∙ ap (choice_rows s) (sym (add-one c))
