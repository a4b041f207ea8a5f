-- A sheet by its bits is a sheet by its fields.
use Rattle.std.proofs.Common.{◌≡◌, ℕ, zero, suc, ◌<◌, ◌≤◌, List, [], ◌∷◌, length, get_or, take, drop, sym, ap, ◌∙◌, ⊎_elim, zero-add, arith}
use Rattle.std.specs.List.{flat_map, AllByRecursion}
use Rattle.std.proofs.ByRecursion.{All-take, All-drop, All-append}
use Rattle.std.proofs.lemmas.Bool.{cases_lt}
use Rattle.layout.specs.declared.rows.BarRow.{BarRow}
use Rattle.layout.specs.declared.rows.ChoiceRow.{ChoiceRow}
use Rattle.layout.specs.declared.rows.CourseRow.{CourseRow}
use Rattle.bits.specs.Bits.{bit}
use Rattle.layout.specs.Held.{Holds, Fits}
use Rattle.layout.specs.Layout.{size, choice_fields, course_fields, courses_fields, bar_fields, bars_fields, layout, counts_of, bytes_of, LawfulCourse, LawfulChoice, LawfulBar, Lawful, IsSheet}
use Rattle.layout.proofs.HoldsLaws.{holds_laid, laid_holds, laid_past}

-- a course with a choice is there, and has at most 8
pub count_le : (cs : List CourseRow) (i : ℕ) → AllByRecursion LawfulCourse cs → get_or (counts_of cs) i 0 ≤ 8
count_le [] zero h = omega arith
count_le [] (suc i) h = omega arith
count_le (c ∷ cs) zero h = h.0.1
count_le (c ∷ cs) (suc i) h = count_le cs i h.1

pub count_there : (cs : List CourseRow) (i b : ℕ) → b < get_or (counts_of cs) i 0 → i < length cs
count_there [] zero b h = absurd (omega arith)
count_there [] (suc i) b h = absurd (omega arith)
count_there (c ∷ cs) zero b h = omega arith
count_there (c ∷ cs) (suc i) b h = omega (arith, count_there cs i b h)

-- lawful rows fit their fields
fits_choices : (hs : List ChoiceRow) → AllByRecursion LawfulChoice hs → AllByRecursion Fits (flat_map choice_fields hs)
fits_choices [] h = tt
fits_choices (x ∷ hs) h = (omega (arith, h.0.0), (omega (arith, h.0.1), fits_choices hs h.1))

fits_courses : (cs : List CourseRow) (hs : List ChoiceRow) → AllByRecursion LawfulCourse cs → AllByRecursion LawfulChoice hs → AllByRecursion Fits (courses_fields cs hs)
fits_courses [] hs h l = tt
fits_courses (c ∷ cs) hs h l =
    let a = c.choices in
    let own : AllByRecursion Fits (course_fields c (take a hs)) = (omega (arith, h.0.1), (omega (arith, h.0.2), fits_choices (take a hs) (All-take LawfulChoice a hs l))) in
    All-append Fits (course_fields c (take a hs)) (courses_fields cs (drop a hs)) own (fits_courses cs (drop a hs) h.1 (All-drop LawfulChoice a hs l))

pub fits_bar : (cs : List CourseRow) (b : BarRow) → length cs ≤ 24 → AllByRecursion LawfulCourse cs → LawfulBar (counts_of cs) b → AllByRecursion Fits (bar_fields b)
fits_bar cs b n l h =
    let low = count_there cs b.course b.choice h.1 in
    let high = count_there cs b.higher b.partner h.2 in
    let few = count_le cs b.course l in
    let most = count_le cs b.higher l in
    (omega arith, (omega (arith, h.1), (omega arith, (omega (arith, h.2), tt))))

fits_bars : (cs : List CourseRow) (bs : List BarRow) → length cs ≤ 24 → AllByRecursion LawfulCourse cs → AllByRecursion (LawfulBar (counts_of cs)) bs → AllByRecursion Fits (flat_map bar_fields bs)
fits_bars cs [] n l h = tt
fits_bars cs (b ∷ bs) n l h = All-append Fits (bar_fields b) (flat_map bar_fields bs) (fits_bar cs b n l h.0) (fits_bars cs bs n l h.1)

pub fits_layout : (cs : List CourseRow) (hs : List ChoiceRow) (bs : List BarRow) → Lawful cs hs bs → AllByRecursion Fits (layout cs hs bs)
fits_layout cs hs bs h =
    let many = h.many in
    let bars = h.bars in (
      omega arith,
      (
        omega arith,
        All-append Fits (courses_fields cs hs) (bars_fields bs) (fits_courses cs hs h.courses h.choices) (omega arith, fits_bars cs bs h.many h.courses h.names),
      ),
    )

pub sheet_holds : (s : List ℕ) (cs : List CourseRow) (hs : List ChoiceRow) (bs : List BarRow) → IsSheet s cs hs bs → Holds s 0 (layout cs hs bs)
sheet_holds s cs hs bs h =
    laid_holds s 0 (layout cs hs bs) (fits_layout cs hs bs h.lawful) (λ j l. ap (bit s) (zero-add j) ∙ h.bits j)

pub sheet_filled : (s : List ℕ) (cs : List CourseRow) (hs : List ChoiceRow) (bs : List BarRow) → IsSheet s cs hs bs → (j : ℕ) → size (layout cs hs bs) ≤ j → bit s j ≡ 0
sheet_filled s cs hs bs h j l = h.bits j ∙ laid_past (layout cs hs bs) j l

pub held_sheet : (s : List ℕ) (cs : List CourseRow) (hs : List ChoiceRow) (bs : List BarRow) → Lawful cs hs bs → length s ≡ bytes_of cs hs bs → Holds s 0 (layout cs hs bs) → ((j : ℕ) → size (layout cs hs bs) ≤ j → bit s j ≡ 0) → IsSheet s cs hs bs
held_sheet s cs hs bs law long holds filled =
    record {
      lawful = law;
      long = long;
      bits = λ j.
          ⊎_elim
          (λ l. sym (ap (bit s) (zero-add j)) ∙ holds_laid s 0 (layout cs hs bs) holds j l)
          (λ l. filled j l ∙ sym (laid_past (layout cs hs bs) j l))
          (cases_lt j (size (layout cs hs bs)));
    }
