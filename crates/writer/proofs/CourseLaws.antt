-- No fault of the courses, and what it says of them and of their choices.
use Rattle.std.proofs.Common.{◌≡◌, ℕ, zero, suc, ◌+◌, ◌-◌, ◌*◌, ◌<◌, ◌≤◌, Bool, true, ◌&&◌, leb, List, length, get_or, None, Option, sym, ap, ◌∙◌, subst, ⊎_elim, add-one, arith}
use Rattle.std.specs.List.{AllByRecursion}
use Rattle.std.proofs.ByRecursion.{All-get_or, All-from_get_or}
use Rattle.std.proofs.lemmas.Bool.{and_from, and_parts, cases_lt, le-leb, leb-true}
use Rattle.draft.specs.declared.fault.Fault.{Fault}
use Rattle.draft.specs.declared.refusal.Refusal.TheVariants.{Limit, Evening}
use Rattle.layout.specs.declared.rows.ChoiceRow.{ChoiceRow}
use Rattle.layout.specs.declared.rows.CourseRow.{CourseRow}
use Rattle.layout.specs.Faults.{first, unless}
use Rattle.layout.specs.Layout.{total, LawfulCourse, LawfulChoice}
use Rattle.layout.proofs.FirstLaws.{first_none, first_both, first_of_none, first_of_each, unless_none, unless_holds}
use Rattle.writer.specs.RowFaults.{no_course, no_choice, choice_fault, choices_fault, course_fault, courses_fault, label, place}
use Rattle.writer.proofs.LabelLaws.{label_more, label_all, own_inside}

choice_holds : (h : ChoiceRow) (p : ℕ) → choice_fault h p ≡ None → LawfulChoice h
choice_holds h p none =
    let a = first_none (unless (leb h.evening 6) Evening p) (unless (leb h.room 31) Limit (p + 3)) none in
    (leb-true h.evening 6 (unless_none _ Evening p a.0), leb-true h.room 31 (unless_none _ Limit (p + 3) a.1))

hold_choice : (h : ChoiceRow) (p : ℕ) → LawfulChoice h → choice_fault h p ≡ None
hold_choice h p l =
    first_both (unless (leb h.evening 6) Evening p) (unless (leb h.room 31) Limit (p + 3))
    (unless_holds _ Evening p (le-leb h.evening 6 l.0)) (unless_holds _ Limit (p + 3) (le-leb h.room 31 l.1))

-- a course, with its choices from t on
module _ (c : CourseRow) (hs : List ChoiceRow) (t p : ℕ) where
  abbrev count_ok : Bool
  count_ok = leb 1 c.choices && leb c.choices 8

  abbrev teacher_ok : Bool
  teacher_ok = leb c.teacher 63

  abbrev test : ℕ → Option Fault
  test k = choice_fault (get_or hs (t + k) no_choice) (p + 9 + 8 * k)

  abbrev Own : Type 0
  Own = (k : ℕ) → k < c.choices → LawfulChoice (get_or hs (t + k) no_choice)

  course_holds : course_fault c hs t p ≡ None → LawfulCourse c × Own
  course_holds none =
      let a = first_none (unless count_ok Limit p) (first (unless teacher_ok Limit (p + 3)) (choices_fault hs t (p + 9) c.choices)) none in
      let b = first_none (unless teacher_ok Limit (p + 3)) (choices_fault hs t (p + 9) c.choices) a.1 in
      let n = and_parts (leb 1 c.choices) (leb c.choices 8) (unless_none count_ok Limit p a.0) in (
        (leb-true 1 c.choices n.0, leb-true c.choices 8 n.1, leb-true c.teacher 63 (unless_none teacher_ok Limit (p + 3) b.0)),
        λ k l. choice_holds (get_or hs (t + k) no_choice) (p + 9 + 8 * k) (first_of_none test c.choices b.1 k l),
      )

  hold_course : LawfulCourse c → Own → course_fault c hs t p ≡ None
  hold_course l own =
      let n : count_ok ≡ true = and_from _ _ (le-leb 1 c.choices l.0) (le-leb c.choices 8 l.1) in
      first_both (unless count_ok Limit p) (first (unless teacher_ok Limit (p + 3)) (choices_fault hs t (p + 9) c.choices)) (unless_holds count_ok Limit p n)
      (first_both (unless teacher_ok Limit (p + 3)) (choices_fault hs t (p + 9) c.choices) (unless_holds teacher_ok Limit (p + 3) (le-leb c.teacher 63 l.2))
      (first_of_each test c.choices (λ k h. hold_choice (get_or hs (t + k) no_choice) (p + 9 + 8 * k) (own k h))))

-- all courses
module _ (cs : List CourseRow) (hs : List ChoiceRow) where
  abbrev course_test : ℕ → Option Fault
  course_test c = course_fault (get_or cs c no_course) hs (label cs c) (place cs c)

  each_holds : courses_fault cs hs (length cs) ≡ None → (c : ℕ) → c < length cs → LawfulCourse (get_or cs c no_course) × Own (get_or cs c no_course) hs (label cs c) (place cs c)
  each_holds none c l = course_holds (get_or cs c no_course) hs (label cs c) (place cs c) (first_of_none course_test (length cs) none c l)

  pub courses_hold : courses_fault cs hs (length cs) ≡ None → AllByRecursion LawfulCourse cs
  courses_hold none = All-from_get_or LawfulCourse cs no_course (λ c l. (each_holds none c l).0)

  -- the choices of the first n courses
  choices_below : courses_fault cs hs (length cs) ≡ None → (n : ℕ) → n ≤ length cs → (i : ℕ) → i < label cs n → LawfulChoice (get_or hs i no_choice)
  choices_below none zero m i l = absurd (omega (arith, l))
  choices_below none (suc n) m i l =
      let t = label cs n in
      let next : label cs (suc n) ≡ t + (get_or cs n no_course).choices = ap (label cs) (sym (add-one n)) ∙ label_more cs n m in
      ⊎_elim
      (λ before. choices_below none n (omega arith) i before)
      (λ here.
      let e : t + (i - t) ≡ i = omega arith in
      subst (λ (j : ℕ). LawfulChoice (get_or hs j no_choice)) e ((each_holds none n (omega arith)).1 (i - t) (omega arith)))
      (cases_lt i t)

  pub choices_hold : length hs ≡ total cs → courses_fault cs hs (length cs) ≡ None → AllByRecursion LawfulChoice hs
  choices_hold whole none =
      let all = label_all cs (length cs) (omega arith) in
      All-from_get_or LawfulChoice hs no_choice (λ i l. choices_below none (length cs) (omega arith) i (omega arith))

  pub hold_courses : length hs ≡ total cs → AllByRecursion LawfulCourse cs → AllByRecursion LawfulChoice hs → courses_fault cs hs (length cs) ≡ None
  hold_courses whole lc lh =
      first_of_each course_test (length cs) (λ c l.
      let own = own_inside cs c l in
      hold_course (get_or cs c no_course) hs (label cs c) (place cs c) (All-get_or LawfulCourse cs c no_course l lc)
      (λ k h. All-get_or LawfulChoice hs (label cs c + k) no_choice (omega arith) lh))
