-- The choices before a course, and the courses checked one after another.
use Rattle.std.proofs.Common.{◌≡◌, ℕ, zero, suc, ◌+◌, ◌*◌, ◌<◌, ◌≤◌, ◌&&◌, leb, List, length, get_or, take, drop, Some, None, Option, sym, refl, ap, ◌∙◌, ap₂, arith}
use Rattle.std.proofs.lemmas.List.{take_all, get_or-take, get_or-drop}
use Rattle.std.proofs.lemmas.List.Sums.{sum_by_more, sum_by-take-le}
use Rattle.draft.specs.declared.fault.Fault.{Fault}
use Rattle.layout.specs.declared.rows.ChoiceRow.{ChoiceRow}
use Rattle.layout.specs.declared.rows.CourseRow.{CourseRow}
use Rattle.layout.specs.Layout.{total}
use Rattle.draft.specs.declared.refusal.Refusal.TheVariants.{Limit}
use Rattle.layout.specs.Faults.{first, first_of, unless}
use Rattle.writer.specs.RowFaults.{no_course, no_choice, label, place, choice_fault, course_fault, courses_fault}
use Rattle.layout.proofs.FirstLaws.{first_of_more, first_of_stop}

pub label_more : (cs : List CourseRow) (c : ℕ) → c < length cs → label cs (c + 1) ≡ label cs c + (get_or cs c no_course).choices
label_more cs c h = sum_by_more (λ (x : CourseRow). x.choices) cs c no_course h

pub label_le : (cs : List CourseRow) (c : ℕ) → label cs c ≤ total cs
label_le cs c = sum_by-take-le (λ (x : CourseRow). x.choices) cs c

pub label_all : (cs : List CourseRow) (c : ℕ) → length cs ≤ c → label cs c ≡ total cs
label_all cs c h = ap total (take_all c cs h)

-- a course's own choices are among all choices
pub own_inside : (cs : List CourseRow) (c : ℕ) → c < length cs → label cs c + (get_or cs c no_course).choices ≤ total cs
own_inside cs c h = omega (arith, label_more cs c h, label_le cs (c + 1))

abbrev test : List CourseRow → List ChoiceRow → ℕ → Option Fault
test cs hs c = course_fault (get_or cs c no_course) hs (label cs c) (place cs c)

-- the course's test, its choices from t on
tested : (cs : List CourseRow) (hs : List ChoiceRow) (c t : ℕ) → t ≡ label cs c → course_fault (get_or cs c no_course) hs t (9 + 9 * c + 8 * t) ≡ test cs hs c
tested cs hs c t at = ap (λ (n : ℕ). course_fault (get_or cs c no_course) hs n (9 + 9 * c + 8 * n)) at

pub courses_more : (cs : List CourseRow) (hs : List ChoiceRow) (c t : ℕ) → t ≡ label cs c → courses_fault cs hs c ≡ None → course_fault (get_or cs c no_course) hs t (9 + 9 * c + 8 * t) ≡ None → courses_fault cs hs (c + 1) ≡ None
courses_more cs hs c t at a b = first_of_more (test cs hs) c a (sym (tested cs hs c t at) ∙ b)

pub courses_stop : (cs : List CourseRow) (hs : List ChoiceRow) (c t n : ℕ) (f : Fault) → c < n → t ≡ label cs c → courses_fault cs hs c ≡ None → course_fault (get_or cs c no_course) hs t (9 + 9 * c + 8 * t) ≡ Some f → courses_fault cs hs n ≡ Some f
courses_stop cs hs c t n f h at a b = first_of_stop (test cs hs) c n f h a (sym (tested cs hs c t at) ∙ b)

-- tests that agree find the same first fault
first_of_ext : (f g : ℕ → Option Fault) (n : ℕ) → ((k : ℕ) → k < n → f k ≡ g k) → first_of f n ≡ first_of g n
first_of_ext f g zero h = refl
first_of_ext f g (suc n) h = ap₂ first (first_of_ext f g n (λ k l. h k (omega arith))) (h n (omega arith))

-- a course's fault is the same, whether its choices stand by themselves or among all choices
pub own_fault : (c : CourseRow) (hs own : List ChoiceRow) (t p : ℕ) → own ≡ take c.choices (drop t hs) → course_fault c own 0 p ≡ course_fault c hs t p
own_fault c hs own t p is =
    ap (λ f. first (unless (leb 1 c.choices && leb c.choices 8) Limit p) (first (unless (leb c.teacher 63) Limit (p + 3)) f))
    (first_of_ext _ _ c.choices (λ k l.
    ap (λ h. choice_fault h (p + 9 + 8 * k))
    (ap (λ n. get_or own n no_choice) (omega arith) ∙ ap (λ (xs : List ChoiceRow). get_or xs k no_choice) is ∙ get_or-take c.choices (drop t hs) k no_choice l ∙ get_or-drop t hs k no_choice)))
