use Rattle.std.proofs.Common.{◌≡◌, ℕ, ◌<◌, ◌≤◌, List, length, get_or, sym, ap, ◌∙◌, arith}
use Rattle.std.specs.List.{AllByRecursion}
use Rattle.std.proofs.ByRecursion.{All-get_or, All-from_get_or}
use Rattle.std.proofs.lemmas.List.{ext_get_or, get_or-map}
use Rattle.draft.specs.Shapes.{counts}
use Rattle.layout.specs.Layout.{counts_of}
use Rattle.layout.specs.declared.rows.CourseRow.{CourseRow}
use Rattle.layout.proofs.CountLaws.{counts_length}
use Rattle.stores.specs.Rules.{course_at, FitsAt}
use Rattle.stores.proofs.rows.courses_fit.Goals as goal

-- there is a course row for each course, with its choice count and a teacher of at most 63
abbrev Fit : List ℕ → List CourseRow → Type 0
Fit a cs = (counts_of cs ≡ a) × AllByRecursion (λ r. r.teacher ≤ 63) cs

-- the choice count of row k
count_at : (cs : List CourseRow) (k : ℕ) → k < length cs → get_or (counts_of cs) k 0 ≡ (course_at cs k).choices
count_at cs k h = get_or-map (λ r. r.choices) cs k record { teacher = 0; choices = 0 } 0 h

-- rows that fit do so one by one
fit_at : (a : List ℕ) (cs : List CourseRow) → Fit a cs → (k : ℕ) → k < length cs → FitsAt a cs k
fit_at a cs f k h = (sym (count_at cs k h) ∙ ap (λ l. get_or l k 0) f.0, All-get_or (λ r. r.teacher ≤ 63) cs k record { teacher = 0; choices = 0 } h f.1)

-- as many rows as courses fit where each one does
fit_all : (a : List ℕ) (cs : List CourseRow) → length cs ≡ length a → ((k : ℕ) → k < length cs → FitsAt a cs k) → Fit a cs
fit_all a cs n each = (
  ext_get_or 0 (counts_of cs) a (counts_length cs ∙ n) (λ k h. let l : k < length cs = omega (arith, counts_length cs) in count_at cs k l ∙ (each k l).0),
  All-from_get_or (λ r. r.teacher ≤ 63) cs record { teacher = 0; choices = 0 } (λ k h. (each k h).1),
)

pub returns-then-courses : goal.returns-then-courses
returns-then-courses c =
    let a = counts c.args.shape.now in
    let cs = c.args.courses.now in
    let each = c.rows_fit.ensures.value in
    record { value = (λ yes. fit_all a cs (omega arith) (each.0 yes), λ fits. each.1 (fit_at a cs fits)) }
