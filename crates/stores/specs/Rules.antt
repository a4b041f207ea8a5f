-- By rule: which pairings course rows and choice rows allow.
--
--   clash       two choices clash: one evening, and one room or one teacher
--   known       a choice's course row and choice row are there, and the choice row makes a record
--   allowed     both choices are known and do not clash
--   rule_draft  the allowed pairings that have no mark
--   FitsAt      a course row fits its course
--   Matches     the rows fit the shape
--   RowsTold    what the opening answers
use Rattle.std.specs.Prelude.{◌≡◌, ℕ, ◌<◌, ◌≤◌, Bool, not, ◌&&◌, ◌||◌, ◌⊎◌, List, length, take, is_some, Some, None, Ok, Err, sum, Result, ◌==◌, nat_lt, slice_index, slice_index_or}
use Rattle.std.specs.List.{AllByRecursion}
use Rattle.draft.specs.Drafts.{Draft, whole, restrict}
use Rattle.draft.specs.Labels.{label, pair_number}
use Rattle.draft.specs.declared.pairing.Pairing.{Pairing}
use Rattle.draft.specs.declared.pairing.Side.{Side}
use Rattle.draft.specs.declared.refusal.Refusal.{Refusal}
use Rattle.draft.specs.declared.refusal.Refusal.TheVariants.{Limit}
use Rattle.layout.specs.Layout.{counts_of}
use Rattle.layout.specs.Records.{refusal_of}
use Rattle.layout.specs.declared.rows.ChoiceRow.{ChoiceRow}
use Rattle.layout.specs.declared.rows.CourseRow.{CourseRow}
use Rattle.stores.specs.Marks.{unmarked}

-- choices x and y, whose courses have the teachers t and u
abbrev pub clash : (t : ℕ) → ChoiceRow → (u : ℕ) → ChoiceRow → Bool
clash t x u y = x.evening == y.evening && (x.room == y.room || t == u)

-- course row i
abbrev pub course_at : List CourseRow → (i : ℕ) → CourseRow
course_at courses i = slice_index_or courses i record { teacher = 0; choices = 0 }

-- the row of a choice's course
abbrev pub course_row : List CourseRow → Side → CourseRow
course_row courses x = course_at courses x.course

-- the row of a choice: the one at its label
abbrev pub choice_row : List ℕ → List ChoiceRow → Side → ChoiceRow
choice_row a choices x = slice_index_or choices (label a x) record { evening = 0; room = 0 }

-- a row makes a choice record: nothing refuses it
abbrev pub makes : ChoiceRow → Bool
makes h = not (is_some (refusal_of h))

-- neither row of a choice is missing, and its choice row makes a record
abbrev pub known : List ℕ → List CourseRow → List ChoiceRow → Side → Bool
known a courses choices x = nat_lt x.course (length courses) && (nat_lt (label a x) (length choices) && makes (choice_row a choices x))

-- both choices are known and do not clash
abbrev pub allowed : List ℕ → List CourseRow → List ChoiceRow → Pairing → Bool
allowed a courses choices p =
    known a courses choices p.one
    && (known a courses choices p.other
    && not (clash (course_row courses p.one).teacher (choice_row a choices p.one) (course_row courses p.other).teacher (choice_row a choices p.other)))

-- the draft of the shape with the counts a: the pairings without a clash
abbrev pub clash_free : List ℕ → List CourseRow → List ChoiceRow → Draft
clash_free a courses choices = restrict (whole a) (allowed a courses choices)

-- those of them that have no mark
abbrev pub rule_draft : List ℕ → List CourseRow → List ChoiceRow → List ℕ → Draft
rule_draft a courses choices marks = unmarked (clash_free a courses choices) (pair_number a) marks

-- row i has the choice count of course i and a teacher of at most 63
abbrev pub FitsAt : List ℕ → List CourseRow → (i : ℕ) → Type 0
FitsAt a courses i = ((course_at courses i).choices ≡ slice_index a i) × ((course_at courses i).teacher ≤ 63)

-- a course row for each course, with its choice count and a teacher of at most 63, and a choice row for each label
pub record Matches (a : List ℕ) (courses : List CourseRow) (choices : List ChoiceRow) : Type 0 where
  pub counts : counts_of courses ≡ a
  pub teachers : AllByRecursion (λ r. r.teacher ≤ 63) courses
  pub labels : length choices ≡ sum a

-- row k is the first that makes no record, and e is why
pub record FirstRefused (choices : List ChoiceRow) (k : ℕ) (e : Refusal) : Type 0 where
  pub there : k < length choices
  pub before : AllByRecursion (λ h. refusal_of h ≡ None) (take k choices)
  pub refused : refusal_of (slice_index_or choices k record { evening = 0; room = 0 }) ≡ Some e

-- rows that do not fit the shape are refused with 3, and else the first row that makes no record gives its refusal
abbrev pub RowsTold : {U : Type 0} → List ℕ → List CourseRow → List ChoiceRow → Result U Refusal → Type 0
RowsTold a courses choices (Ok _) = Matches a courses choices × AllByRecursion (λ h. refusal_of h ≡ None) choices
RowsTold a courses choices (Err e) = ((Matches a courses choices → ⊥) × (e ≡ Limit)) ⊎ (Matches a courses choices × ((k : ℕ) × FirstRefused choices k e))
