-- The rows that a sheet's bits mean, wherever they lie.
--
--   course_at s p    the course row that the bits from p on mean; choice_at and bar_at likewise
--   label s c        the number of choices of the courses before course c
--   place s c        the bit where course c begins
--   course_rows s n  the rows of the first n courses; choice_rows and bar_rows likewise
--   counts s         the numbers of courses, choices and bars
use Rattle.std.specs.Prelude.{ℕ, zero, suc, ◌+◌, ◌*◌, List, [], ◌++◌, map}
use Rattle.std.specs.List.{range_with_len}
use Rattle.layout.specs.declared.rows.BarRow.{BarRow}
use Rattle.layout.specs.declared.rows.ChoiceRow.{ChoiceRow}
use Rattle.layout.specs.declared.rows.Counts.{Counts}
use Rattle.layout.specs.declared.rows.CourseRow.{CourseRow}
use Rattle.bits.specs.Bits.{val}

-- f 0, f 1, .. f (n - 1)
abbrev pub rows_of : {X : Type 0} → (ℕ → X) → ℕ → List X
rows_of f n = map f (range_with_len 0 n)

-- the course, the choice and the bar at bit p
abbrev pub course_at : List ℕ → ℕ → CourseRow
course_at s p = record { teacher = val s (p + 3) 6; choices = val s p 3 + 1 }

abbrev pub choice_at : List ℕ → ℕ → ChoiceRow
choice_at s p = record { evening = val s p 3; room = val s (p + 3) 5 }

abbrev pub bar_at : List ℕ → ℕ → BarRow
bar_at s p = record { course = val s p 5; choice = val s (p + 5) 3; higher = val s (p + 8) 5; partner = val s (p + 13) 3 }

-- the choices of the courses before course c, and the bit where course c begins
abbrev pub label : List ℕ → ℕ → ℕ
label s zero = 0
label s (suc c) = label s c + val s (9 + 9 * c + 8 * label s c) 3 + 1

abbrev pub place : List ℕ → ℕ → ℕ
place s c = 9 + 9 * c + 8 * label s c

-- the number of courses, the bit of the number of bars, and the number of bars
abbrev pub course_count : List ℕ → ℕ
course_count s = val s 4 5

abbrev pub bars_place : List ℕ → ℕ
bars_place s = place s (course_count s)

abbrev pub bar_count : List ℕ → ℕ
bar_count s = val s (bars_place s) 12

-- the first n courses
abbrev pub course_rows : List ℕ → ℕ → List CourseRow
course_rows s = rows_of (λ c. course_at s (place s c))

-- the choices of course c
abbrev pub own_choices : List ℕ → ℕ → List ChoiceRow
own_choices s c = rows_of (λ k. choice_at s (place s c + 9 + 8 * k)) (val s (place s c) 3 + 1)

-- the choices of the first n courses
abbrev pub choice_rows : List ℕ → ℕ → List ChoiceRow
choice_rows s zero = []
choice_rows s (suc c) = choice_rows s c ++ own_choices s c

-- the first m bars, of which the first is at bit q
abbrev pub bar_rows : List ℕ → ℕ → ℕ → List BarRow
bar_rows s q = rows_of (λ k. bar_at s (q + 16 * k))

-- how many rows of each kind the sheet has
abbrev pub counts : List ℕ → Counts
counts s = record { courses = course_count s; choices = label s (course_count s); bars = bar_count s }
