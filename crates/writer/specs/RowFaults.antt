-- The faults of rows that are to be written, and the first of them.
--
--   length_fault cs hs bs  the first fault of the list lengths
--   courses_fault cs hs n  the first fault of the first n courses and their choices
--   bars_fault a bs q m    the first fault of the first m bars, which begin at bit q
--   rows_fault cs hs bs    the first fault of the rows
--   write_fault .. room    that, or want of memory for their sheet
use Rattle.std.specs.Prelude.{ℕ, ◌+◌, ◌*◌, ◌&&◌, List, length, take, Option, ◌==◌, nat_le, slice_index_or}
use Rattle.draft.specs.declared.fault.Fault.{Fault}
use Rattle.draft.specs.declared.refusal.Refusal.TheVariants.{Limit, Evening, Memory}
use Rattle.layout.specs.declared.rows.BarRow.{BarRow}
use Rattle.layout.specs.declared.rows.ChoiceRow.{ChoiceRow}
use Rattle.layout.specs.declared.rows.CourseRow.{CourseRow}
use Rattle.layout.specs.Faults.{first, first_of, unless, prior, bar_fault}
use Rattle.layout.specs.Layout.{total, counts_of, bytes_of, no_bar}

-- what stands past the end of a list of courses, or of choices
abbrev pub no_course : CourseRow
no_course = record { teacher = 0; choices = 0 }

abbrev pub no_choice : ChoiceRow
no_choice = record { evening = 0; room = 0 }

-- the list lengths: courses, choices, bars
abbrev pub length_fault : List CourseRow → List ChoiceRow → List BarRow → Option Fault
length_fault cs hs bs =
    first (unless (nat_le 2 (length cs) && nat_le (length cs) 24) Limit 0)
    (first (unless (length hs == total cs) Limit 0) (unless (nat_le (length bs) 4095) Limit 0))

-- evening and room of a choice at bit p
abbrev pub choice_fault : ChoiceRow → ℕ → Option Fault
choice_fault h p = first (unless (nat_le h.evening 6) Evening p) (unless (nat_le h.room 31) Limit (p + 3))

-- the first choices of the list hs from t on, at bit p
abbrev pub choices_fault : List ChoiceRow → ℕ → ℕ → ℕ → Option Fault
choices_fault hs t p = first_of (λ k. choice_fault (slice_index_or hs (t + k) no_choice) (p + 8 * k))

-- choice count, teacher and choices of a course at bit p, whose choices are those of hs from t on
abbrev pub course_fault : CourseRow → List ChoiceRow → ℕ → ℕ → Option Fault
course_fault c hs t p =
    first (unless (nat_le 1 c.choices && nat_le c.choices 8) Limit p)
    (first (unless (nat_le c.teacher 63) Limit (p + 3)) (choices_fault hs t (p + 9) c.choices))

-- the choices of the courses before course c, and the bit where course c begins
abbrev pub label : List CourseRow → ℕ → ℕ
label cs c = total (take c cs)

abbrev pub place : List CourseRow → ℕ → ℕ
place cs c = 9 + 9 * c + 8 * label cs c

-- the first n courses
abbrev pub courses_fault : List CourseRow → List ChoiceRow → ℕ → Option Fault
courses_fault cs hs = first_of (λ c. course_fault (slice_index_or cs c no_course) hs (label cs c) (place cs c))

-- the first m bars, the first of them at bit q; a is the list of choice counts
abbrev pub bars_fault : List ℕ → List BarRow → ℕ → ℕ → Option Fault
bars_fault a bs q = first_of (λ k. bar_fault a (prior (λ i. slice_index_or bs i no_bar) k) (slice_index_or bs k no_bar) (q + 16 * k))

-- list lengths first, then the fields in their order
abbrev pub rows_fault : List CourseRow → List ChoiceRow → List BarRow → Option Fault
rows_fault cs hs bs =
    first (length_fault cs hs bs)
    (first (courses_fault cs hs (length cs)) (bars_fault (counts_of cs) bs (place cs (length cs) + 12) (length bs)))

-- the first fault of a writing into so many bytes: want of memory comes last
abbrev pub write_fault : List CourseRow → List ChoiceRow → List BarRow → ℕ → Option Fault
write_fault cs hs bs room = first (rows_fault cs hs bs) (unless (nat_le (bytes_of cs hs bs) room) Memory 0)
