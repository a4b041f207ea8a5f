-- The sheet of given rows: its fields in their order, and the bytes that hold them.
--
--   Field               a width in bits and a value
--   laid fs j           bit j of fields laid end to end
--   layout cs hs bs     the fields of the sheet of these rows
--   Lawful cs hs bs     the rows have a sheet
--   IsSheet s cs hs bs  the bytes s are that sheet
use Rattle.std.specs.Prelude.{◌≡◌, ℕ, ◌+◌, ◌-◌, ◌*◌, ◌/◌, ◌%◌, ◌^◌, ◌<◌, ◌≤◌, List, [], ◌∷◌, ◌++◌, map, length, take, drop, sum_by, if◌then◌else◌, nat_lt, slice_index, slice_index_or}
use Rattle.std.specs.List.{flat_map, AllByRecursion}
use Rattle.layout.specs.declared.rows.BarRow.{BarRow}
use Rattle.layout.specs.declared.rows.ChoiceRow.{ChoiceRow}
use Rattle.layout.specs.declared.rows.CourseRow.{CourseRow}
use Rattle.bits.specs.Bits.{bit}

-- a field: its width in bits, and its value
abbrev pub Field : Type 0
Field = ℕ × ℕ

-- the bits that fields take
abbrev pub size : List Field → ℕ
size [] = 0
size (f ∷ fs) = f.0 + size fs

-- bit j of fields laid end to end, each most significant bit first; 0 past the last
abbrev pub laid : List Field → ℕ → ℕ
laid [] j = 0
laid (f ∷ fs) j = if nat_lt j f.0 then f.1 / 2 ^ (f.0 - 1 - j) % 2 else laid fs (j - f.0)

-- a choice: evening, room
abbrev pub choice_fields : ChoiceRow → List Field
choice_fields h = (3, h.evening) ∷ (5, h.room) ∷ []

-- a course: choices minus 1, teacher, then its choices
abbrev pub course_fields : CourseRow → List ChoiceRow → List Field
course_fields c hs = (3, c.choices - 1) ∷ (6, c.teacher) ∷ flat_map choice_fields hs

-- each course with its own choices, the next ones of the list
abbrev pub courses_fields : List CourseRow → List ChoiceRow → List Field
courses_fields [] hs = []
courses_fields (c ∷ cs) hs = course_fields c (take c.choices hs) ++ courses_fields cs (drop c.choices hs)

-- a bar: course, choice, higher course, its choice
abbrev pub bar_fields : BarRow → List Field
bar_fields b = (5, b.course) ∷ (3, b.choice) ∷ (5, b.higher) ∷ (3, b.partner) ∷ []

-- the number of bars, then the bars
abbrev pub bars_fields : List BarRow → List Field
bars_fields bs = (12, length bs) ∷ flat_map bar_fields bs

-- the whole sheet: edition, number of courses, courses, bars
abbrev pub layout : List CourseRow → List ChoiceRow → List BarRow → List Field
layout cs hs bs = (4, 1) ∷ (5, length cs) ∷ (courses_fields cs hs ++ bars_fields bs)

-- the choices of all these courses
abbrev pub total : List CourseRow → ℕ
total = sum_by (λ c. c.choices)

-- the choice count of each course
abbrev pub counts_of : List CourseRow → List ℕ
counts_of = map (λ c. c.choices)

abbrev pub LawfulCourse : CourseRow → Type 0
LawfulCourse c = (1 ≤ c.choices) × (c.choices ≤ 8) × (c.teacher ≤ 63)

abbrev pub LawfulChoice : ChoiceRow → Type 0
LawfulChoice h = (h.evening ≤ 6) × (h.room ≤ 31)

-- the courses rise, and each has the choice named; a is the list of choice counts
abbrev pub LawfulBar : List ℕ → BarRow → Type 0
LawfulBar a b = (b.course < b.higher) × (b.choice < slice_index a b.course) × (b.partner < slice_index a b.higher)

-- the bar as one number of 16 bits
abbrev pub number_of : BarRow → ℕ
number_of b = b.course * 2 ^ 11 + b.choice * 2 ^ 8 + b.higher * 2 ^ 3 + b.partner

-- what stands past the end of a list of bars
abbrev pub no_bar : BarRow
no_bar = record { course = 0; choice = 0; higher = 0; partner = 0 }

-- each bar is above the bar before it
abbrev pub Rising : List BarRow → Type 0
Rising bs = (k : ℕ) → k + 1 < length bs → number_of (slice_index_or bs k no_bar) < number_of (slice_index_or bs (k + 1) no_bar)

-- the rows that have a sheet
pub record Lawful (cs : List CourseRow) (hs : List ChoiceRow) (bs : List BarRow) : Type 0 where
  pub few : 2 ≤ length cs
  pub many : length cs ≤ 24
  pub whole : length hs ≡ total cs
  pub bars : length bs ≤ 4095
  pub courses : AllByRecursion LawfulCourse cs
  pub choices : AllByRecursion LawfulChoice hs
  pub names : AllByRecursion (LawfulBar (counts_of cs)) bs
  pub rising : Rising bs

-- the bytes that the sheet takes
abbrev pub bytes_of : List CourseRow → List ChoiceRow → List BarRow → ℕ
bytes_of cs hs bs = (size (layout cs hs bs) + 7) / 8

-- the bytes s are the sheet of these rows: their fields end to end, zeros to the end of the last byte, and nothing more
pub record IsSheet (s : List ℕ) (cs : List CourseRow) (hs : List ChoiceRow) (bs : List BarRow) : Type 0 where
  pub lawful : Lawful cs hs bs
  pub long : length s ≡ bytes_of cs hs bs
  pub bits : (j : ℕ) → bit s j ≡ laid (layout cs hs bs) j
