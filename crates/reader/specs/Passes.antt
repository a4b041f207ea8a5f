-- What the passes over a sheet hand on.
use Rattle.std.specs.Prelude.{◌≡◌, ℕ, ◌*◌, ◌≤◌, List, take, Some, None, Ok, Err, Option, Result}
use Rattle.draft.specs.declared.fault.Fault.{Fault}
use Rattle.layout.specs.declared.rows.Counts.{Counts}
use Rattle.layout.specs.declared.rows.CourseRow.{CourseRow}
use Rattle.reader.specs.declared.head.Head.{Head}
use Rattle.reader.specs.Decoded.{label, course_count, course_rows, counts}

-- the call is refused with that fault, and where there is none it answers a value that is as P says
abbrev pub Yields : {V : Type 0} → Option Fault → (V → Type 0) → Result V Fault → Type 0
Yields fault P (Ok v) = (fault ≡ None) × P v
Yields fault P (Err f) = fault ≡ Some f

-- n is the number of courses, and within its limits
pub record Started (s : List ℕ) (n : ℕ) : Type 0 where
  pub count : n ≡ course_count s
  pub few : 2 ≤ n
  pub many : n ≤ 24

-- a table with the first n course rows in its front, and the number of their choices
pub record Courses (s : List ℕ) (n : ℕ) (e : List CourseRow × ℕ) : Type 0 where
  pub rows : take n e.0 ≡ course_rows s n
  pub labels : e.1 ≡ label s n
  pub few : e.1 ≤ 8 * n

-- the course rows and the counts of the sheet
pub record HeadOf (s : List ℕ) (h : Head) : Type 0 where
  pub counts : h.counts ≡ counts s
  pub rows : take h.counts.courses h.rows ≡ course_rows s (course_count s)

-- lists of these lengths have room for so many rows
pub record Room (n : Counts) (lc lh lb : ℕ) : Type 0 where
  pub courses : n.courses ≤ lc
  pub choices : n.choices ≤ lh
  pub bars : n.bars ≤ lb
