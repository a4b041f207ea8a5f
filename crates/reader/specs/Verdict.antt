-- The faults of a sheet's fields, and the first of them.
--
--   ends s p w         the fault of a sheet that ends inside the field of w bits at p
--   courses_fault s n  the first fault of the first n courses
--   tail_fault s a q   the first fault from the number of bars, at bit q, to the end
--   verdict s          the first fault of the sheet s
--   room_fault n ..    want of memory for n rows
--   read_fault s ..    the first fault of the sheet s, or want of memory for its rows
use Rattle.std.specs.Prelude.{ℕ, ◌+◌, ◌-◌, ◌*◌, ◌/◌, ◌&&◌, List, length, Option, ◌==◌, nat_le}
use Rattle.draft.specs.declared.fault.Fault.{Fault}
use Rattle.draft.specs.declared.refusal.Refusal.TheVariants.{SheetEnds, Edition, Limit, Evening, Filling, Memory}
use Rattle.layout.specs.declared.rows.BarRow.{BarRow}
use Rattle.layout.specs.declared.rows.Counts.{Counts}
use Rattle.bits.specs.Bits.{bit, val}
use Rattle.layout.specs.Faults.{first, first_of, unless, prior, bar_fault}
use Rattle.layout.specs.Layout.{counts_of}
use Rattle.reader.specs.Decoded.{bar_at, place, course_count, bars_place, course_rows, counts}

-- the sheet ends inside the field of w bits at p
abbrev pub ends : List ℕ → ℕ → ℕ → Option Fault
ends s p w = unless (nat_le (p + w) (8 * length s)) SheetEnds p

abbrev pub edition_fault : List ℕ → Option Fault
edition_fault s = first (ends s 0 4) (unless (val s 0 4 == 1) Edition 0)

abbrev pub count_fault : List ℕ → Option Fault
count_fault s = first (ends s 4 5) (unless (nat_le 2 (course_count s) && nat_le (course_count s) 24) Limit 4)

-- edition and number of courses
abbrev pub start_fault : List ℕ → Option Fault
start_fault s = first (edition_fault s) (count_fault s)

-- evening and room of the choice at p
abbrev pub choice_fault : List ℕ → ℕ → Option Fault
choice_fault s p = first (ends s p 3) (first (unless (nat_le (val s p 3) 6) Evening p) (ends s (p + 3) 5))

-- the first choices from p on
abbrev pub choices_fault : List ℕ → ℕ → ℕ → Option Fault
choices_fault s p = first_of (λ k. choice_fault s (p + 8 * k))

-- choice count, teacher and choices of the course at p
abbrev pub course_fault : List ℕ → ℕ → Option Fault
course_fault s p = first (ends s p 3) (first (ends s (p + 3) 6) (choices_fault s (p + 9) (val s p 3 + 1)))

-- the first n courses
abbrev pub courses_fault : List ℕ → ℕ → Option Fault
courses_fault s = first_of (λ c. course_fault s (place s c))

-- the bar at p, after the bar before it; a is the list of choice counts
abbrev pub next_fault : List ℕ → List ℕ → Option BarRow → ℕ → Option Fault
next_fault s a before p = first (ends s p 16) (bar_fault a before (bar_at s p) p)

-- the first m bars, of which the first is at q
abbrev pub bars_fault : List ℕ → List ℕ → ℕ → ℕ → Option Fault
bars_fault s a q = first_of (λ k. next_fault s a (prior (λ i. bar_at s (q + 16 * i)) k) (q + 16 * k))

-- the first k filling bits from p on
abbrev pub bits_fault : List ℕ → ℕ → ℕ → Option Fault
bits_fault s p = first_of (λ k. unless (bit s (p + k) == 0) Filling (p + k))

-- the fields end at p: zeros fill the byte, and no byte follows
abbrev pub fill_fault : List ℕ → ℕ → Option Fault
fill_fault s p =
    first (bits_fault s p ((p + 7) / 8 * 8 - p)) (unless (nat_le (length s) ((p + 7) / 8)) Filling ((p + 7) / 8 * 8))

-- the number of bars at q, the bars, and the end of the sheet; a is the list of choice counts
abbrev pub tail_fault : List ℕ → List ℕ → ℕ → Option Fault
tail_fault s a q =
    first (ends s q 12) (first (bars_fault s a (q + 12) (val s q 12)) (fill_fault s (q + 12 + 16 * val s q 12)))

-- the first fault of the sheet, field by field
abbrev pub verdict : List ℕ → Option Fault
verdict s =
    first (start_fault s)
    (first (courses_fault s (course_count s)) (tail_fault s (counts_of (course_rows s (course_count s))) (bars_place s)))

-- want of memory for so many rows in lists of these lengths
abbrev pub room_fault : Counts → ℕ → ℕ → ℕ → Option Fault
room_fault n courses choices bars =
    unless (nat_le n.courses courses && (nat_le n.choices choices && nat_le n.bars bars)) Memory 0

-- the first fault of a reading into lists of these lengths: want of memory comes last
abbrev pub read_fault : List ℕ → ℕ → ℕ → ℕ → Option Fault
read_fault s courses choices bars = first (verdict s) (room_fault (counts s) courses choices bars)
