-- The parts of a sheet's verdict put together.
use Rattle.std.proofs.Common.{◌≡◌, ℕ, ◌+◌, ◌*◌, ◌≤◌, List, length, take, Some, None, refl, sym, ap, ◌∙◌, subst, arith}
use Rattle.draft.specs.Limits.{Limits}
use Rattle.draft.specs.declared.fault.Fault.{Fault}
use Rattle.layout.specs.declared.rows.CourseRow.{CourseRow}
use Rattle.bits.specs.Bits.{val}
use Rattle.layout.specs.Layout.{counts_of}
use Rattle.bits.proofs.BitLaws.{val_lt}
use Rattle.layout.proofs.CountLaws.{counts_length}
use Rattle.reader.specs.declared.fields.BitReader.{BitReader}
use Rattle.reader.specs.Decoded.{course_at, course_rows, course_count, place, label, bars_place, bar_count}
use Rattle.reader.specs.Passes.{Started, Courses, HeadOf}
use Rattle.reader.specs.Readers.{Moves}
use Rattle.reader.specs.Verdict.{start_fault, courses_fault, tail_fault, verdict}
use Rattle.reader.proofs.Places.{decoded_count}
use Rattle.reader.proofs.ReaderLaws.{moves_more}
use Rattle.reader.proofs.RowLaws.{length-rows_of}

-- decoded counts are within the limits
pub rows_limits : (s : List ℕ) (n : ℕ) → 2 ≤ n → n ≤ 24 → Limits (counts_of (course_rows s n))
rows_limits s n few many =
    let l : length (counts_of (course_rows s n)) ≡ n = counts_length (course_rows s n) ∙ length-rows_of (λ c. course_at s (place s c)) n in (
      omega arith,
      omega arith,
      λ k h.
          let e = decoded_count s n k (omega arith) in
          let three = val_lt s (place s k) 3 in
          (omega arith, omega arith),
    )

-- what the passes over its start and its courses find, with the readers before, between and after them
module _ {r t u : BitReader} {n labels : ℕ} {rows : List CourseRow} (begin : r.at ≡ 0) (started : Moves r t 9) (passed : Moves t u (9 * n + 8 * labels))
    (start : (start_fault r.sheet.now ≡ None) × Started r.sheet.now n) (found : (courses_fault t.sheet.now n ≡ None) × Courses t.sheet.now n (rows, labels)) where
  abbrev s : List ℕ
  s = r.sheet.now

  all : Moves r u (9 + (9 * n + 8 * labels))
  all = moves_more started passed

  courses : (courses_fault s n ≡ None) × Courses s n (rows, labels)
  courses = subst (λ (x : List ℕ). (courses_fault x n ≡ None) × Courses x n (rows, labels)) started.sheet found

  count : n ≡ course_count s
  count = start.1.count

  front : take n rows ≡ course_rows s (course_count s)
  front = courses.1.rows ∙ ap (course_rows s) count

  pub tail_limits : Limits (counts_of (take n rows))
  tail_limits =
      subst (λ (x : List CourseRow). Limits (counts_of x)) (sym front) (rows_limits s (course_count s) (omega (arith, start.1.few, count)) (omega (arith, start.1.many, count)))

  choices : labels ≡ label s (course_count s)
  choices = courses.1.labels ∙ ap (label s) count

  end : u.at ≡ bars_place s
  end = omega (arith, begin, all.place, choices, count)

  clean : courses_fault s (course_count s) ≡ None
  clean = subst (λ (k : ℕ). courses_fault s k ≡ None) count courses.0

  -- the verdict is then the first fault from the number of bars on
  pub whole_verdict : tail_fault u.sheet.now (counts_of (take n rows)) u.at ≡ verdict s
  whole_verdict =
      let first_parts : tail_fault s (counts_of (course_rows s (course_count s))) (bars_place s) ≡ verdict s = rw (start.0, clean) refl in
      (λ i. tail_fault (all.sheet i) (counts_of (front i)) (end i)) ∙ first_parts

  -- and a fault from there on is the sheet's
  pub tail_fault_lem : (f : Fault) → tail_fault u.sheet.now (counts_of (take n rows)) u.at ≡ Some f → verdict s ≡ Some f
  tail_fault_lem f h = sym whole_verdict ∙ h

  pub head_of : (m : ℕ) (few : n ≤ 24) → m ≡ val u.sheet.now u.at 12 → HeadOf s (record { rows = rows; counts = record { courses = n; choices = labels; bars = m }; few = few })
  head_of m few is =
      let bars : m ≡ bar_count s = rw (all.sheet, end) at is in
      record { counts = λ i. record { courses = count i; choices = choices i; bars = bars i }; rows = front }
