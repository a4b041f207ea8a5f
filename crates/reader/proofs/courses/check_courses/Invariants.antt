use Rattle.std.proofs.Common.{◌≡◌, ◌+◌, ◌*◌, ◌≤◌, take, None}
use Rattle.reader.specs.Decoded.{label, course_rows}
use Rattle.reader.specs.Readers.{Moves}
use Rattle.reader.specs.Verdict.{courses_fault}
use Rattle.reader.proofs.courses.check_courses.Given as goal

abbrev pub invariant-loop-row : goal.invariant-loop-row
invariant-loop-row l =
    let s = l.initial.reader.sheet.now in
    record {
      clean : courses_fault s l.row-index ≡ None;
      labels : l.labels ≡ label s l.row-index;
      few : l.labels ≤ 8 * l.row-index;
      rows : take l.row-index l.row-items ≡ course_rows s l.row-index;
      moved : Moves l.initial.reader l.reader (9 * l.row-index + 8 * l.labels);
    }
