use Rattle.std.proofs.Common.{◌≡◌, ◌*◌, ◌+◌, ◌≤◌, drop, None}
use Rattle.writer.specs.RowFaults.{courses_fault, label, place}
use Rattle.writer.proofs.rows_check.check_courses.Given as goal

abbrev pub invariant-loop-row : goal.invariant-loop-row
invariant-loop-row l =
    (courses_fault l.courses l.choices l.row-index ≡ None)
    × (l.at ≡ place l.courses l.row-index)
    × (l.at ≤ 9 + 2049 * l.row-index)
    × (l.rest ≡ drop (label l.courses l.row-index) l.choices)
