use Rattle.std.proofs.Common.{◌≡◌, length, drop}
use Rattle.std.specs.List.{AllByRecursion}
use Rattle.layout.specs.Layout.{courses_fields, total, LawfulChoice}
use Rattle.writer.proofs.WriterLaws.{Leaves}
use Rattle.writer.proofs.put.put_courses.Given as goal

abbrev pub invariant-loop-row : goal.invariant-loop-row
invariant-loop-row l =
    (length l.rest ≡ total (drop l.row-index l.courses))
    × AllByRecursion LawfulChoice l.rest
    × Leaves l.initial.writer l.writer (courses_fields l.courses l.choices) (courses_fields (drop l.row-index l.courses) l.rest)
