use Rattle.std.proofs.Common.{take, drop, sym, ap, ◌∙◌, subst, arith}
use Rattle.std.specs.List.{AllByRecursion}
use Rattle.std.proofs.ByRecursion.{All-drop}
use Rattle.std.proofs.lemmas.List.Sums.{sum_by-drop_more}
use Rattle.layout.specs.Layout.{LawfulChoice}
use Rattle.writer.specs.RowFaults.{no_course}
use Rattle.writer.proofs.WriterLaws.{leaves_room, leaves_others, courses_left}
use Rattle.writer.proofs.put.put_courses.Goals as goal

pub put_course-requires-clause-room : goal.put_course-requires-clause-room
put_course-requires-clause-room c =
    let cs = c.args.courses.now in
    let rest = c.loop-row.rest.now in
    leaves_room _ _
    (courses_left cs rest _ _ c.loop-row.row-index no_course c.loop-row-test.true
    (c.split_at.ensures.front ∙ ap (λ n. take n rest) c.from.ensures) (c.split_at.ensures.back ∙ ap (λ n. drop n rest) c.from.ensures))
    c.loop-row.invariant.2

pub loop-row-preserved : goal.loop-row-preserved
loop-row-preserved c =
    let cs = c.args.courses.now in
    let k = c.loop-row.row-index in
    let rest = c.loop-row.rest.now in
    let left = sum_by-drop_more (λ r. r.choices) cs k no_course c.loop-row-test.true in (
      omega (arith, left, c.loop-row.invariant.0, c.split_at.ensures.back_len, c.from.ensures),
      subst (λ hs. AllByRecursion LawfulChoice hs) (sym c.split_at.ensures.back) (All-drop LawfulChoice c.from.result rest c.loop-row.invariant.1),
      leaves_others _ _
          (courses_left cs rest _ _ k no_course c.loop-row-test.true
          (c.split_at.ensures.front ∙ ap (λ n. take n rest) c.from.ensures) (c.split_at.ensures.back ∙ ap (λ n. drop n rest) c.from.ensures))
          c.loop-row.invariant.2 c.put_course.ensures.fields,
    )
