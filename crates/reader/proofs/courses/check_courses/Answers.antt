use Rattle.std.proofs.Common.{◌≡◌, length, ap, ◌∙◌, arith}
use Rattle.std.proofs.lemmas.List.{length-take-le}
use Rattle.std.proofs.lemmas.Result.{err_from_is_err_and}
use Rattle.layout.proofs.FirstLaws.{first_of_more, first_of_stop}
use Rattle.layout.specs.declared.rows.CourseRow.{CourseRow}
use Rattle.reader.specs.Decoded.{course_at, place}
use Rattle.reader.proofs.Places.{label_next}
use Rattle.reader.proofs.RowLaws.{front_more}
use Rattle.reader.proofs.courses.check_courses.Goals as goal

pub returns-in_err-row-clause-value : goal.returns-in_err-row-clause-value
returns-in_err-row-clause-value c =
    let p = err_from_is_err_and c.from_residual.result c.from_residual.ensures.1 in
    let inv = c.loop-row.invariant in
    let here : c.loop-row.reader.at ≡ place c.args.reader.now.sheet.now c.loop-row.row-index = omega arith in
    let long : length c.loop-row.row-items ≡ c.args.n = c.loop-row.auto.row-items ∙ length-take-le c.args.n _ (omega arith) in
    rw (p.1, p.2) (first_of_stop _ c.loop-row.row-index c.args.n _ (omega arith) inv.clean (rw (inv.moved.sheet, here) at c.in_err-row.ensures.value))

pub loop-row-preserved : goal.loop-row-preserved
loop-row-preserved c =
    let s = c.args.reader.now.sheet.now in
    let k = c.loop-row.row-index in
    let inv = c.loop-row.invariant in
    let here : c.loop-row.reader.at ≡ place s k = omega arith in
    let told = rw (inv.moved.sheet, here) at c.in_ok-row.ensures.value in
    let moved = c.in_ok-row.ensures.next in
    let row = told.1.0 in
    let count = ap (λ (r : CourseRow). r.choices) row in
    let next = label_next s k in
    record {
      clean = first_of_more _ k inv.clean told.0;
      labels = omega arith;
      few = omega arith;
      rows = front_more (λ c. course_at s (place s c)) c.loop-row.row-items k _ inv.rows row (omega arith);
      moved = record { sheet = moved.sheet ∙ inv.moved.sheet; place = omega arith };
    }
