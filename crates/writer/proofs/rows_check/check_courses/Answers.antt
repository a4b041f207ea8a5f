use Rattle.std.proofs.Common.{length, get_or, take, drop, sym, ap, ◌∙◌, arith}
use Rattle.std.proofs.lemmas.Result.{err_from_is_err_and}
use Rattle.std.proofs.lemmas.List.{drop-drop}
use Rattle.writer.specs.RowFaults.{no_course, label, course_fault}
use Rattle.writer.proofs.LabelLaws.{label_more, own_fault, courses_more, courses_stop}
use Rattle.writer.proofs.rows_check.check_courses.Goals as goal

pub returns-in_err-check_course : goal.returns-in_err-check_course
returns-in_err-check_course c =
    let cs = c.args.courses.now in
    let hs = c.args.choices.now in
    let k = c.loop-row.row-index in
    let t = label cs k in
    let inv = c.loop-row.invariant in
    let p = err_from_is_err_and c.from_residual.result c.from_residual.ensures.1 in
    let own = c.split_at.ensures.front ∙ ap (λ n. take n c.loop-row.rest.now) c.from.ensures ∙ ap (take (get_or cs k no_course).choices) inv.3 in
    let here = ap (course_fault (get_or cs k no_course) hs t) (sym inv.1) ∙ sym (own_fault (get_or cs k no_course) hs _ t c.loop-row.at own) ∙ c.in_err-check_course.ensures.told in
    rw (p.1, p.2) (record { told = courses_stop cs hs k t (length cs) _ (omega arith) (λ _. t) inv.0 here })

pub loop-row-preserved : goal.loop-row-preserved
loop-row-preserved c =
    let cs = c.args.courses.now in
    let hs = c.args.choices.now in
    let k = c.loop-row.row-index in
    let t = label cs k in
    let row = get_or cs k no_course in
    let inv = c.loop-row.invariant in
    let more = label_more cs k c.loop-row-test.true in
    let own = c.split_at.ensures.front ∙ ap (λ n. take n c.loop-row.rest.now) c.from.ensures ∙ ap (take row.choices) inv.3 in
    let here = ap (course_fault row hs t) (sym inv.1) ∙ sym (own_fault row hs _ t c.loop-row.at own) ∙ c.in_ok-check_course.ensures.told in (
      courses_more cs hs k t (λ _. t) inv.0 here,
      omega (arith, inv.1, more, c.split_at.ensures.front_len, c.from.ensures),
      omega (arith, inv.2, c.split_at.ensures.front_len, c.from.ensures),
      c.split_at.ensures.back ∙ ap (λ n. drop n c.loop-row.rest.now) c.from.ensures ∙ ap (drop row.choices) inv.3 ∙ drop-drop row.choices t hs ∙ ap (λ n. drop n hs) (sym more),
    )
