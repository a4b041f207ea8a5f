use Rattle.std.proofs.Common.{◌∙◌, sym, refl}
use Rattle.std.proofs.lemmas.Result.{err_from_is_err_and}
use Rattle.reader.proofs.HeadLaws.{tail_limits, whole_verdict, head_of}
use Rattle.reader.proofs.check.check_head.Goals as goal

pub check_tail-requires-clause-limits : goal.check_tail-requires-clause-limits
check_tail-requires-clause-limits c =
    let start = c.in_ok-courses.ensures in
    let courses = c.in_ok-rows.ensures in
    tail_limits refl start.next courses.next start.value courses.value

pub returns-in_err-bars : goal.returns-in_err-bars
returns-in_err-bars c =
    let p = err_from_is_err_and c.from_residual-in_err-bars.result c.from_residual-in_err-bars.ensures.1 in
    let start = c.in_ok-courses.ensures in
    let courses = c.in_ok-rows.ensures in
    rw (p.1, p.2) (record { value = sym (whole_verdict refl start.next courses.next start.value courses.value) ∙ c.in_err-bars.ensures.value })

pub returns : goal.returns
returns c =
    let start = c.in_ok-courses.ensures in
    let courses = c.in_ok-rows.ensures in
    let told = c.in_ok-bars.ensures.value in
    record {
      value = (
        sym (whole_verdict refl start.next courses.next start.value courses.value) ∙ told.0,
        head_of refl start.next courses.next start.value courses.value _ _ told.1,
      );
    }
