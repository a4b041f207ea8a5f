use Rattle.std.proofs.Common.{arith}
use Rattle.std.proofs.lemmas.Result.{err_from_is_err_and}
use Rattle.layout.proofs.FirstLaws.{first_of_stop}
use Rattle.reader.proofs.courses.check_choices.Goals as goal

pub returns-in_err-check_choice-clause-value : goal.returns-in_err-check_choice-clause-value
returns-in_err-check_choice-clause-value c =
    let p = err_from_is_err_and c.from_residual.result c.from_residual.ensures.1 in
    let inv = c.loop.invariant in
    rw (p.1, p.2) (first_of_stop _ c.loop.counter c.args.count _ (omega arith) inv.clean (rw (inv.moved.sheet, inv.moved.place) at c.in_err-check_choice.ensures.value))
