use Rattle.std.proofs.Common.{◌+◌, ◌*◌, length, get_or, ap, ◌∙◌, zero-add, arith}
use Rattle.std.proofs.lemmas.Result.{err_from_is_err_and}
use Rattle.layout.proofs.FirstLaws.{first_of_stop}
use Rattle.writer.specs.RowFaults.{no_choice, choice_fault}
use Rattle.writer.proofs.rows_check.check_choices.Goals as goal

pub returns-in_err-check_choice : goal.returns-in_err-check_choice
returns-in_err-check_choice c =
    let hs = c.args.choices.now in
    let k = c.loop-k.k in
    let p = err_from_is_err_and c.from_residual.result c.from_residual.ensures.1 in
    let here = ap (λ n. choice_fault (get_or hs n no_choice) (c.args.at + 8 * k)) (zero-add k) ∙ c.in_err-check_choice.ensures.told in
    rw (p.1, p.2) (record { told = first_of_stop (λ n. choice_fault (get_or hs (0 + n) no_choice) (c.args.at + 8 * n)) k (length hs) _ (omega arith) c.loop-k.invariant here })
