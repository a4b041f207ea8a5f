use Rattle.std.proofs.Common.{Err, arith}
use Rattle.std.proofs.lemmas.Result.{err_from_is_err_and}
use Rattle.writer.proofs.CheckLaws.{few_checked, limits_hold, rows_tell}
use Rattle.writer.proofs.LengthLaws.{lengths_hold}
use Rattle.writer.proofs.rows_check.check_rows.Goals as goal

pub overflow_mul-at-2 : goal.overflow_mul-at-2
overflow_mul-at-2 c =
    omega (arith, few_checked c.args.rows.now.courses.now c.args.rows.now.choices.now c.args.rows.now.bars.now c.in_ok-check_lengths.ensures.told c.in_ok-check_courses.ensures.told)

pub overflow_add-at-2 : goal.overflow_add-at-2
overflow_add-at-2 c =
    let n = lengths_hold c.args.rows.now.courses.now c.args.rows.now.choices.now c.args.rows.now.bars.now c.in_ok-check_lengths.ensures.told in
    let few = few_checked c.args.rows.now.courses.now c.args.rows.now.choices.now c.args.rows.now.bars.now c.in_ok-check_lengths.ensures.told c.in_ok-check_courses.ensures.told in
    omega (arith, n.many)

pub check_bars-requires : goal.check_bars-requires
check_bars-requires c =
    let n = lengths_hold c.args.rows.now.courses.now c.args.rows.now.choices.now c.args.rows.now.bars.now c.in_ok-check_lengths.ensures.told in
    let few = few_checked c.args.rows.now.courses.now c.args.rows.now.choices.now c.args.rows.now.bars.now c.in_ok-check_lengths.ensures.told c.in_ok-check_courses.ensures.told in
    record { early = omega (arith, n.many); many = n.bars }

pub unreachable-requires : goal.unreachable-requires
unreachable-requires c = c.in_default.ensures.value.0 (limits_hold _ _ _ c.in_ok-check_lengths.ensures.told c.in_ok-check_courses.ensures.told)

pub returns-in_err-check_bars-clause-told : goal.returns-in_err-check_bars-clause-told
returns-in_err-check_bars-clause-told c =
    let p = err_from_is_err_and c.from_residual-in_err-check_bars.result c.from_residual-in_err-check_bars.ensures.1 in
    rw (p.1, p.2) (rows_tell _ _ _ c.in_ok-check_lengths.ensures.told c.in_ok-check_courses.ensures.told {U = Unit {0}} _ (Err c.in_err-check_bars.field-0.0) c.in-Ok.ensures.value c.in_err-check_bars.ensures.told)
