use Rattle.std.proofs.Common.{◌≡◌, ℕ, length, get_or, None, subst, arith}
use Rattle.std.proofs.lemmas.Result.{err_from_is_err_and}
use Rattle.draft.specs.Shapes.{counts}
use Rattle.layout.specs.Layout.{no_bar}
use Rattle.writer.specs.RowFaults.{bars_fault}
use Rattle.layout.proofs.BarTests.{prior_more}
use Rattle.writer.proofs.BarLaws.{bars_more, bars_stop}
use Rattle.writer.proofs.rows_check.check_bars.Goals as goal

pub returns-in_err-check_bar : goal.returns-in_err-check_bar
returns-in_err-check_bar c =
    let p = err_from_is_err_and c.from_residual.result c.from_residual.ensures.1 in
    rw (p.1, p.2) (record { told = bars_stop (counts c.args.shape.now) c.args.bars.now c.args.at c.loop-k.k c.loop-k.before _ (omega arith) c.loop-k.invariant.1 c.loop-k.invariant.0 c.in_err-check_bar.ensures.value })

pub loop-k-preserved : goal.loop-k-preserved
loop-k-preserved c =
    let a = counts c.args.shape.now in
    let bs = c.args.bars.now in (
      bars_more a bs c.args.at c.loop-k.k c.loop-k.before c.loop-k.invariant.1 c.loop-k.invariant.0 c.in_ok-check_bar.ensures.value,
      prior_more (λ i. get_or c.args.bars.now i no_bar) c.loop-k.k,
    )

pub returns : goal.returns
returns c =
    let bs = c.args.bars.now in
    let all : c.loop-k.k ≡ length bs = omega arith in
    record { told = subst (λ (n : ℕ). bars_fault (counts c.args.shape.now) bs c.args.at n ≡ None) all c.loop-k.invariant.0 }
