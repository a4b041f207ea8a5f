use Rattle.std.proofs.Common.{◌≡◌, Some, ap, ◌∙◌, arith}
use Rattle.std.proofs.lemmas.Result.{err_from_is_err_and}
use Rattle.layout.proofs.BarTests.{prior_more}
use Rattle.layout.proofs.FirstLaws.{first_of_more, first_of_stop}
use Rattle.layout.specs.declared.rows.BarRow.{BarRow}
use Rattle.reader.proofs.tail.check_bars.Goals as goal

pub returns-in_err-check_next-clause-value : goal.returns-in_err-check_next-clause-value
returns-in_err-check_next-clause-value c =
    let p = err_from_is_err_and c.from_residual.result c.from_residual.ensures.1 in
    let inv = c.loop.invariant in
    rw (p.1, p.2) (first_of_stop _ c.loop.counter c.args.count _ (omega arith) inv.clean (rw (inv.moved.sheet, inv.moved.place, inv.before) at c.in_err-check_next.ensures.value))

pub loop-preserved : goal.loop-preserved
loop-preserved c =
    let inv = c.loop.invariant in
    let told = rw (inv.moved.sheet, inv.moved.place, inv.before) at c.in_ok-check_next.ensures.value in
    let moved = c.in_ok-check_next.ensures.next in
    record {
      clean = first_of_more _ c.loop.counter inv.clean told.0;
      before = ap (λ (b : BarRow). Some b) told.1 ∙ prior_more _ c.loop.counter;
      moved = record { sheet = moved.sheet ∙ inv.moved.sheet; place = omega arith };
    }

pub returns-clause-value : goal.returns-clause-value
returns-clause-value c = let done : c.args.count ≡ c.loop.counter = omega arith in rw done c.loop.invariant.clean
