use Rattle.std.proofs.Common.{◌≡◌, get_or, None}
use Rattle.draft.specs.Shapes.{counts}
use Rattle.layout.specs.Faults.{prior}
use Rattle.layout.specs.Layout.{no_bar}
use Rattle.writer.specs.RowFaults.{bars_fault}
use Rattle.writer.proofs.rows_check.check_bars.Given as goal

abbrev pub invariant-loop-k : goal.invariant-loop-k
invariant-loop-k l =
    (bars_fault (counts l.shape) l.bars l.at l.k ≡ None)
    × (l.before ≡ prior (λ i. get_or l.bars i no_bar) l.k)
