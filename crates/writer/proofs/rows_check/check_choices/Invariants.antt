use Rattle.std.proofs.Common.{◌≡◌, None}
use Rattle.writer.specs.RowFaults.{choices_fault}
use Rattle.writer.proofs.rows_check.check_choices.Given as goal

abbrev pub invariant-loop-k : goal.invariant-loop-k
invariant-loop-k l = choices_fault l.choices 0 l.at l.k ≡ None
