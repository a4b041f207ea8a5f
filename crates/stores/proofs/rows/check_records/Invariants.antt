use Rattle.std.proofs.Common.{◌≡◌, take, None}
use Rattle.std.specs.List.{AllByRecursion}
use Rattle.layout.specs.Records.{refusal_of}
use Rattle.stores.proofs.rows.check_records.Given as goal

abbrev pub invariant-loop-row : goal.invariant-loop-row
invariant-loop-row l = AllByRecursion (λ h. refusal_of h ≡ None) (take l.row-index l.choices)
