use Rattle.std.proofs.Common.{drop}
use Rattle.std.specs.List.{flat_map}
use Rattle.writer.proofs.WriterLaws.{Leaves}
use Rattle.writer.proofs.put.put_rows.Given as goal

abbrev pub invariant-loop-row : goal.invariant-loop-row
invariant-loop-row g l = Leaves l.initial.writer l.writer (flat_map g.R.Put.fields l.rows) (flat_map g.R.Put.fields (drop l.row-index l.rows))
