use Rattle.std.proofs.Common.{◌≡◌, length, take}
use Rattle.layout.specs.Layout.{counts_of}
use Rattle.layout.proofs.shapes.count_table.Given as goal

abbrev pub invariant-loop-i : goal.invariant-loop-i
invariant-loop-i l = (take l.i l.table ≡ take l.i (counts_of l.courses)) × (length l.table ≡ 24)
