-- The choice counts of course rows.
use Rattle.std.proofs.Common.{◌≡◌, List, length}
use Rattle.std.proofs.lemmas.List.{length-map}
use Rattle.layout.specs.declared.rows.CourseRow.{CourseRow}
use Rattle.layout.specs.Layout.{counts_of}

pub counts_length : (cs : List CourseRow) → length (counts_of cs) ≡ length cs
counts_length cs = length-map cs (λ (c : CourseRow). c.choices)
