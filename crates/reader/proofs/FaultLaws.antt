-- The fault of a bar in a sheet is that of its row.
use Rattle.std.proofs.Common.{◌≡◌, ℕ, List, Some, None, Option, subst}
use Rattle.draft.specs.declared.fault.Fault.{Fault}
use Rattle.layout.specs.declared.rows.BarRow.{BarRow}
use Rattle.layout.specs.Faults.{bar_fault}
use Rattle.reader.specs.Decoded.{bar_at}
use Rattle.reader.specs.Verdict.{ends, next_fault}

-- a bar that does not end the sheet has the fault of its row
pub next_fault_lem : (s a : List ℕ) (before : Option BarRow) (p : ℕ) (bar : BarRow) (f : Fault) → ends s p 16 ≡ None → bar ≡ bar_at s p → bar_fault a before bar p ≡ Some f → next_fault s a before p ≡ Some f
next_fault_lem s a before p bar f e is h = rw e (subst (λ (b : BarRow). bar_fault a before b p ≡ Some f) is h)
