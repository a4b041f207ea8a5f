-- The parts of a fault.
use Rattle.std.specs.Prelude.{ℕ, Some, None, Option}
use Rattle.draft.specs.declared.fault.Fault.{Fault}
use Rattle.draft.specs.declared.fault.Fault.TheVariants.{Sheet, Line, Plan}
use Rattle.draft.specs.declared.refusal.Refusal.{Refusal}

abbrev pub refusal_of : Fault → Refusal
refusal_of (Sheet refusal bit) = refusal
refusal_of (Line refusal) = refusal
refusal_of (Plan refusal) = refusal

-- the first bit of the field at fault, where a sheet raised the fault
abbrev pub bit_of : Fault → Option ℕ
bit_of (Sheet refusal bit) = Some bit
bit_of (Line refusal) = None
bit_of (Plan refusal) = None
