-- What is printed of a refusal and of a fault.
use Rattle.std.specs.Prelude.{ℕ, List, [], ◌++◌, Option, Some, None, codes}
use Rattle.std.specs.Fmt.{decimal}
use Rattle.draft.specs.Faults.{refusal_of, bit_of}
use Rattle.draft.specs.Refusals.{number_of}
use Rattle.draft.specs.declared.fault.Fault.{Fault}
use Rattle.draft.specs.declared.fault.Fault.TheVariants.{Sheet, Line, Plan}
use Rattle.draft.specs.declared.refusal.Refusal.{Refusal}

-- the refusal's number
abbrev pub refusal_text : Refusal → List ℕ
refusal_text e = decimal (number_of e)

-- who raised the fault
abbrev pub raiser_text : Fault → List ℕ
raiser_text (Sheet refusal bit) = codes "sheet"
raiser_text (Line refusal) = codes "line"
raiser_text (Plan refusal) = codes "plan"

-- the bit at fault after a space, where there is one
abbrev pub place_text : Option ℕ → List ℕ
place_text (Some bit) = codes " " ++ decimal bit
place_text None = []

-- who raised the fault, its refusal, and its bit
abbrev pub fault_text : Fault → List ℕ
fault_text f = raiser_text f ++ codes " " ++ refusal_text (refusal_of f) ++ place_text (bit_of f)
