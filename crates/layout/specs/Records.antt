-- When a choice row makes a choice record, and which.
use Rattle.std.specs.Prelude.{◌≡◌, Some, None, Ok, Err, if◌then◌else◌, Option, Result, nat_le}
use Rattle.draft.specs.declared.refusal.Refusal.{Refusal}
use Rattle.draft.specs.declared.refusal.Refusal.TheVariants.{Limit, Evening}
use Rattle.layout.specs.declared.choice.Choice.{Choice}
use Rattle.layout.specs.declared.rows.ChoiceRow.{ChoiceRow}

-- why the row makes no record: an evening above 6, and then a room above 31
abbrev pub refusal_of : ChoiceRow → Option Refusal
refusal_of h = if nat_le h.evening 6 then (if nat_le h.room 31 then None else Some Limit) else Some Evening

-- what making the record of a row answers
abbrev pub Recorded : ChoiceRow → Result Choice Refusal → Type 0
Recorded h (Ok c) = (refusal_of h ≡ None) × (c.evening ≡ h.evening) × (c.room ≡ h.room)
Recorded h (Err e) = refusal_of h ≡ Some e
