-- The first fault among the tests of a sheet's fields.
--
--   first a b          the fault that test a finds, else the one that test b finds
--   first_of t n       the first fault that the tests 0 to n - 1 find
--   unless ok e p      refusal e at bit p, unless ok
--   Tells fault r      r is refused with that fault, or accepted where there is none
--   bar_fault a x b p  the fault of bar b at bit p after the bar x, with the choice counts a
use Rattle.std.specs.Prelude.{◌≡◌, ℕ, zero, suc, Bool, true, ◌&&◌, List, Some, None, Ok, Err, if◌then◌else◌, Option, Result, nat_lt, slice_index}
use Rattle.draft.specs.declared.fault.Fault.{Fault}
use Rattle.draft.specs.declared.fault.Fault.TheVariants.{Sheet}
use Rattle.draft.specs.declared.refusal.Refusal.{Refusal}
use Rattle.draft.specs.declared.refusal.Refusal.TheVariants.{BarName, BarOrder}
use Rattle.layout.specs.declared.rows.BarRow.{BarRow}
use Rattle.layout.specs.Layout.{number_of}

-- the earlier of two tests that finds a fault
abbrev pub first : Option Fault → Option Fault → Option Fault
first None later = later
first (Some f) later = Some f

-- the first fault that the tests 0 to n - 1 find
abbrev pub first_of : (ℕ → Option Fault) → ℕ → Option Fault
first_of t zero = None
first_of t (suc n) = first (first_of t n) (t n)

-- a test of the field at bit p
abbrev pub unless : Bool → Refusal → ℕ → Option Fault
unless ok e p = if ok then None else Some (Sheet e p)

-- the call is refused with that fault, and accepted where there is none
abbrev pub Tells : {U : Type 0} → Option Fault → Result U Fault → Type 0
Tells fault (Ok _) = fault ≡ None
Tells fault (Err f) = fault ≡ Some f

-- the courses rise, and each has the choice named; a is the list of choice counts
abbrev pub sound : List ℕ → BarRow → Bool
sound a b = nat_lt b.course b.higher && (nat_lt b.choice (slice_index a b.course) && nat_lt b.partner (slice_index a b.higher))

abbrev pub above : Option BarRow → BarRow → Bool
above None b = true
above (Some x) b = nat_lt (number_of x) (number_of b)

-- the bar before the k-th
abbrev pub prior : (ℕ → BarRow) → ℕ → Option BarRow
prior bar zero = None
prior bar (suc k) = Some (bar k)

-- the tests of a bar at bit p: what it names, and then its order
abbrev pub bar_fault : List ℕ → Option BarRow → BarRow → ℕ → Option Fault
bar_fault a before b p = first (unless (sound a b) BarName p) (unless (above before b) BarOrder p)
