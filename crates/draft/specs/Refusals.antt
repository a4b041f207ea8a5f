-- The number of each refusal.
use Rattle.std.specs.Prelude.{ℕ}
use Rattle.draft.specs.declared.refusal.Refusal.{Refusal}
use Rattle.draft.specs.declared.refusal.Refusal.TheVariants.{SheetEnds, Edition, Limit, Evening, BarName, BarOrder, Filling, Memory, Course, Choice, SameCourse, NothingStands, DeadPlan, Letter, Number, Trailing}

abbrev pub number_of : Refusal → ℕ
number_of SheetEnds = 1
number_of Edition = 2
number_of Limit = 3
number_of Evening = 4
number_of BarName = 5
number_of BarOrder = 6
number_of Filling = 7
number_of Memory = 8
number_of Course = 9
number_of Choice = 10
number_of SameCourse = 11
number_of NothingStands = 12
number_of DeadPlan = 13
number_of Letter = 14
number_of Number = 15
number_of Trailing = 16
