-- What a reading answers and leaves.
use Rattle.std.specs.Prelude.{◌≡◌, ℕ, List, length, take, drop, Some, None, Ok, Err, Result}
use Rattle.draft.specs.declared.fault.Fault.{Fault}
use Rattle.layout.specs.declared.rows.BarRow.{BarRow}
use Rattle.layout.specs.declared.rows.ChoiceRow.{ChoiceRow}
use Rattle.layout.specs.declared.rows.Counts.{Counts}
use Rattle.layout.specs.declared.rows.CourseRow.{CourseRow}
use Rattle.layout.specs.Layout.{IsSheet}
use Rattle.reader.specs.Decoded.{counts}
use Rattle.reader.specs.Verdict.{verdict, read_fault}

-- a check answers how many rows the sheet has, or its first fault
abbrev pub Checks : List ℕ → Result Counts Fault → Type 0
Checks s (Ok n) = (verdict s ≡ None) × (n ≡ counts s)
Checks s (Err f) = verdict s ≡ Some f

module _ (s : List ℕ) (cs cs' : List CourseRow) (hs hs' : List ChoiceRow) (bs bs' : List BarRow) where
  -- the sheet's rows stand in the front of the lists, and the rest of the lists is as it was
  pub record Filled (n : Counts) : Type 0 where
    pub clean : read_fault s (length cs) (length hs) (length bs) ≡ None
    pub answer : n ≡ counts s
    pub sheet : IsSheet s (take n.courses cs') (take n.choices hs') (take n.bars bs')
    pub courses : drop n.courses cs' ≡ drop n.courses cs
    pub choices : drop n.choices hs' ≡ drop n.choices hs
    pub bars : drop n.bars bs' ≡ drop n.bars bs

  -- the first fault, and the lists as they were
  pub record Untouched (f : Fault) : Type 0 where
    pub fault : read_fault s (length cs) (length hs) (length bs) ≡ Some f
    pub courses : cs' ≡ cs
    pub choices : hs' ≡ hs
    pub bars : bs' ≡ bs

  abbrev pub Reading : Result Counts Fault → Type 0
  Reading (Ok n) = Filled n
  Reading (Err f) = Untouched f
