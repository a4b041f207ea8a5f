-- What checking a sheet in both directions answers and leaves.
use Rattle.std.specs.Prelude.{◌≡◌, ℕ, true, List, ◌++◌, length, drop, Some, None, Ok, Err, Option, Result, nat_le}
use Rattle.draft.specs.declared.fault.Fault.{Fault}
use Rattle.draft.specs.declared.refusal.Refusal.TheVariants.{Memory}
use Rattle.layout.specs.declared.rows.BarRow.{BarRow}
use Rattle.layout.specs.declared.rows.ChoiceRow.{ChoiceRow}
use Rattle.layout.specs.declared.rows.CourseRow.{CourseRow}
use Rattle.layout.specs.Faults.{first, unless}
use Rattle.reader.specs.Reading.{Filled}
use Rattle.reader.specs.Verdict.{read_fault}
use Rattle.sheet.specs.declared.checked.Checked.{Checked}

-- the first fault of a check that writes into so many bytes: want of memory comes last
abbrev pub recheck_fault : List ℕ → (courses choices bars bytes : ℕ) → Option Fault
recheck_fault s courses choices bars bytes = first (read_fault s courses choices bars) (unless (nat_le (length s) bytes) Memory 0)

module _ (s : List ℕ) (cs cs' : List CourseRow) (hs hs' : List ChoiceRow) (bs bs' : List BarRow) (t u : List ℕ) where
  -- the lists hold the sheet's rows, and the bytes t have become the sheet, written again
  pub record Agrees (k : Checked) : Type 0 where
    pub clean : recheck_fault s (length cs) (length hs) (length bs) (length t) ≡ None
    pub rows : Filled s cs cs' hs hs' bs bs' k.counts
    pub bytes : k.bytes ≡ length s
    pub same : k.same ≡ true
    pub written : u ≡ s ++ drop (length s) t

  -- the first fault, and all memory as it was
  pub record Untouched (f : Fault) : Type 0 where
    pub fault : recheck_fault s (length cs) (length hs) (length bs) (length t) ≡ Some f
    pub courses : cs' ≡ cs
    pub choices : hs' ≡ hs
    pub bars : bs' ≡ bs
    pub bytes : u ≡ t

  abbrev pub Rechecking : Result Checked Fault → Type 0
  Rechecking (Ok k) = Agrees k
  Rechecking (Err f) = Untouched f
