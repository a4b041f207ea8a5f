-- No fault of the bars, and what it says of them.
use Rattle.std.proofs.Common.{◌≡◌, ℕ, ◌+◌, ◌*◌, ◌<◌, true, List, length, get_or, Some, None, Option, sym, ap, ◌∙◌}
use Rattle.std.specs.List.{AllByRecursion}
use Rattle.std.proofs.ByRecursion.{All-get_or, All-from_get_or}
use Rattle.draft.specs.declared.fault.Fault.{Fault}
use Rattle.layout.specs.declared.rows.BarRow.{BarRow}
use Rattle.layout.specs.Faults.{above, prior, bar_fault}
use Rattle.layout.specs.Layout.{no_bar, Rising, LawfulBar}
use Rattle.layout.proofs.BarTests.{bar_parts, bar_clean, above_rises, rises_above}
use Rattle.layout.proofs.FirstLaws.{first_of_more, first_of_stop, first_of_none, first_of_each}
use Rattle.writer.specs.RowFaults.{bars_fault}

-- the bars, the first at bit q
module _ (a : List ℕ) (bs : List BarRow) (q : ℕ) where
  abbrev bar : ℕ → BarRow
  bar k = get_or bs k no_bar

  abbrev test : ℕ → Option Fault
  test k = bar_fault a (prior bar k) (bar k) (q + 16 * k)

  -- bars checked one after another
  pub bars_more : (k : ℕ) (before : Option BarRow) → before ≡ prior bar k → bars_fault a bs q k ≡ None → bar_fault a before (bar k) (q + 16 * k) ≡ None → bars_fault a bs q (k + 1) ≡ None
  bars_more k before is none here = first_of_more test k none (ap (λ (x : Option BarRow). bar_fault a x (bar k) (q + 16 * k)) (sym is) ∙ here)

  pub bars_stop : (k : ℕ) (before : Option BarRow) (f : Fault) → k < length bs → before ≡ prior bar k → bars_fault a bs q k ≡ None → bar_fault a before (bar k) (q + 16 * k) ≡ Some f → bars_fault a bs q (length bs) ≡ Some f
  bars_stop k before f l is none here = first_of_stop test k (length bs) f l none (ap (λ (x : Option BarRow). bar_fault a x (bar k) (q + 16 * k)) (sym is) ∙ here)

  module _ (none : bars_fault a bs q (length bs) ≡ None) where
    parts : (k : ℕ) → k < length bs → LawfulBar a (bar k) × (above (prior bar k) (bar k) ≡ true)
    parts k l = bar_parts a (prior bar k) (bar k) (q + 16 * k) (first_of_none test (length bs) none k l)

    pub names_hold : AllByRecursion (LawfulBar a) bs
    names_hold = All-from_get_or (LawfulBar a) bs no_bar (λ k l. (parts k l).0)

    pub rising_holds : Rising bs
    rising_holds k l = above_rises bar k (parts (k + 1) l).1

  pub hold_bars : AllByRecursion (LawfulBar a) bs → Rising bs → bars_fault a bs q (length bs) ≡ None
  hold_bars names rising =
      first_of_each test (length bs) (λ k l.
      bar_clean a (prior bar k) (bar k) (q + 16 * k) (All-get_or (LawfulBar a) bs k no_bar l names) (rises_above bar (length bs) rising k l))
