-- What-if: marks over the draft of any store.
--
--   what_if  what stands below and has no mark
--   mark_of  where the mark of a pairing lies
use Rattle.std.specs.Prelude.{ℕ, ◌&&◌, List, None, if◌then◌else◌, Option, nat_lt}
use Rattle.draft.specs.Drafts.{Draft}
use Rattle.draft.specs.Labels.{pair_number, pair_of, widest}
use Rattle.draft.specs.declared.pairing.Pairing.{Pairing}
use Rattle.stores.specs.Marks.{unmarked}

-- what stands in D, the draft below, and has no mark; a mark lies at the pairing's number in the widest shape
abbrev pub what_if : Draft → List ℕ → Draft
what_if D marks = unmarked D (pair_number widest) marks

-- the number of the mark of a pairing, where it joins choices of two courses of D
abbrev pub mark_of : Draft → Pairing → Option ℕ
mark_of D p =
    if nat_lt p.one.choice (D.choices p.one.course) && nat_lt p.other.choice (D.choices p.other.course) then pair_of widest p else None
