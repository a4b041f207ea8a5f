-- Marks keep the law of a store.
use Rattle.std.specs.Prelude.{ℕ, not, List}
use Rattle.std.proofs.Common.{ap}
use Rattle.bits.specs.Bits.{is_set}
use Rattle.draft.specs.Drafts.{Draft, Lawful}
use Rattle.draft.specs.Labels.{pair_number}
use Rattle.draft.proofs.DraftLaws.{restrict_lawful}
use Rattle.draft.proofs.PairLaws.{number_swap}
use Rattle.stores.specs.Marks.{unmarked}

-- what stands in a lawful draft and has no mark is a lawful draft
pub unmarked_lawful : (D : Draft) (a marks : List ℕ) → Lawful D → Lawful (unmarked D (pair_number a) marks)
unmarked_lawful D a marks =
    restrict_lawful D (λ p. not (is_set marks (pair_number a p))) (λ p. ap (λ n. not (is_set marks n)) (number_swap a p))
