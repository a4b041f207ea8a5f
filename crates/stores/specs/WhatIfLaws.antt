-- A what-if keeps the law of a store.
use Rattle.std.specs.Prelude.{ℕ, List}
use Rattle.draft.specs.Drafts.{Draft, Lawful}
use Rattle.draft.specs.Labels.{widest}
use Rattle.stores.specs.MarkLaws.{unmarked_lawful}
use Rattle.stores.specs.WhatIfs.{what_if}

-- what stands in a lawful draft and has no mark is a lawful draft
pub what_if_lawful : (D : Draft) (marks : List ℕ) → Lawful D → Lawful (what_if D marks)
what_if_lawful D = unmarked_lawful D widest
