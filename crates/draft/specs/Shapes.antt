-- The choice counts of a shape, and what making and setting a shape does.
use Rattle.std.specs.Prelude.{◌≡◌, ℕ, ◌+◌, ◌-◌, List, map, Ok, Err, Result, slice_index}
use Rattle.std.specs.List.{range_with_len}
use Rattle.draft.specs.Limits.{Limits}
use Rattle.draft.specs.declared.refusal.Refusal.{Refusal}
use Rattle.draft.specs.declared.refusal.Refusal.TheVariants.{Limit}
use Rattle.draft.specs.declared.shape.Shape.{Shape}

-- the choice counts of a shape, one for each course: from its first label to the next course's
abbrev pub counts : Shape → List ℕ
counts s = map (λ k. slice_index s.firsts (k + 1) - slice_index s.firsts k) (range_with_len 0 s.len)

-- what making a shape with the counts a answers
abbrev pub Shaped : List ℕ → Result Shape Refusal → Type 0
Shaped a (Ok s) = Limits a × (counts s ≡ a)
Shaped a (Err e) = (Limits a → ⊥) × (e ≡ Limit)

-- what setting a shape to the counts a answers, and leaves of it
abbrev pub Reshaped : {U : Type 0} → List ℕ → Shape → Shape → Result U Refusal → Type 0
Reshaped a old new (Ok _) = Limits a × (counts new ≡ a)
Reshaped a old new (Err e) = (Limits a → ⊥) × (e ≡ Limit) × (new ≡ old)
