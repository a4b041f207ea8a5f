-- A part of a store that no strike changes is a frame.
use Rattle.std.specs.Prelude.{◌≡◌, refl}
use Rattle.std.proofs.Common.{◌∙◌}
use Rattle.draft.specs.Frames.{Preorder}

-- the same part, before and after
pub same_part : {S B : Type 0} (part : S → B) → Preorder (λ (s t : S). part s ≡ part t)
same_part part = record { same = λ s. refl; then = λ s t u h k. h ∙ k }
