-- A packed draft keeps the law of a store, and its frame is a preorder.
use Rattle.std.specs.Prelude.{ℕ, List, refl}
use Rattle.std.proofs.Common.{ap, ◌∙◌}
use Rattle.bits.specs.Bits.{is_set}
use Rattle.draft.specs.Drafts.{Lawful, whole}
use Rattle.draft.specs.Frames.{Preorder}
use Rattle.draft.specs.Labels.{pair_number}
use Rattle.draft.specs.Shapes.{counts}
use Rattle.draft.specs.declared.shape.Shape.{Shape}
use Rattle.draft.proofs.DraftLaws.{whole_lawful, restrict_lawful}
use Rattle.draft.proofs.PairLaws.{number_swap}
use Rattle.draft.proofs.ShapeLaws.{limits}
use Rattle.stores.specs.Packed.{packed_draft, PackedFrame}

pub packed_laws : (s : Shape) (bytes : List ℕ) → Lawful (packed_draft (counts s) bytes)
packed_laws s bytes =
    let a = counts s in
    restrict_lawful (whole a) (λ p. is_set bytes (pair_number a p)) (λ p. ap (is_set bytes) (number_swap a p)) (whole_lawful a (limits s))

pub packed_preorder : {S : Type 0} (a : S → List ℕ) (m : S → ℕ) (xs : S → List ℕ) → Preorder (λ (s t : S). PackedFrame (a s) (m s) (xs s) (a t) (m t) (xs t))
packed_preorder a m xs = record {
  same = λ s. record { shape = refl; loan = refl; size = refl; spare = λ q _. refl; past = λ k _. refl };
  then = λ s t u h k. record {
    shape = h.shape ∙ k.shape;
    loan = h.loan ∙ k.loan;
    size = h.size ∙ k.size;
    spare = λ q n. h.spare q n ∙ k.spare q (rw h.shape at n);
    past = λ n l. h.past n l ∙ k.past n (rw h.shape at l);
  };
}
