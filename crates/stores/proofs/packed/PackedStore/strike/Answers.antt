use Rattle.std.proofs.Common.{◌≡◌, ℕ, true, false, List, length, get_or, Some, None, Option, sym, refl, ap, ◌∙◌, arith}
use Rattle.bits.specs.Bits.{bit}
use Rattle.draft.specs.Drafts.{whole}
use Rattle.draft.specs.Labels.{named, pair_number, pair_of}
use Rattle.draft.specs.Shapes.{counts}
use Rattle.draft.specs.declared.pairing.Pairing.{Pairing}
use Rattle.draft.proofs.PairLaws.{pair_below, pair_none, pair_some}
use Rattle.stores.specs.Packed.{Cleared, PackedFrame}
use Rattle.stores.specs.PackedLaws.{packed_laws}
use Rattle.stores.proofs.Strikes.{made_strikes}
use Rattle.stores.proofs.packed.PackedStore.strike.Goals as goal

-- clearing the bit of a pairing keeps the frame: o is its number
cleared_frame : (a : List ℕ) (m : ℕ) (xs ys : List ℕ) (p : Pairing) (o : Option ℕ)
    → ((n : ℕ) → Some n ≡ o → (named a p ≡ true) × (n ≡ pair_number a p)) → Cleared o xs ys → PackedFrame a m xs a m ys
cleared_frame a m xs ys p (Some n) some h =
    let told = some n refl in
    record {
      shape = refl;
      loan = refl;
      size = sym h.size;
      spare = λ q free. sym (h.others q (λ e. free p told.0 (sym told.1 ∙ sym e)));
      past = λ k far. sym (h.rest k (λ e. omega (arith, told.1, pair_below a p told.0)));
    }
cleared_frame a m xs ys p None some h = record {
  shape = refl;
  loan = refl;
  size = sym (ap length h);
  spare = λ q _. sym (ap (λ s. bit s q) h);
  past = λ k _. sym (ap (λ s. get_or s k 0) h);
}

pub returns-clause-draft : goal.returns-clause-draft
returns-clause-draft c =
    let s = c.args.self.now.shape.now in
    let a = counts s in
    let p = c.args.pairing in
    made_strikes false a (whole a) c.args.self.now.bits.now c.set_bit_of.new.bits p (pair_of a p) (packed_laws s c.args.self.now.bits.now)
    (λ q n. n) (pair_some a p) (pair_none a p) (rw c.pair.ensures.value at c.set_bit_of.ensures.bits)

pub returns-clause-frame : goal.returns-clause-frame
returns-clause-frame c =
    let a = counts c.args.self.now.shape.now in
    let p = c.args.pairing in
    cleared_frame a _ c.args.self.now.bits.now c.set_bit_of.new.bits p (pair_of a p) (pair_some a p) (rw c.pair.ensures.value at c.set_bit_of.ensures.bits)
