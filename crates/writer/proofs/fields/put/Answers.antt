use Rattle.std.proofs.Common.{◌≡◌, ℕ, ◌+◌, ◌-◌, ◌/◌, ◌%◌, ◌^◌, sym, ap, ◌∙◌, arith}
use Rattle.bits.specs.Bits.{bit, val}
use Rattle.bits.proofs.BitLaws.{val_more, val_ext, front_more}
use Rattle.writer.proofs.PutLaws.{two_if}
use Rattle.writer.proofs.fields.put.Goals as goal

pub loop-i-preserved : goal.loop-i-preserved
loop-i-preserved c =
    let told = c.set_bit.ensures in
    let t = c.set_bit.new.bytes in
    let i = c.loop-i.i in
    let v = c.args.value in
    let w = c.args.width in
    let k : c.args.at + c.from.result ≡ c.args.at + i = ap (λ n. c.args.at + n) c.from.ensures in
    let here : bit t (c.args.at + i) ≡ v / 2 ^ (w - 1 - i) % 2 = ap (bit t) (sym k) ∙ told.here (omega arith) ∙ two_if (v / 2 ^ (w - 1 - i) % 2) (omega arith) in
    let others : (j : ℕ) → (j ≡ c.args.at + i → ⊥) → bit t j ≡ bit c.loop-i.out j = λ j ne. told.others j (λ e. ne (e ∙ k)) in
    let same : val t c.args.at i ≡ val c.loop-i.out c.args.at i = val_ext _ _ _ _ (λ j a b. others j (omega arith)) in (
      omega (arith, val_more t c.args.at i, front_more v w i (omega arith)),
      λ j h. others j (omega arith) ∙ c.loop-i.invariant.1 j h,
      λ j h. others j (omega arith) ∙ c.loop-i.invariant.2 j (omega arith),
      λ m h. told.rest m (omega arith) ∙ c.loop-i.invariant.3 m (omega arith),
    )
