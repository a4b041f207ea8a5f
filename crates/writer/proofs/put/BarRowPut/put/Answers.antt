use Rattle.std.proofs.Common.{[], ◌∷◌, subst}
use Rattle.writer.specs.Writers.{Adds}
use Rattle.writer.proofs.WriterLaws.{adds_more}
use Rattle.writer.proofs.put.BarRowPut.put.Goals as goal

pub returns : goal.returns
returns c =
    let all = adds_more c.put.ensures.fields (adds_more c.put-2.ensures.fields (adds_more c.put-3.ensures.fields c.put-4.ensures.fields)) in
    record {
      fields = subst (λ fs. Adds c.args.writer.now c.put-4.new.self fs)
          (λ i. (5, c.from.ensures i) ∷ (3, c.from-2.ensures i) ∷ (5, c.from-3.ensures i) ∷ (3, c.from-4.ensures i) ∷ []) all;
    }
