use Rattle.std.proofs.Common.{◌-◌, ◌∷◌, subst}
use Rattle.std.specs.List.{flat_map}
use Rattle.layout.specs.Layout.{choice_fields}
use Rattle.writer.specs.Writers.{Adds}
use Rattle.writer.proofs.WriterLaws.{adds_more}
use Rattle.writer.proofs.put.put_course.Goals as goal

pub returns : goal.returns
returns c =
    let all = adds_more c.put.ensures.fields (adds_more c.put-2.ensures.fields c.put_rows.ensures.fields) in
    record {
      fields = subst (λ fs. Adds c.args.writer.now c.put_rows.new.writer fs)
          (λ i. (3, c.from.ensures i - 1) ∷ (6, c.from-2.ensures i) ∷ flat_map choice_fields c.args.choices.now) all;
    }
