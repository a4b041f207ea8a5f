use Rattle.std.proofs.Common.{◌≡◌, [], ◌∷◌, ◌∙◌, subst}
use Rattle.writer.specs.Writers.{Adds}
use Rattle.writer.proofs.WriterLaws.{adds_more}
use Rattle.writer.proofs.put.put_choice.Goals as goal

pub returns : goal.returns
returns c =
    let evening : c.from.result ≡ c.args.choice.evening = c.from.ensures ∙ c.evening.ensures.value in
    let room : c.from-2.result ≡ c.args.choice.room = c.from-2.ensures ∙ c.room.ensures.value in
    record { fields = subst (λ fs. Adds c.args.writer.now c.put-2.new.self fs) (λ i. (3, evening i) ∷ (5, room i) ∷ []) (adds_more c.put.ensures.fields c.put-2.ensures.fields) }
