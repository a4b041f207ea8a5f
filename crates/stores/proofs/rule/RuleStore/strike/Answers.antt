use Rattle.std.proofs.Common.{◌≡◌, ℕ, ◌/◌, ◌<◌, true, length, Some, None, Option, IfSome, arith}
use Rattle.std.proofs.lemmas.Bool.{and_left, and_parts}
use Rattle.draft.specs.Labels.{pair_count, pair_of}
use Rattle.draft.specs.Shapes.{counts}
use Rattle.draft.specs.declared.shape.Shape.{Shape}
use Rattle.draft.proofs.PairLaws.{number_below, pair_none, pair_some}
use Rattle.stores.specs.RuleLaws.{rule_lawful}
use Rattle.stores.specs.Rules.{clash_free}
use Rattle.stores.proofs.Strikes.{made_strikes}
use Rattle.stores.proofs.rule.RuleStore.strike.Goals as goal

-- each pair number has a bit in the table of marks
inside : (s : Shape) (o : Option ℕ) → IfSome o (λ n. n < pair_count (counts s)) → (l : ℕ) → l ≡ 2292 → IfSome o (λ n. n / 8 < l)
inside s (Some n) h l e = omega (arith, number_below s n h)
inside s None h l e = tt

pub set_bit_of-requires : goal.set_bit_of-requires
set_bit_of-requires c = record { there = inside c.args.self.now.rows.shape.now c.pair.result c.pair.ensures.below (length c.args.self.now.marks) (omega arith) }

pub returns-clause-draft : goal.returns-clause-draft
returns-clause-draft c =
    let rows = c.args.self.now.rows in
    let a = counts rows.shape.now in
    let p = c.args.pairing in
    made_strikes true a (clash_free a rows.courses.now rows.choices.now) c.args.self.now.marks c.set_bit_of.new.bits p (pair_of a p)
    (rule_lawful rows.shape.now rows.courses.now rows.choices.now c.args.self.now.marks)
    (λ q h. (and_parts _ _ h).0) (pair_some a p) (λ e. and_left _ _ (pair_none a p e)) (rw c.pair.ensures.value at c.set_bit_of.ensures.bits)
