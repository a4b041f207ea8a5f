use Rattle.std.proofs.Common.{ℕ, ◌+◌, ◌/◌, sym, ap, arith}
use Rattle.writer.proofs.CheckLaws.{lawful_of}
use Rattle.writer.proofs.PutSheet.{few_choices, sheet_size}
use Rattle.writer.proofs.write.sheet_bytes.Goals as goal

pub overflow_mul-result-2 : goal.overflow_mul-result-2
overflow_mul-result-2 c = omega (arith, few_choices _ _ _ (lawful_of c.args.checked.now))

pub overflow_add-result-2 : goal.overflow_add-result-2
overflow_add-result-2 c = let l = lawful_of c.args.checked.now in omega (arith, few_choices _ _ _ l, l.many)

pub overflow_add-result-3 : goal.overflow_add-result-3
overflow_add-result-3 c = let l = lawful_of c.args.checked.now in omega (arith, few_choices _ _ _ l, l.many, l.bars)

pub overflow_add-result-4 : goal.overflow_add-result-4
overflow_add-result-4 c = let l = lawful_of c.args.checked.now in omega (arith, few_choices _ _ _ l, l.many, l.bars)

pub returns : goal.returns
returns c = record { value = ap (λ (n : ℕ). (n + 7) / 8) (sym (sheet_size _ _ _ (lawful_of c.args.checked.now))) }
