use Rattle.std.proofs.Common.{◌-◌, ◌/◌, ◌%◌, ◌<◌, get_or, ◌∙◌, arith}
use Rattle.std.proofs.lemmas.List.{get_or-set_other}
use Rattle.bits.proofs.OneBit.{coded, made_byte, bit_set, bit_kept, byte_is, byte_below}
use Rattle.bits.proofs.set_bit.Goals as goal

pub overflow_add-bytes : goal.overflow_add-bytes
overflow_add-bytes c =
    let x = get_or c.args.bytes.now (c.args.k / 8) 0 in
    let b : c.from.result < 2 = omega (arith, c.from.ensures, byte_below c.args.on) in
    omega (arith, coded x (7 - c.args.k % 8) c.from.result (omega arith) (omega arith) b, made_byte x (7 - c.args.k % 8) c.from.result (omega arith) (omega arith) b)

pub returns-then-k-bytes : goal.returns-then-k-bytes
returns-then-k-bytes c =
    let x = get_or c.args.bytes.now (c.args.k / 8) 0 in
    let b : c.from.result < 2 = omega (arith, c.from.ensures, byte_below c.args.on) in
    let e = coded x (7 - c.args.k % 8) c.from.result (omega arith) (omega arith) b in
    record {
      here = λ h. bit_set c.args.bytes.now c.args.k c.from.result _ h b e ∙ c.from.ensures ∙ byte_is c.args.on;
      others = bit_kept c.args.bytes.now c.args.k c.from.result _ (omega arith) b e;
      past = λ h. absurd (omega arith);
      rest = λ i ne. get_or-set_other c.args.bytes.now (c.args.k / 8) i _ 0 ne;
    }
