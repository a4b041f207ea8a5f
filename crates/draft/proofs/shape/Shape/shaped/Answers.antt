use Rattle.std.proofs.Common.{◌≡◌, ◌+◌, get_or, take, sum, arith}
use Rattle.draft.proofs.ShapeLaws.{sum_more, counts_back}
use Rattle.draft.proofs.shape.Shape.shaped.Goals as goal

pub invariant_of-result : goal.invariant_of-result
invariant_of-result c =
    let a = c.args.a.now in
    let lim = c.requires.limits in
    let value = c.firsts_of.ensures.value in
    record {
      few = lim.0;
      many = lim.1;
      from = value 0 (omega arith);
      each = λ k h.
          let more : sum (take (k + 1) a) ≡ sum (take k a) + get_or a k 0 = sum_more a k in
          let here = value k (omega arith) in
          let next = value (k + 1) (omega arith) in
          (omega (arith, more, here, next, (lim.2 k h).0), omega (arith, more, here, next, (lim.2 k h).1));
    }

pub returns : goal.returns
returns c = record { value = counts_back c.firsts_of.result c.args.a.now c.firsts_of.ensures.value }
