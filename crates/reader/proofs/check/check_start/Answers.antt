use Rattle.std.proofs.Common.{◌≡◌, arith}
use Rattle.reader.proofs.check.check_start.Goals as goal

pub returns-in_err-ensure-2-clause-value : goal.returns-in_err-ensure-2-clause-value
returns-in_err-ensure-2-clause-value c =
    let four = c.in_ok-edition.ensures.next in
    let here : c.field.new.self.at ≡ 4 = omega arith in
    let count = rw (four.sheet, here) at c.in_ok-field.ensures.value in
    grind arith

pub returns-clause-value : goal.returns-clause-value
returns-clause-value c =
    let four = c.in_ok-edition.ensures.next in
    let here : c.field.new.self.at ≡ 4 = omega arith in
    let count = rw (four.sheet, here) at c.in_ok-field.ensures.value in
    grind arith
