use Rattle.std.proofs.Common.{arith}
use Rattle.reader.proofs.ReaderLaws.{moves_more}
use Rattle.reader.proofs.decode.BarRowDecode.decode.Goals as goal

pub returns-clause-value : goal.returns-clause-value
returns-clause-value c =
    let eight = moves_more c.value-course.ensures.next c.value-choice.ensures.next in
    let thirteen = moves_more eight c.value-higher.ensures.next in
    grind arith
