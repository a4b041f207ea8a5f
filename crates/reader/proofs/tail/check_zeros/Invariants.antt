use Rattle.std.proofs.Common.{◌≡◌, None}
use Rattle.reader.specs.Readers.{Moves}
use Rattle.reader.specs.Verdict.{bits_fault}
use Rattle.reader.proofs.tail.check_zeros.Given as goal

abbrev pub invariant-loop : goal.invariant-loop
invariant-loop l =
    record {
      clean : bits_fault l.initial.reader.sheet.now l.initial.reader.at l.counter ≡ None;
      moved : Moves l.initial.reader l.reader l.counter;
    }
