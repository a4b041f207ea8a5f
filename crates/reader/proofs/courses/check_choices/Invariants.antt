use Rattle.std.proofs.Common.{◌≡◌, ◌*◌, None}
use Rattle.reader.specs.Readers.{Moves}
use Rattle.reader.specs.Verdict.{choices_fault}
use Rattle.reader.proofs.courses.check_choices.Given as goal

abbrev pub invariant-loop : goal.invariant-loop
invariant-loop l =
    record {
      clean : choices_fault l.initial.reader.sheet.now l.initial.reader.at l.counter ≡ None;
      moved : Moves l.initial.reader l.reader (8 * l.counter);
    }
