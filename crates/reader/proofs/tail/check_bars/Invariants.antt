use Rattle.std.proofs.Common.{◌≡◌, ◌+◌, ◌*◌, None}
use Rattle.draft.specs.Shapes.{counts}
use Rattle.layout.specs.Faults.{prior}
use Rattle.reader.specs.Decoded.{bar_at}
use Rattle.reader.specs.Readers.{Moves}
use Rattle.reader.specs.Verdict.{bars_fault}
use Rattle.reader.proofs.tail.check_bars.Given as goal

abbrev pub invariant-loop : goal.invariant-loop
invariant-loop l =
    let s = l.initial.reader.sheet.now in
    let p = l.initial.reader.at in
    record {
      clean : bars_fault s (counts l.shape) p l.counter ≡ None;
      before : l.before ≡ prior (λ i. bar_at s (p + 16 * i)) l.counter;
      moved : Moves l.initial.reader l.reader (16 * l.counter);
    }
