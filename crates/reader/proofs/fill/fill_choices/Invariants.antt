use Rattle.std.proofs.Common.{◌≡◌, ◌+◌, ◌*◌, ◌≤◌, take, drop}
use Rattle.reader.specs.Decoded.{label, choice_rows}
use Rattle.reader.specs.Readers.{Moves}
use Rattle.reader.proofs.fill.fill_choices.Given as goal

abbrev pub invariant-loop-row : goal.invariant-loop-row
invariant-loop-row l =
    let s = l.initial.reader.sheet.now in
    record {
      labels : l.labels ≡ label s l.row-index;
      few : l.labels ≤ 8 * l.row-index;
      front : take l.labels l.choices ≡ choice_rows s l.row-index;
      rest : drop l.labels l.choices ≡ drop l.labels l.initial.choices;
      moved : Moves l.initial.reader l.reader (9 * l.row-index + 8 * l.labels);
    }
