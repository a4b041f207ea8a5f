use Rattle.std.proofs.Common.{◌≡◌, ◌+◌, ◌*◌, take}
use Rattle.reader.specs.Decoded.{rows_of}
use Rattle.reader.specs.Readers.{Moves}
use Rattle.reader.proofs.fill.fill.Given as goal

abbrev pub invariant-loop-row : goal.invariant-loop-row
invariant-loop-row g l =
    let s = l.initial.reader in
    record {
      front : take l.row-index l.rows ≡ rows_of (λ k. g.R.Decode.row_at s.sheet.now (s.at + g.R.Decode.bits * k)) l.row-index;
      moved : Moves s l.reader (g.R.Decode.bits * l.row-index);
    }
