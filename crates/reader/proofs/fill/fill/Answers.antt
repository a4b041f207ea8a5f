use Rattle.std.proofs.Common.{◌+◌, ◌*◌, ◌∙◌, arith}
use Rattle.reader.proofs.RowLaws.{front_more}
use Rattle.reader.proofs.fill.fill.Goals as goal

pub loop-row-preserved : goal.loop-row-preserved
loop-row-preserved g c =
    let s = c.args.reader.now in
    let moved = c.loop-row.invariant.moved in
    let next = c.decode.ensures.next in
    record {
      front = front_more (λ k. g.R.Decode.row_at s.sheet.now (s.at + g.R.Decode.bits * k)) c.loop-row.rows c.loop-row.row-index c.decode.result c.loop-row.invariant.front
          (rw (moved.sheet, moved.place) at c.decode.ensures.value) (omega arith);
      moved = record { sheet = next.sheet ∙ moved.sheet; place = omega (arith, moved.place, next.place) };
    }
