use Rattle.std.proofs.Common.{◌≡◌, ◌+◌, ◌≤◌, length, take, ◌∙◌, arith}
use Rattle.bits.proofs.BitLaws.{val_lt}
use Rattle.reader.specs.Decoded.{place}
use Rattle.reader.proofs.Places.{label_next, label_mono, count_at, choices_more}
use Rattle.reader.proofs.ReaderLaws.{moves_more}
use Rattle.reader.proofs.RowLaws.{part_long, put_front, put_rest}
use Rattle.reader.proofs.fill.fill_choices.Goals as goal

pub slice_bounds-fill-end : goal.slice_bounds-fill-end
slice_bounds-fill-end c =
    let s = c.args.reader.now.sheet.now in
    let cs = c.args.courses.now in
    let count = count_at s cs c.loop-row.row-index c.requires.rows (omega arith) in
    let next = label_next s c.loop-row.row-index in
    let room = label_mono s (c.loop-row.row-index + 1) (length cs) (omega arith) in
    omega (arith, c.requires.room)

pub loop-row-preserved : goal.loop-row-preserved
loop-row-preserved c =
    let s = c.args.reader.now.sheet.now in
    let cs = c.args.courses.now in
    let k = c.loop-row.row-index in
    let inv = c.loop-row.invariant in
    let three = val_lt s (place s k) 3 in
    let count = count_at s cs k c.requires.rows (omega arith) in
    let next = label_next s k in
    let mono = label_mono s (k + 1) (length cs) (omega arith) in
    let room : c.loop-row.labels + c.from.result ≤ length c.loop-row.choices = omega (arith, c.requires.room) in
    let own = part_long c.loop-row.choices c.fill.new.rows c.loop-row.labels c.from.result room in
    let long = c.fill.auto.rows ∙ own in
    let skipped = moves_more inv.moved c.skip.ensures.next in
    let here : c.skip.new.self.at ≡ place s k + 9 = omega arith in
    let filled = rw (skipped.sheet, here) at c.fill.ensures.value in
    record {
      labels = omega arith;
      few = omega arith;
      front = put_front c.loop-row.choices c.fill.new.rows c.loop-row.labels c.from.result room long
          ∙ choices_more s k _ (take c.loop-row.labels c.loop-row.choices) c.fill.new.rows (own ∙ c.from.ensures ∙ count) inv.front filled;
      rest = put_rest c.loop-row.choices c.fill.new.rows c.loop-row.labels c.from.result room c.args.choices.now long inv.rest;
      moved = record { sheet = c.fill.ensures.next.sheet ∙ skipped.sheet; place = omega arith };
    }
