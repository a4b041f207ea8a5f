use Rattle.std.proofs.Common.{◌≡◌, ◌+◌, length, take, sym, ap, ◌∙◌, arith}
use Rattle.std.proofs.lemmas.List.{length-take-le}
use Rattle.reader.specs.Decoded.{course_rows, bars_place, bar_count, label}
use Rattle.reader.proofs.ReaderLaws.{moves_more}
use Rattle.reader.proofs.ReadLaws.{bars_is, few_courses, few_bars, courses_long, label_le, filled}
use Rattle.reader.proofs.read.read.Goals as goal

pub fill_choices-requires-clause-rows : goal.fill_choices-requires-clause-rows
fill_choices-requires-clause-rows c =
    let s = c.args.sheet.now in
    let is = c.courses-rows.ensures.value ∙ c.in_ok-head.ensures.value.1.rows in
    is ∙ ap (course_rows s) (sym (courses_long s _ is))

pub skip-requires : goal.skip-requires
skip-requires c =
    let s = c.args.sheet.now in
    let h = c.in_ok-head.ensures.value.1 in
    let long = courses_long s _ (c.courses-rows.ensures.value ∙ h.rows) in
    record { early = omega (arith, label_le s (length c.courses-rows.result.now), few_courses s _ h) }

pub fill-requires : goal.fill-requires
fill-requires c =
    let s = c.args.sheet.now in
    let h = c.in_ok-head.ensures.value.1 in
    let long = courses_long s _ (c.courses-rows.ensures.value ∙ h.rows) in
    let some = length-take-le c.in_ok-head.head.counts.bars c.args.bars.now c.in_ok-check_room.ensures.room.bars in
    record { early = omega (arith, label_le s (length c.courses-rows.result.now), few_courses s _ h, few_bars s _ h) }

pub returns : goal.returns
returns c =
    let s = c.args.sheet.now in
    let head = c.in_ok-head.ensures.value in
    let room = c.in_ok-check_room.ensures in
    let courses = c.courses-rows.ensures.value ∙ head.1.rows in
    let long = courses_long s _ courses in
    let labels = ap (label s) long in
    let moved = moves_more c.fill_choices.ensures.next c.skip.ensures.next in
    let here : c.skip.new.self.at ≡ bars_place s + 12 = omega (arith, moved.place) in
    let some : length (take c.in_ok-head.head.counts.bars c.args.bars.now) ≡ bar_count s = length-take-le _ c.args.bars.now room.room.bars ∙ bars_is s _ head.1 in
    let bars = rw (moved.sheet, here) at c.fill.ensures.value in
    record {
      cases = filled s _ head.1.counts head.0 c.args.courses.now c.copy_from_slice.new.self c.args.choices.now c.fill_choices.new.choices c.args.bars.now c.fill.new.rows _ _ room.value (c.copy_from_slice.ensures.after ∙ courses) long c.fill_choices.ensures.front c.fill_choices.ensures.rest some bars;
    }
