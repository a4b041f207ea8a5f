use Rattle.std.proofs.Common.{[], ◌∷◌, length, refl}
use Rattle.std.specs.List.{flat_map}
use Rattle.layout.specs.Layout.{courses_fields, bar_fields, bars_fields}
use Rattle.writer.proofs.CheckLaws.{lawful_of}
use Rattle.writer.proofs.PutSheet.{fit_bars, left_courses, left_bars, left_rows}
use Rattle.writer.proofs.WriterLaws.{leaves_room}
use Rattle.writer.proofs.put.put_sheet.Goals as goal

pub put_courses-requires-clause-room : goal.put_courses-requires-clause-room
put_courses-requires-clause-room c =
    let r = c.args.checked.now.rows in
    leaves_room (courses_fields r.courses.now r.choices.now) (bars_fields r.bars.now) refl (left_courses _ _ _ c.requires.room c.put.ensures.fields c.put-2.ensures.fields)

pub put_courses-requires-clause-courses : goal.put_courses-requires-clause-courses
put_courses-requires-clause-courses c = (lawful_of c.args.checked.now).courses

pub put_courses-requires-clause-choices : goal.put_courses-requires-clause-choices
put_courses-requires-clause-choices c = (lawful_of c.args.checked.now).choices

pub put-requires-3-clause-room : goal.put-requires-3-clause-room
put-requires-3-clause-room c =
    let bs = c.args.checked.now.rows.bars.now in
    leaves_room ((12, length bs) ∷ []) (flat_map bar_fields bs) refl
    (left_bars _ _ _ c.requires.room c.put.ensures.fields c.put-2.ensures.fields c.put_courses.ensures.fields)

pub put_rows-requires-clause-rows : goal.put_rows-requires-clause-rows
put_rows-requires-clause-rows c = fit_bars _ _ _ (lawful_of c.args.checked.now)

pub put_rows-requires-clause-room : goal.put_rows-requires-clause-room
put_rows-requires-clause-room c =
    (left_rows _ _ _ c.requires.room c.put.ensures.fields c.put-2.ensures.fields c.put_courses.ensures.fields c.put-3.ensures.fields).room

pub returns : goal.returns
returns c =
    record { fields = (left_rows _ _ _ c.requires.room c.put.ensures.fields c.put-2.ensures.fields c.put_courses.ensures.fields c.put-3.ensures.fields).adds _ c.put_rows.ensures.fields }
