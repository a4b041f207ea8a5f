use Rattle.writer.proofs.WriterLaws.{leaves_room, leaves_others, rows_left}
use Rattle.writer.proofs.put.put_rows.Goals as goal

pub put-requires-clause-room : goal.put-requires-clause-room
put-requires-clause-room g c =
    leaves_room _ _ (rows_left g.R.Put.fields c.args.rows.now c.loop-row.row-index c.row-item.result c.loop-row-test.true c.row-item.is) c.loop-row.invariant

pub loop-row-preserved : goal.loop-row-preserved
loop-row-preserved g c =
    leaves_others _ _ (rows_left g.R.Put.fields c.args.rows.now c.loop-row.row-index c.row-item.result c.loop-row-test.true c.row-item.is) c.loop-row.invariant c.put.ensures.fields
