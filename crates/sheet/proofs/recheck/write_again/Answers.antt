use Rattle.sheet.proofs.TripLaws.{room_to_write}
use Rattle.sheet.proofs.recheck.write_again.Goals as goal

pub returns-in_err-bytes : goal.returns-in_err-bytes
returns-in_err-bytes c =
    absurd (room_to_write c.args.sheet.now _ _ _ c.requires.rows c.args.out.now c.write.new.out c.requires.room _ c.in_err-bytes.ensures.cases)
