use Rattle.std.proofs.Common.{refl}
use Rattle.layout.proofs.UniqueLaws.{one_sheet, one_reading}
use Rattle.sheet.proofs.TripLaws.{reads_back, writes_back, reads_sheets, writes_lawful}
use Rattle.sheet.proofs.recheck.recheck.Goals as goal

pub returns-then-out-sheet : goal.returns-then-out-sheet
returns-then-out-sheet c =
    record {
      cases = record { fault = c.short_fault.ensures.value _ _ _; courses = refl; choices = refl; bars = refl; bytes = refl };
      reads_back = reads_back;
      writes_back = writes_back;
      one_sheet = one_sheet;
      one_reading = one_reading;
      reads_sheets = reads_sheets;
      writes_lawful = writes_lawful;
    }

pub returns : goal.returns
returns c =
    record {
      cases = c.both_ways.ensures.cases;
      reads_back = reads_back;
      writes_back = writes_back;
      one_sheet = one_sheet;
      one_reading = one_reading;
      reads_sheets = reads_sheets;
      writes_lawful = writes_lawful;
    }
