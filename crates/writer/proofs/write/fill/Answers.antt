use Rattle.std.proofs.Common.{◌≡◌, take, drop, sym, subst, arith, rules}
use Rattle.layout.specs.Layout.{IsSheet}
use Rattle.writer.proofs.CheckLaws.{lawful_of}
use Rattle.writer.proofs.PutSheet.{sheet_size, few_choices}
use Rattle.writer.proofs.WriteLaws.{filled_sheet, rest_kept}
use Rattle.writer.proofs.write.fill.Goals as goal

pub put_sheet-requires : goal.put_sheet-requires
put_sheet-requires c =
    let law = (lawful_of c.args.checked.now) in
    let wide = sheet_size _ _ _ law in
    record {
      room = record {
        inside = omega (arith, c.requires.all);
        early = omega (arith, wide, few_choices _ _ _ law, law.many, law.bars);
      };
    }

pub returns-clause-sheet : goal.returns-clause-sheet
returns-clause-sheet c =
    let t = c.put_sheet.new.writer.out.now in
    let sheet = filled_sheet _ c.clear.new.out t _ _ _ c.args.bytes c.requires.all c.requires.room (omega arith) c.clear.ensures.cleared c.put_sheet.ensures.fields.fields (lawful_of c.args.checked.now) in
    let r = c.args.checked.now.rows in
    subst (λ u. IsSheet (take c.args.bytes u) r.courses.now r.choices.now r.bars.now) (sym (search rules)) sheet

pub returns-clause-rest : goal.returns-clause-rest
returns-clause-rest c =
    let t = c.put_sheet.new.writer.out.now in
    let rest = rest_kept _ c.clear.new.out t _ _ _ c.args.bytes c.requires.all c.requires.room (omega arith) c.clear.ensures.cleared c.put_sheet.ensures.fields.fields in
    subst (λ u. drop c.args.bytes u ≡ drop c.args.bytes c.args.out.now) (sym (search rules)) rest
