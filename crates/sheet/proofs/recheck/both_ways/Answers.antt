use Rattle.std.proofs.Common.{◌≤◌, length, sym, arith}
use Rattle.std.proofs.lemmas.List.{length-take-le}
use Rattle.bits.specs.Bits.{Bytes}
use Rattle.sheet.proofs.TripLaws.{filled_room, agrees}
use Rattle.sheet.proofs.recheck.both_ways.Goals as goal

-- the rows that were read lie in the tables lent
room : (c : goal.In_ok-counts) → (c.in_ok-counts.counts.courses ≤ length c.args.courses.now) × (c.in_ok-counts.counts.choices ≤ length c.args.choices.now) × (c.in_ok-counts.counts.bars ≤ length c.args.bars.now)
room c = filled_room c.args.sheet.now _ _ _ _ _ _ _ c.in_ok-counts.ensures.cases

pub slice_bounds-rows-end : goal.slice_bounds-rows-end
slice_bounds-rows-end c = omega (arith, (room c).0)

pub slice_bounds-rows-end-2 : goal.slice_bounds-rows-end-2
slice_bounds-rows-end-2 c = sym (length-take-le c.in_ok-counts.counts.courses c.read.new.courses (omega (arith, (room c).0)))

pub slice_bounds-rows-end-3 : goal.slice_bounds-rows-end-3
slice_bounds-rows-end-3 c = omega (arith, (room c).1)

pub slice_bounds-rows-end-4 : goal.slice_bounds-rows-end-4
slice_bounds-rows-end-4 c = sym (length-take-le c.in_ok-counts.counts.choices c.read.new.choices (omega (arith, (room c).1)))

pub slice_bounds-rows-end-5 : goal.slice_bounds-rows-end-5
slice_bounds-rows-end-5 c = omega (arith, (room c).2)

pub slice_bounds-rows-end-6 : goal.slice_bounds-rows-end-6
slice_bounds-rows-end-6 c = sym (length-take-le c.in_ok-counts.counts.bars c.read.new.bars (omega (arith, (room c).2)))

pub returns : goal.returns
returns c =
    let s : Bytes c.args.sheet.now = λ k. omega (arith, c.type_inv.sheet k) in
    let u : Bytes c.write_again.new.out = λ k. omega (arith, c.type_inv.out k) in
    let told = c.write_again.ensures in
    record {
      cases = agrees c.args.sheet.now _ c.read.new.courses _ c.read.new.choices _ c.read.new.bars c.args.out.now c.write_again.new.out c.in_ok-counts.counts c.in_ok-counts.ensures.cases s u c.requires.room _ told.wrote told.compared told.counted;
    }
