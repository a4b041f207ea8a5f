-- What the second pass writes is what a reading leaves.
use Rattle.std.proofs.Common.{◌≡◌, ℕ, zero, suc, ◌+◌, ◌*◌, ◌≤◌, List, ◌++◌, length, take, drop, None, sym, ap, ◌∙◌, subst, arith}
use Rattle.std.proofs.lemmas.List.{take_at, drop_at}
use Rattle.layout.specs.declared.rows.BarRow.{BarRow}
use Rattle.layout.specs.declared.rows.ChoiceRow.{ChoiceRow}
use Rattle.layout.specs.declared.rows.Counts.{Counts}
use Rattle.layout.specs.declared.rows.CourseRow.{CourseRow}
use Rattle.bits.proofs.BitLaws.{val_lt}
use Rattle.reader.specs.declared.head.Head.{Head}
use Rattle.reader.specs.Decoded.{course_at, bar_at, course_rows, choice_rows, bar_rows, course_count, bars_place, bar_count, label, place, counts}
use Rattle.reader.specs.Passes.{HeadOf}
use Rattle.reader.specs.Reading.{Filled}
use Rattle.reader.specs.Verdict.{verdict, room_fault}
use Rattle.reader.proofs.CleanLaws.{clean_sheet}
use Rattle.reader.proofs.RowLaws.{length-rows_of}

-- a course has at most 8 choices
pub label_le : (s : List ℕ) (c : ℕ) → label s c ≤ 8 * c
label_le s zero = omega arith
label_le s (suc c) = omega (arith, label_le s c, val_lt s (place s c) 3)

-- the parts of the first pass's findings
module _ (s : List ℕ) (h : Head) (is : HeadOf s h) where
  pub courses_is : h.counts.courses ≡ course_count s
  courses_is = ap (λ (c : Counts). c.courses) is.counts

  pub bars_is : h.counts.bars ≡ bar_count s
  bars_is = ap (λ (c : Counts). c.bars) is.counts

  pub few_courses : course_count s ≤ 24
  few_courses = omega (arith, courses_is, h.few)

  pub few_bars : h.counts.bars ≤ 4095
  few_bars = omega (arith, bars_is, val_lt s (bars_place s) 12)

-- the course rows are as many as the sheet says
pub courses_long : (s : List ℕ) (cs : List CourseRow) → cs ≡ course_rows s (course_count s) → length cs ≡ course_count s
courses_long s cs is = ap (λ (rows : List CourseRow). length rows) is ∙ length-rows_of (λ c. course_at s (place s c)) (course_count s)

module _ (s : List ℕ) (n : Counts) (is : n ≡ counts s) (clean : verdict s ≡ None) where
  -- lists that hold the sheet's rows in their fronts, and the rest as it was
  pub filled : (cs rows : List CourseRow) (hs hs' : List ChoiceRow) (bs bars : List BarRow) (k m : ℕ) → room_fault n (length cs) (length hs) (length bs) ≡ None → rows ≡ course_rows s (course_count s) → k ≡ course_count s → take (label s k) hs' ≡ choice_rows s k → drop (label s k) hs' ≡ drop (label s k) hs → m ≡ bar_count s → bars ≡ bar_rows s (bars_place s + 12) m → Filled s cs (rows ++ drop n.courses cs) hs hs' bs (bars ++ drop n.bars bs) n
  filled cs rows hs hs' bs bars k m room courses count front rest some last =
      let lc : length rows ≡ n.courses = courses_long s rows courses ∙ ap (λ (x : Counts). x.courses) (sym is) in
      let lh : label s k ≡ n.choices = ap (label s) count ∙ ap (λ (x : Counts). x.choices) (sym is) in
      let lb : length bars ≡ n.bars = ap (λ (bs : List BarRow). length bs) last ∙ length-rows_of (λ i. bar_at s (bars_place s + 12 + 16 * i)) m ∙ some ∙ ap (λ (x : Counts). x.bars) (sym is) in
      let a : take n.courses (rows ++ drop n.courses cs) ≡ course_rows s (course_count s) = take_at rows _ n.courses lc ∙ courses in
      let b : take n.choices hs' ≡ choice_rows s (course_count s) = ap (λ (t : ℕ). take t hs') (sym lh) ∙ front ∙ ap (choice_rows s) count in
      let d : take n.bars (bars ++ drop n.bars bs) ≡ bar_rows s (bars_place s + 12) (bar_count s) = take_at bars _ n.bars lb ∙ last ∙ ap (bar_rows s (bars_place s + 12)) some in
      record {
        clean = rw clean (subst (λ (x : Counts). room_fault x (length cs) (length hs) (length bs) ≡ None) is room);
        answer = is;
        sheet = rw (a, b, d) (clean_sheet s clean);
        courses = drop_at rows _ n.courses lc;
        choices = rw lh at rest;
        bars = drop_at bars _ n.bars lb;
      }
