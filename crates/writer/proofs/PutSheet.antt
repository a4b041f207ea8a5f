-- Lawful rows fit their fields, and what is left of the layout after each step.
use Rattle.std.proofs.Common.{◌≡◌, ◌+◌, ◌*◌, ◌≤◌, List, [], ◌∷◌, ◌++◌, length, refl, arith}
use Rattle.std.specs.List.{flat_map, AllByRecursion}
use Rattle.std.proofs.ByRecursion.{All-weaker}
use Rattle.layout.specs.declared.rows.BarRow.{BarRow}
use Rattle.layout.specs.declared.rows.ChoiceRow.{ChoiceRow}
use Rattle.layout.specs.declared.rows.CourseRow.{CourseRow}
use Rattle.layout.specs.Layout.{size, courses_fields, bar_fields, bars_fields, layout, counts_of, LawfulBar, Lawful}
use Rattle.layout.proofs.SheetLaws.{fits_bar}
use Rattle.layout.proofs.SizeLaws.{total_le, size_layout}
use Rattle.writer.specs.declared.fields.BitWriter.{BitWriter}
use Rattle.writer.specs.Putting.{FitBar}
use Rattle.writer.specs.Writers.{Adds, HasRoom}
use Rattle.writer.proofs.WriterLaws.{Leaves, leaves_all, leaves_others}

module _ (cs : List CourseRow) (hs : List ChoiceRow) (bs : List BarRow) (law : Lawful cs hs bs) where
  pub few_choices : length hs ≤ 192
  few_choices = omega (arith, law.many, law.whole, total_le cs law.courses)

  pub sheet_size : size (layout cs hs bs) ≡ 21 + 9 * length cs + 8 * length hs + 16 * length bs
  sheet_size = size_layout cs hs bs law.whole

  pub fit_bars : AllByRecursion FitBar bs
  fit_bars = All-weaker (LawfulBar (counts_of cs)) FitBar (λ b l. fits_bar cs b law.many law.courses l) bs law.names

-- what is left to put, first after the edition and the number of courses
module _ (cs : List CourseRow) (hs : List ChoiceRow) (bs : List BarRow) {s t u : BitWriter} (room : HasRoom s (layout cs hs bs)) (edition : Adds s t ((4, 1) ∷ [])) (count : Adds t u ((5, length cs) ∷ [])) where
  pub left_courses : Leaves s u (layout cs hs bs) (courses_fields cs hs ++ bars_fields bs)
  left_courses =
      leaves_others ((5, length cs) ∷ []) (courses_fields cs hs ++ bars_fields bs) refl
      (leaves_others ((4, 1) ∷ []) ((5, length cs) ∷ (courses_fields cs hs ++ bars_fields bs)) refl (leaves_all room) edition) count

  pub left_bars : {v : BitWriter} → Adds u v (courses_fields cs hs) → Leaves s v (layout cs hs bs) (bars_fields bs)
  left_bars courses = leaves_others (courses_fields cs hs) (bars_fields bs) refl left_courses courses

  pub left_rows : {v w : BitWriter} → Adds u v (courses_fields cs hs) → Adds v w ((12, length bs) ∷ []) → Leaves s w (layout cs hs bs) (flat_map bar_fields bs)
  left_rows courses bars = leaves_others ((12, length bs) ∷ []) (flat_map bar_fields bs) refl (left_bars courses) bars
