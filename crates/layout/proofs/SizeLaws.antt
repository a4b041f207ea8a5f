-- How many bits the rows take.
use Rattle.std.proofs.Common.{◌≡◌, ◌+◌, ◌*◌, ◌≤◌, List, [], ◌∷◌, length, take, drop, refl, arith}
use Rattle.std.specs.List.{flat_map, AllByRecursion}
use Rattle.std.proofs.lemmas.List.{length-take-le, length-drop}
use Rattle.std.proofs.lemmas.List.Sums.{sum_by-cons}
use Rattle.layout.specs.declared.rows.BarRow.{BarRow}
use Rattle.layout.specs.declared.rows.ChoiceRow.{ChoiceRow}
use Rattle.layout.specs.declared.rows.CourseRow.{CourseRow}
use Rattle.layout.specs.Layout.{size, choice_fields, course_fields, courses_fields, bar_fields, bars_fields, layout, total, LawfulCourse}
use Rattle.layout.proofs.HoldsLaws.{size-append}

pub total-cons : (c : CourseRow) (cs : List CourseRow) → total (c ∷ cs) ≡ c.choices + total cs
total-cons c cs = sum_by-cons (λ (x : CourseRow). x.choices) c cs

pub total_le : (cs : List CourseRow) → AllByRecursion LawfulCourse cs → total cs ≤ 8 * length cs
total_le [] h = omega arith
total_le (c ∷ cs) h = omega (arith, total-cons c cs, total_le cs h.1, h.0.1)

pub size_choices : (hs : List ChoiceRow) → size (flat_map choice_fields hs) ≡ 8 * length hs
size_choices [] = refl
size_choices (h ∷ hs) = omega (arith, size_choices hs)

pub size_bars : (bs : List BarRow) → size (flat_map bar_fields bs) ≡ 16 * length bs
size_bars [] = refl
size_bars (b ∷ bs) = omega (arith, size_bars bs)

pub size_fields : (cs : List CourseRow) (hs : List ChoiceRow) → length hs ≡ total cs → size (courses_fields cs hs) ≡ 9 * length cs + 8 * length hs
size_fields [] hs e = omega (arith, e)
size_fields (c ∷ cs) hs e =
    let a = c.choices in
    let n = total-cons c cs in
    let l = length-drop a hs in
    let t = length-take-le a hs (omega arith) in
    omega (arith, size-append (course_fields c (take a hs)) (courses_fields cs (drop a hs)), size_choices (take a hs), size_fields cs (drop a hs) (omega arith))

pub size_layout : (cs : List CourseRow) (hs : List ChoiceRow) (bs : List BarRow) → length hs ≡ total cs → size (layout cs hs bs) ≡ 21 + 9 * length cs + 8 * length hs + 16 * length bs
size_layout cs hs bs e = omega (arith, size-append (courses_fields cs hs) (bars_fields bs), size_fields cs hs e, size_bars bs)
