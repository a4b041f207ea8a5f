-- Rows have one sheet, and a sheet has one set of rows.
use Rattle.std.proofs.Common.{◌≡◌, ℕ, zero, suc, ◌+◌, ◌-◌, ◌*◌, ◌/◌, ◌%◌, ◌^◌, ◌<◌, List, [], ◌∷◌, ◌++◌, length, get_or, take, drop, sym, refl, ap, ◌∙◌, subst, pow-suc, arith, take-append-drop}
use Rattle.std.specs.List.{flat_map, AllByRecursion}
use Rattle.std.proofs.lemmas.Nat.{shr-shr}
use Rattle.std.proofs.lemmas.List.{ext_get_or, nil_from_length, length-take-le, length-drop}
use Rattle.layout.specs.declared.rows.BarRow.{BarRow}
use Rattle.layout.specs.declared.rows.ChoiceRow.{ChoiceRow}
use Rattle.layout.specs.declared.rows.CourseRow.{CourseRow}
use Rattle.bits.specs.Bits.{bit, Bytes}
use Rattle.layout.specs.Held.{Holds}
use Rattle.layout.specs.Layout.{size, choice_fields, courses_fields, bar_fields, bars_fields, LawfulCourse, total}
use Rattle.layout.specs.Unique.{OneSheet, OneReading}
use Rattle.layout.proofs.HoldsLaws.{holds_front, holds_back}
use Rattle.layout.proofs.SizeLaws.{total-cons, size_choices, size_fields}
use Rattle.layout.proofs.SheetLaws.{sheet_holds}

-- a number is its bits
bits_ext : (w x y : ℕ) → x < 2 ^ w → y < 2 ^ w → ((q : ℕ) → q < w → x / 2 ^ q % 2 ≡ y / 2 ^ q % 2) → x ≡ y
bits_ext zero x y a b e = omega arith
bits_ext (suc w) x y a b e =
    let u = pow-suc 2 w in
    let up : (q : ℕ) → q < w → x / 2 / 2 ^ q % 2 ≡ y / 2 / 2 ^ q % 2 = λ q h. rw (shr-shr x 1 q, shr-shr y 1 q) (e (1 + q) (omega arith)) in
    let half = bits_ext w (x / 2) (y / 2) (omega arith) (omega arith) up in
    let last : x / 1 % 2 ≡ y / 1 % 2 = e 0 (omega arith) in
    omega arith

pub bytes_ext : (s t : List ℕ) → Bytes s → Bytes t → length s ≡ length t → ((j : ℕ) → bit s j ≡ bit t j) → s ≡ t
bytes_ext s t bs bt len e =
    ext_get_or 0 s t len (λ i h. bits_ext 8 (get_or s i 0) (get_or t i 0) (bs i) (bt i) (λ q l.
    let k = 8 * i + (7 - q) in
    let d : k / 8 ≡ i = omega arith in
    let m : 7 - k % 8 ≡ q = omega arith in
    let F : ℕ → ℕ → Type 0 = λ a b. get_or s a 0 / 2 ^ b % 2 ≡ get_or t a 0 / 2 ^ b % 2 in
    subst (λ (b : ℕ). F i b) m (subst (λ (a : ℕ). F a (7 - k % 8)) d (e k))))

pub one_sheet : OneSheet
one_sheet s t cs hs bs p q a b = bytes_ext s t p q (a.long ∙ sym b.long) (λ j. a.bits j ∙ sym (b.bits j))

same_choices : (s : List ℕ) (p : ℕ) (hs gs : List ChoiceRow) → length hs ≡ length gs → Holds s p (flat_map choice_fields hs) → Holds s p (flat_map choice_fields gs) → hs ≡ gs
same_choices s p [] [] e a b = refl
same_choices s p [] (g ∷ gs) e a b = absurd (omega arith)
same_choices s p (h ∷ hs) [] e a b = absurd (omega arith)
same_choices s p (h ∷ hs) (g ∷ gs) e a b =
    let even : h.evening ≡ g.evening = sym a.0 ∙ b.0 in
    let room : h.room ≡ g.room = sym a.1.0 ∙ b.1.0 in
    let rest = same_choices s (p + 3 + 5) hs gs (omega arith) a.1.1 b.1.1 in
    λ i. record { evening = even i; room = room i } ∷ rest i

same_bars : (s : List ℕ) (p : ℕ) (bs xs : List BarRow) → length bs ≡ length xs → Holds s p (flat_map bar_fields bs) → Holds s p (flat_map bar_fields xs) → bs ≡ xs
same_bars s p [] [] e a b = refl
same_bars s p [] (y ∷ xs) e a b = absurd (omega arith)
same_bars s p (x ∷ bs) [] e a b = absurd (omega arith)
same_bars s p (x ∷ bs) (y ∷ xs) e a b =
    let course : x.course ≡ y.course = sym a.0 ∙ b.0 in
    let choice : x.choice ≡ y.choice = sym a.1.0 ∙ b.1.0 in
    let higher : x.higher ≡ y.higher = sym a.1.1.0 ∙ b.1.1.0 in
    let partner : x.partner ≡ y.partner = sym a.1.1.1.0 ∙ b.1.1.1.0 in
    let rest = same_bars s (p + 5 + 3 + 5 + 3) bs xs (omega arith) a.1.1.1.1 b.1.1.1.1 in
    λ i. record { course = course i; choice = choice i; higher = higher i; partner = partner i } ∷ rest i

same_courses : (s : List ℕ) (p : ℕ) (cs ds : List CourseRow) (hs gs : List ChoiceRow) → length cs ≡ length ds → AllByRecursion LawfulCourse cs → AllByRecursion LawfulCourse ds → length hs ≡ total cs → length gs ≡ total ds → Holds s p (courses_fields cs hs) → Holds s p (courses_fields ds gs) → (cs ≡ ds) × (hs ≡ gs)
same_courses s p [] [] hs gs e l m u v a b = (refl, nil_from_length hs u ∙ sym (nil_from_length gs v))
same_courses s p [] (d ∷ ds) hs gs e l m u v a b = absurd (omega arith)
same_courses s p (c ∷ cs) [] hs gs e l m u v a b = absurd (omega arith)
same_courses s p (c ∷ cs) (d ∷ ds) hs gs e l m u v a b =
    let n : c.choices ≡ d.choices = omega (arith, a.0, b.0, l.0.0, m.0.0) in
    let t : c.teacher ≡ d.teacher = sym a.1.0 ∙ b.1.0 in
    let tc = total-cons c cs in
    let td = total-cons d ds in
    let lh : length (take c.choices hs) ≡ c.choices = length-take-le c.choices hs (omega arith) in
    let lg : length (take d.choices gs) ≡ d.choices = length-take-le d.choices gs (omega arith) in
    let p2 = p + 3 + 6 in
    let hf = flat_map choice_fields (take c.choices hs) in
    let gf = flat_map choice_fields (take d.choices gs) in
    let hr = courses_fields cs (drop c.choices hs) in
    let gr = courses_fields ds (drop d.choices gs) in
    let fronts = same_choices s p2 (take c.choices hs) (take d.choices gs) (omega arith) (holds_front s p2 hf hr a.1.1) (holds_front s p2 gf gr b.1.1) in
    let q : p2 + size gf ≡ p2 + size hf = omega (arith, size_choices (take c.choices hs), size_choices (take d.choices gs)) in
    let gb : Holds s (p2 + size hf) gr = subst (λ (x : ℕ). Holds s x gr) q (holds_back s p2 gf gr b.1.1) in
    let rest = same_courses s (p2 + size hf) cs ds (drop c.choices hs) (drop d.choices gs) (omega arith) l.1 m.1
    (omega (arith, length-drop c.choices hs)) (omega (arith, length-drop d.choices gs)) (holds_back s p2 hf hr a.1.1) gb in (
      λ i. record { teacher = t i; choices = n i } ∷ rest.0 i,
      sym (take-append-drop c.choices hs) ∙ (λ i. fronts i ++ rest.1 i) ∙ take-append-drop d.choices gs,
    )

pub one_reading : OneReading
one_reading s cs ds hs gs bs xs a b =
    let x = sheet_holds s cs hs bs a in
    let y = sheet_holds s ds gs xs b in
    let la = a.lawful in
    let lb = b.lawful in
    let cf = courses_fields cs hs in
    let df = courses_fields ds gs in
    let n : length cs ≡ length ds = sym x.1.0 ∙ y.1.0 in
    let rows = same_courses s 9 cs ds hs gs n la.courses lb.courses la.whole lb.whole (holds_front s 9 cf (bars_fields bs) x.1.1) (holds_front s 9 df (bars_fields xs) y.1.1) in
    let m = ap (λ (r : List ChoiceRow). length r) rows.1 in
    let q : 9 + size df ≡ 9 + size cf = omega (arith, size_fields cs hs la.whole, size_fields ds gs lb.whole) in
    let xb = holds_back s 9 cf (bars_fields bs) x.1.1 in
    let yb : Holds s (9 + size cf) (bars_fields xs) = subst (λ (r : ℕ). Holds s r (bars_fields xs)) q (holds_back s 9 df (bars_fields xs) y.1.1) in
    (rows.0, rows.1, same_bars s (9 + size cf + 12) bs xs (sym xb.0 ∙ yb.0) xb.1 yb.1)
