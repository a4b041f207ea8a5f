-- Fields that a writer of bits puts one after another.
use Rattle.std.proofs.Common.{◌≡◌, ℕ, ◌+◌, ◌<◌, List, ◌++◌, length, get_or, take, drop, sym, ap, ◌∙◌, subst, arith}
use Rattle.std.specs.List.{flat_map}
use Rattle.std.proofs.lemmas.List.{at_drop_more}
use Rattle.layout.specs.declared.rows.ChoiceRow.{ChoiceRow}
use Rattle.layout.specs.declared.rows.CourseRow.{CourseRow}
use Rattle.layout.specs.Layout.{Field, course_fields, courses_fields}
use Rattle.layout.proofs.HoldsLaws.{size-append}
use Rattle.writer.specs.declared.fields.BitWriter.{BitWriter}
use Rattle.writer.specs.Writers.{Adds, HasRoom}
use Rattle.writer.proofs.PutLaws.{puts_more}

-- fields after fields
pub adds_more : {s t u : BitWriter} {fs gs : List Field} → Adds s t fs → Adds t u gs → Adds s u (fs ++ gs)
adds_more {s = s} {t = t} {u = u} {fs = fs} {gs = gs} a b = record {
  loan = b.loan ∙ a.loan;
  long = b.long ∙ a.long;
  place = omega (arith, a.place, b.place, size-append fs gs);
  fields = puts_more s.out.now t.out.now u.out.now s.at t.at fs gs a.place a.fields b.fields;
}

-- where there is room for fields there is room for the first of them
pub room_front : {s : BitWriter} (fs gs : List Field) → HasRoom s (fs ++ gs) → HasRoom s fs
room_front fs gs r = record { inside = omega (arith, r.inside, size-append fs gs); early = omega (arith, r.early, size-append fs gs) }

-- and after these for the others
pub room_back : {s t : BitWriter} (fs gs : List Field) → HasRoom s (fs ++ gs) → Adds s t fs → HasRoom t gs
room_back fs gs r a = record {
  inside = omega (arith, r.inside, size-append fs gs, a.place, a.long);
  early = omega (arith, r.early, size-append fs gs, a.place);
}

-- a writer that began as s is t: with these fields left it has put all, and there is room for them
pub record Leaves (s t : BitWriter) (all left : List Field) : Type 0 where
  pub adds : (u : BitWriter) → Adds t u left → Adds s u all
  pub room : HasRoom t left

-- at first all fields are left
pub leaves_all : {s : BitWriter} {all : List Field} → HasRoom s all → Leaves s s all all
leaves_all r = record { adds = λ u a. a; room = r }

-- there is room for the first of those that are left
pub leaves_room : {s t : BitWriter} {all left : List Field} (fs gs : List Field) → left ≡ fs ++ gs → Leaves s t all left → HasRoom t fs
leaves_room {t = t} fs gs e l = room_front fs gs (subst (λ hs. HasRoom t hs) e l.room)

-- when these are put, the others are left
pub leaves_others : {s t u : BitWriter} {all left : List Field} (fs gs : List Field) → left ≡ fs ++ gs → Leaves s t all left → Adds t u fs → Leaves s u all gs
leaves_others {t = t} fs gs e l a = record {
  adds = λ v b. l.adds v (subst (λ hs. Adds t v hs) (sym e) (adds_more a b));
  room = room_back fs gs (subst (λ hs. HasRoom t hs) e l.room) a;
}

-- the fields of row k, and then those of the rows after it
pub rows_left : {X : Type 0} (f : X → List Field) (rows : List X) (k : ℕ) (row : X) → k < length rows → row ≡ get_or rows k row
    → flat_map f (drop k rows) ≡ f row ++ flat_map f (drop (k + 1) rows)
rows_left f rows k row l is = at_drop_more (flat_map f) rows k row l ∙ ap (λ x. f x ++ flat_map f (drop (k + 1) rows)) (sym is)

-- the fields of course k with its own choices, and then those of the courses after it with the later ones
pub courses_left : (cs : List CourseRow) (hs own later : List ChoiceRow) (k : ℕ) (d : CourseRow) → k < length cs
    → own ≡ take (get_or cs k d).choices hs → later ≡ drop (get_or cs k d).choices hs
    → courses_fields (drop k cs) hs ≡ course_fields (get_or cs k d) own ++ courses_fields (drop (k + 1) cs) later
courses_left cs hs own later k d l front back =
    at_drop_more (λ ds. courses_fields ds hs) cs k d l
    ∙ (λ i. course_fields (get_or cs k d) (sym front i) ++ courses_fields (drop (k + 1) cs) (sym back i))
