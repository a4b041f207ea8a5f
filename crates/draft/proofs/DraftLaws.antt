-- The laws of drafts: what restricting and striking keep.
use Rattle.std.proofs.Common.{◌≡◌, ℕ, ◌<◌, Bool, true, false, not, ◌&&◌, ◌⊎◌, List, get_or, sym, refl, ap, ◌∙◌, ap₂, inl, inr, arith}
use mathlib.Core.Path.{fun_ext}
use Rattle.std.proofs.lemmas.Simd.{get_or-replicate}
use Rattle.std.proofs.lemmas.List.{get_or_past}
use Rattle.std.proofs.lemmas.Bool.{and_parts, cases_lt}
use Rattle.draft.specs.Drafts.{Draft, Lawful, whole, restrict, strike}
use Rattle.draft.specs.Labels.{named, widest}
use Rattle.draft.specs.Pairings.{mirrored, same}
use Rattle.draft.specs.declared.pairing.Pairing.{Pairing}
use Rattle.draft.specs.declared.pairing.Side.{Side}
use Rattle.draft.specs.Limits.{Limits}
use Rattle.draft.proofs.PairLaws.{named_swap, named_says, same_says}
use Rattle.draft.proofs.ShapeLaws.{within, at_most}

-- every pairing of a shape within the limits makes a lawful draft
pub whole_lawful : (a : List ℕ) → Limits a → Lawful (whole a)
whole_lawful a m = record {
  least = m.0;
  most = m.1;
  some_choice = λ i h. (m.2 i h).0;
  few = at_most a m;
  outside = λ i h. get_or_past a i 0 h;
  mirrored = named_swap a;
  course = λ p s. within a p.one.course p.one.choice ((named_says a p).0 s).0;
  choice = λ p s. ((named_says a p).0 s).0;
  apart = λ p s. ((named_says a p).0 s).1.1;
}

-- a test that does not mind which name it gets keeps the law
pub restrict_lawful : (D : Draft) (passes : Pairing → Bool) → ((p : Pairing) → passes p ≡ passes (mirrored p)) → Lawful D → Lawful (restrict D passes)
restrict_lawful D passes m l = record {
  least = l.least;
  most = l.most;
  some_choice = l.some_choice;
  few = l.few;
  outside = l.outside;
  mirrored = λ p. ap₂ ◌&&◌ (l.mirrored p) (m p);
  course = λ p s. l.course p (and_parts _ _ s).0;
  choice = λ p s. l.choice p (and_parts _ _ s).0;
  apart = λ p s. l.apart p (and_parts _ _ s).0;
}

-- striking what is not there changes nothing
pub strike_absent : (D : Draft) → Lawful D → (p : Pairing) → D.stands p ≡ false → D ≡ strike D p
strike_absent D l p f = λ t. record {
  courses = D.courses;
  choices = D.choices;
  stands = fun_ext left t;
}
  where
    gone : (q : Pairing) → (p ≡ q) ⊎ (p ≡ mirrored q) → D.stands q ≡ false
    gone q (inl h) = ap D.stands (sym h) ∙ f
    gone q (inr h) = l.mirrored q ∙ ap D.stands (sym h) ∙ f

    left : (q : Pairing) → D.stands q ≡ (D.stands q && not (same p q))
    left q = kept (D.stands q) (same p q) (λ s. gone q ((same_says p q).0 s))
      where
        kept : (x y : Bool) → (y ≡ true → x ≡ false) → x ≡ (x && not y)
        kept true true h = h refl
        kept true false h = refl
        kept false y h = refl

-- a draft restricted by a test that lacks one pairing more is the draft less that pairing
pub restrict_strike : (D : Draft) (f g : Pairing → Bool) (p : Pairing)
    → ((q : Pairing) → D.stands q ≡ true → g q ≡ (f q && not (same p q)))
    → restrict D g ≡ strike (restrict D f) p
restrict_strike D f g p h = λ t. record {
  courses = D.courses;
  choices = D.choices;
  stands = fun_ext (λ q. under (D.stands q) (g q) (f q) (not (same p q)) (h q)) t;
}
  where
    under : (n x y z : Bool) → (n ≡ true → x ≡ (y && z)) → (n && x) ≡ ((n && y) && z)
    under true x y z h = h refl
    under false x y z h = refl

-- a choice of a lawful draft is one of the widest shape
in_widest : (D : Draft) → Lawful D → (x : Side) → x.choice < D.choices x.course → x.choice < get_or widest x.course 0
in_widest D l x h =
    elim (cases_lt x.course D.courses) [
      | inl w ↦ omega (arith, l.few x.course, get_or-replicate {A = ℕ} 24 x.course 8 0 (omega (arith, l.most)))
      | inr w ↦ absurd (omega (arith, l.outside x.course w))
    ]

-- a standing pairing of a lawful draft is one of the widest shape
pub standing_widest : (D : Draft) → Lawful D → (p : Pairing) → D.stands p ≡ true → named widest p ≡ true
standing_widest D l p s =
    (named_says widest p).1
    (in_widest D l p.one (l.choice p s), (in_widest D l p.other (l.choice (mirrored p) (sym (l.mirrored p) ∙ s)), l.apart p s))
