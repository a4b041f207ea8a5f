-- Fields put one after another.
use Rattle.std.proofs.Common.{◌≡◌, ℕ, ◌+◌, ◌-◌, ◌/◌, ◌^◌, ◌<◌, List, ◌++◌, sym, ap, ◌∙◌, subst, ⊎_elim, arith}
use Rattle.std.specs.Prelude.{if◌then◌else◌, ◌==◌}
use Rattle.std.proofs.lemmas.Bool.{cases_eq, cond-true, cond-false, eq-eqb, ne_eqb}
use Rattle.bits.specs.Bits.{val}
use Rattle.layout.specs.Held.{Holds}
use Rattle.layout.specs.Layout.{Field, size}
use Rattle.writer.specs.Putting.{Puts}
use Rattle.layout.proofs.HoldsLaws.{size-append, holds_append, holds_same}

-- a number below 2 is 1 where it is tested to be 1, and else 0
pub two_if : (x : ℕ) → x < 2 → (if x == 1 then 1 else 0) ≡ x
two_if x h = ⊎_elim (λ e. cond-true (x == 1) 1 0 (eq-eqb x 1 e) ∙ sym e) (λ ne. cond-false (x == 1) 1 0 (ne_eqb x 1 ne) ∙ omega arith) (cases_eq x 1)

-- all the bits of a number are the number
pub front_all : (t : List ℕ) (p i w v : ℕ) → i ≡ w → val t p i ≡ v / 2 ^ (w - i) → val t p w ≡ v
front_all t p i w v all e =
    let none : w - i ≡ 0 = omega arith in
    ap (val t p) (sym all) ∙ e ∙ ap (λ (n : ℕ). v / 2 ^ n) none ∙ omega arith

-- fields after fields
pub puts_more : (s t u : List ℕ) (p q : ℕ) (fs gs : List Field) → q ≡ p + size fs → Puts s t p fs → Puts t u q gs → Puts s u p (fs ++ gs)
puts_more s t u p q fs gs e a b =
    let back : Holds u (p + size fs) gs = subst (λ (x : ℕ). Holds u x gs) e b.holds in
    record {
      holds = holds_append u p fs gs (holds_same t u p fs (λ j l h. b.before j (omega arith)) a.holds) back;
      before = λ j h. b.before j (omega arith) ∙ a.before j h;
      rest = λ k h. let w = size-append fs gs in b.rest k (omega arith) ∙ a.rest k (omega arith);
      after = λ j h. let w = size-append fs gs in b.after j (omega arith) ∙ a.after j (omega arith);
    }
