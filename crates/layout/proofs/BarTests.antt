-- What the tests of a bar say of it.
use Rattle.std.proofs.Common.{◌≡◌, ℕ, zero, suc, ◌+◌, ◌<◌, true, ltb, List, get_or, Some, None, Option, sym, refl, ap, ◌∙◌, subst, add-one, arith}
use Rattle.std.proofs.lemmas.Bool.{and_from, and_parts, lt-ltb, ltb-true}
use Rattle.draft.specs.declared.refusal.Refusal.TheVariants.{BarName, BarOrder}
use Rattle.layout.specs.declared.rows.BarRow.{BarRow}
use Rattle.layout.specs.Faults.{unless, sound, above, prior, bar_fault}
use Rattle.layout.specs.Layout.{number_of, LawfulBar}
use Rattle.layout.proofs.FirstLaws.{first_none, first_both, unless_none, unless_holds}

sound_lawful : (a : List ℕ) (b : BarRow) → sound a b ≡ true → LawfulBar a b
sound_lawful a b h =
    let x = and_parts (ltb b.course b.higher) _ h in
    let y = and_parts (ltb b.choice (get_or a b.course 0)) (ltb b.partner (get_or a b.higher 0)) x.1 in
    (ltb-true b.course b.higher x.0, ltb-true b.choice (get_or a b.course 0) y.0, ltb-true b.partner (get_or a b.higher 0) y.1)

lawful_sound : (a : List ℕ) (b : BarRow) → LawfulBar a b → sound a b ≡ true
lawful_sound a b l =
    and_from _ _ (lt-ltb b.course b.higher l.0) (and_from _ _ (lt-ltb b.choice (get_or a b.course 0) l.1) (lt-ltb b.partner (get_or a b.higher 0) l.2))

-- a bar without a fault is lawful and above the bar before it, and the other way round
pub bar_parts : (a : List ℕ) (before : Option BarRow) (b : BarRow) (p : ℕ) → bar_fault a before b p ≡ None → LawfulBar a b × (above before b ≡ true)
bar_parts a before b p none =
    let x = first_none (unless (sound a b) BarName p) (unless (above before b) BarOrder p) none in
    (sound_lawful a b (unless_none _ BarName p x.0), unless_none _ BarOrder p x.1)

pub bar_clean : (a : List ℕ) (before : Option BarRow) (b : BarRow) (p : ℕ) → LawfulBar a b → above before b ≡ true → bar_fault a before b p ≡ None
bar_clean a before b p law up =
    first_both (unless (sound a b) BarName p) (unless (above before b) BarOrder p) (unless_holds _ BarName p (lawful_sound a b law)) (unless_holds _ BarOrder p up)

-- bars by their places
module _ (bar : ℕ → BarRow) where
  pub prior_more : (k : ℕ) → Some (bar k) ≡ prior bar (k + 1)
  prior_more k = ap (prior bar) (sym (add-one k))

  pub above_rises : (k : ℕ) → above (prior bar (k + 1)) (bar (k + 1)) ≡ true → number_of (bar k) < number_of (bar (k + 1))
  above_rises k up =
      ltb-true (number_of (bar k)) (number_of (bar (k + 1))) (ap (λ (x : Option BarRow). above x (bar (k + 1))) (prior_more k) ∙ up)

  pub rises_above : (m : ℕ) → ((k : ℕ) → k + 1 < m → number_of (bar k) < number_of (bar (k + 1))) → (k : ℕ) → k < m → above (prior bar k) (bar k) ≡ true
  rises_above m rising zero l = refl
  rises_above m rising (suc k) l =
      lt-ltb (number_of (bar k)) (number_of (bar (suc k))) (subst (λ (n : ℕ). number_of (bar k) < number_of (bar n)) (add-one k) (rising k (omega arith)))
