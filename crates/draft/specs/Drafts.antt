-- What a draft means: a shape, and the set of the pairings that stand.
--
--   Draft      the number of courses, the choice count of each course, and which pairings stand
--   Lawful     the law of a store: limits, only pairings of two courses of the shape, each from both sides
--   whole      the draft of a shape in which every pairing stands
--   restrict   the draft of those pairings that pass a test
--   strike     the draft less one pairing
use Rattle.std.specs.Prelude.{◌≡◌, ℕ, ◌<◌, ◌≤◌, Bool, true, not, ◌&&◌, List, length, ◌≢◌, slice_index}
use Rattle.draft.specs.Labels.{named}
use Rattle.draft.specs.Pairings.{mirrored, same}
use Rattle.draft.specs.declared.pairing.Pairing.{Pairing}

-- where there is no course i, `choices i` is 0
pub record Draft : Type 0 where
  pub courses : ℕ
  pub choices : ℕ → ℕ
  pub stands : Pairing → Bool

-- 2 to 24 courses of 1 to 8 choices; the set has only pairings of two different courses of the shape,
-- and a pairing is in it under both of its names or under neither
pub record Lawful (D : Draft) : Type 0 where
  pub least : 2 ≤ D.courses
  pub most : D.courses ≤ 24
  pub some_choice : (i : ℕ) → i < D.courses → 1 ≤ D.choices i
  pub few : (i : ℕ) → D.choices i ≤ 8
  pub outside : (i : ℕ) → D.courses ≤ i → D.choices i ≡ 0
  pub mirrored : (p : Pairing) → D.stands p ≡ D.stands (mirrored p)
  pub course : (p : Pairing) → D.stands p ≡ true → p.one.course < D.courses
  pub choice : (p : Pairing) → D.stands p ≡ true → p.one.choice < D.choices p.one.course
  pub apart : (p : Pairing) → D.stands p ≡ true → p.one.course ≢ p.other.course

-- the draft of the shape with the counts a in which every pairing stands
abbrev pub whole : List ℕ → Draft
whole a = record { courses = length a; choices = λ i. slice_index a i; stands = named a }

-- the draft of D's shape in which those pairings of D stand that pass the test
abbrev pub restrict : Draft → (Pairing → Bool) → Draft
restrict D passes = record { courses = D.courses; choices = D.choices; stands = λ p. D.stands p && passes p }

-- D less the pairing p
abbrev pub strike : Draft → Pairing → Draft
strike D p = restrict D (λ q. not (same p q))
