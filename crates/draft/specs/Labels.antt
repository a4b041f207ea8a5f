-- The labels of choices and the numbers of pairings, over the list a of choice counts.
use Rattle.std.specs.Prelude.{◌≡◌, ℕ, ◌+◌, ◌-◌, ◌*◌, ◌/◌, ◌<◌, Bool, true, not, ◌&&◌, List, take, replicate, Some, None, if◌then◌else◌, sum, Option, ◌==◌, nat_lt, slice_index}
use Rattle.draft.specs.Pairings.{same}
use Rattle.draft.specs.declared.pairing.Pairing.{Pairing}
use Rattle.draft.specs.declared.pairing.Side.{Side}

-- the course has such a choice
abbrev pub there : List ℕ → Side → Bool
there a x = nat_lt x.choice (slice_index a x.course)

-- the label of a choice: its number plus the choice counts of all earlier courses
abbrev pub label : List ℕ → Side → ℕ
label a x = sum (take x.course a) + x.choice

-- that label, where there is such a choice
abbrev pub label_of : List ℕ → Side → Option ℕ
label_of a x = if there a x then Some (label a x) else None

-- the pairing joins choices of two different courses
abbrev pub named : List ℕ → Pairing → Bool
named a p = there a p.one && (there a p.other && not (p.one.course == p.other.course))

-- how many pairs n labels make
abbrev pub pairs_among : ℕ → ℕ
pairs_among n = n * (n - 1) / 2

-- the pair number of the labels u < v
abbrev pub ordered : (u v : ℕ) → ℕ
ordered u v = pairs_among v + u

-- the pair number of two labels, in either order
abbrev pub between : (u v : ℕ) → ℕ
between u v = if nat_lt u v then ordered u v else ordered v u

-- the pair number of a pairing
abbrev pub pair_number : List ℕ → Pairing → ℕ
pair_number a p = between (label a p.one) (label a p.other)

-- that number, where the pairing joins choices of two different courses
abbrev pub pair_of : List ℕ → Pairing → Option ℕ
pair_of a p = if named a p then Some (pair_number a p) else None

-- how many pair numbers there are
abbrev pub pair_count : List ℕ → ℕ
pair_count a = pairs_among (sum a)

-- the widest shape: 24 courses of 8 choices
abbrev pub widest : List ℕ
widest = replicate 24 8

-- no other choice has the label of this one
abbrev pub OneLabel : List ℕ → Side → Type 0
OneLabel a x = (y : Side) → y.choice < slice_index a y.course → label a y ≡ label a x → y ≡ x

-- a pairing has the number of p exactly where it is p
abbrev pub OnePair : List ℕ → Pairing → Type 0
OnePair a p = (q : Pairing) → named a q ≡ true → (pair_number a p == pair_number a q) ≡ same p q
