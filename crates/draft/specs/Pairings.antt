-- Pairings by their numbers, and from their other side.
use Rattle.std.specs.Prelude.{ℕ, Bool, ◌&&◌, ◌||◌, ◌==◌}
use Rattle.draft.specs.declared.pairing.Pairing.{Pairing}
use Rattle.draft.specs.declared.pairing.Side.{Side}

-- the pairing (i,b)-(j,c)
abbrev pub pairing_of : (i b j c : ℕ) → Pairing
pairing_of i b j c = record { one = record { course = i; choice = b }; other = record { course = j; choice = c } }

-- a pairing, named from its other side
abbrev pub mirrored : Pairing → Pairing
mirrored p = record { one = p.other; other = p.one }

-- two sides are one choice of one course
abbrev pub same_side : Side → Side → Bool
same_side x y = x.course == y.course && x.choice == y.choice

-- two pairings are one, named from the same side or from the other
abbrev pub same : Pairing → Pairing → Bool
same p q = (same_side p.one q.one && same_side p.other q.other) || (same_side p.one q.other && same_side p.other q.one)
