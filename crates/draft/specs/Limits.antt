-- The limits of a shape, over the list of its choice counts.
use Rattle.std.specs.Prelude.{ℕ, ◌<◌, ◌≤◌, List, length, slice_index}

-- 2 to 24 courses, each with 1 to 8 choices
abbrev pub Limits : List ℕ → Type 0
Limits a = (2 ≤ length a) × (length a ≤ 24) × ((k : ℕ) → k < length a → (1 ≤ slice_index a k) × (slice_index a k ≤ 8))
