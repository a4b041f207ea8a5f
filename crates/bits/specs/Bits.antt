-- The bits of a list of bytes, most significant first, and the numbers that they mean.
use Rattle.std.specs.Prelude.{ℕ, zero, suc, ◌+◌, ◌-◌, ◌*◌, ◌/◌, ◌%◌, ◌^◌, ◌<◌, Bool, List, ◌==◌, slice_index}

-- bit k of the bytes: 0 or 1, and 0 past the end
abbrev pub bit : List ℕ → ℕ → ℕ
bit s k = slice_index s (k / 8) / 2 ^ (7 - k % 8) % 2

-- whether bit k is 1
abbrev pub is_set : List ℕ → ℕ → Bool
is_set s k = bit s k == 1

-- the number that the w bits from place p on mean
abbrev pub val : List ℕ → ℕ → ℕ → ℕ
val s p zero = 0
val s p (suc w) = val s p w * 2 + bit s (p + w)

-- each number is a byte
abbrev pub Bytes : List ℕ → Type 0
Bytes s = (k : ℕ) → slice_index s k < 256
