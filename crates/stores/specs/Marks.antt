-- Bits for pairings, one for each number: in a packed draft, and in a table of marks, 1 where a pairing is struck.
--
--   unmarked   those pairings of a draft that have no mark
--   BitMade    one bit is made 1 or 0, and every other bit and byte is as it was
--   Made       the same of a pairing's number, where it has one
--   Marked     that bit is made 1
use Rattle.std.specs.Prelude.{◌≡◌, ℕ, ◌/◌, Bool, true, not, List, length, Some, None, if◌then◌else◌, Option, ◌≢◌, slice_index}
use Rattle.bits.specs.Bits.{bit, is_set}
use Rattle.draft.specs.Drafts.{Draft, restrict}
use Rattle.draft.specs.declared.pairing.Pairing.{Pairing}

-- the pairings of D that have no mark; the mark of a pairing lies at its number
abbrev pub unmarked : Draft → (number : Pairing → ℕ) → List ℕ → Draft
unmarked D number marks = restrict D (λ p. not (is_set marks (number p)))

-- ys is xs with bit n made 1 or 0; no other bit or byte changed
pub record BitMade (on : Bool) (xs ys : List ℕ) (n : ℕ) : Type 0 where
  pub size : length ys ≡ length xs
  pub here : bit ys n ≡ (if on then 1 else 0)
  pub others : (q : ℕ) → q ≢ n → bit ys q ≡ bit xs q
  pub rest : (k : ℕ) → k ≢ n / 8 → slice_index ys k ≡ slice_index xs k

-- the same of a pairing's number; where there is none, ys is xs
abbrev pub Made : Bool → Option ℕ → List ℕ → List ℕ → Type 0
Made on (Some n) xs ys = BitMade on xs ys n
Made on None xs ys = ys ≡ xs

-- ys is xs with the bit of that number made 1
abbrev pub Marked : Option ℕ → List ℕ → List ℕ → Type 0
Marked = Made true
