-- Packed: a draft in bytes, one bit for each pair number, most significant bit first.
--
--   packed_draft  the pairings of the shape whose bit is 1
--   packed_bytes  how many bytes these bits take
--   Cleared       a pairing's bit is 0, and every other bit and byte is as it was
--   Spare         no pairing has that bit
--   PackedFrame   what strikes leave: the shape, the loan, every spare bit, every byte past the bits
--   Room          what the opening answers
use Rattle.std.specs.Prelude.{◌≡◌, ℕ, ◌+◌, ◌/◌, ◌<◌, ◌≤◌, true, false, List, length, Ok, Err, Option, Result, ◌≢◌, slice_index}
use Rattle.bits.specs.Bits.{bit, is_set}
use Rattle.draft.specs.Drafts.{Draft, whole, restrict}
use Rattle.draft.specs.Labels.{named, pair_number, pair_count}
use Rattle.draft.specs.declared.pairing.Pairing.{Pairing}
use Rattle.draft.specs.declared.refusal.Refusal.{Refusal}
use Rattle.draft.specs.declared.refusal.Refusal.TheVariants.{Memory}
use Rattle.stores.specs.Marks.{Made}

-- the draft of the shape with the counts a: the pairings whose bit is 1
abbrev pub packed_draft : List ℕ → List ℕ → Draft
packed_draft a bytes = restrict (whole a) (λ p. is_set bytes (pair_number a p))

-- the bytes that a bit for each pair number takes
abbrev pub packed_bytes : List ℕ → ℕ
packed_bytes a = (pair_count a + 7) / 8

-- ys is xs with the bit of a pairing's number made 0; where there is no such pairing, ys is xs
abbrev pub Cleared : Option ℕ → List ℕ → List ℕ → Type 0
Cleared = Made false

-- bit q is no pairing's
abbrev pub Spare : List ℕ → ℕ → Type 0
Spare a q = (p : Pairing) → named a p ≡ true → pair_number a p ≢ q

-- two states with the counts a and b, of bytes lent under the names m and n that hold xs and ys
pub record PackedFrame (a : List ℕ) (m : ℕ) (xs : List ℕ) (b : List ℕ) (n : ℕ) (ys : List ℕ) : Type 0 where
  pub shape : a ≡ b
  pub loan : m ≡ n
  pub size : length xs ≡ length ys
  pub spare : (q : ℕ) → Spare a q → bit xs q ≡ bit ys q
  pub past : (k : ℕ) → packed_bytes a ≤ k → slice_index xs k ≡ slice_index ys k

-- the opening takes size bytes where they suffice for the counts a, and refuses them with 8 where not
abbrev pub Room : {U : Type 0} → List ℕ → ℕ → Result U Refusal → Type 0
Room a size (Ok _) = packed_bytes a ≤ size
Room a size (Err e) = (size < packed_bytes a) × (e ≡ Memory)
