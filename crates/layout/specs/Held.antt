-- Fields as the numbers that bits mean: what reading and writing work with.
use Rattle.std.specs.Prelude.{◌≡◌, ℕ, ◌+◌, ◌^◌, ◌<◌, List, [], ◌∷◌}
use Rattle.bits.specs.Bits.{val}
use Rattle.layout.specs.Layout.{Field}

-- from place p on, the bytes have these fields without gaps
abbrev pub Holds : List ℕ → ℕ → List Field → Type 0
Holds s p [] = Unit {0}
Holds s p (f ∷ fs) = (val s p f.0 ≡ f.1) × Holds s (p + f.0) fs

-- the value fits the width of its field
abbrev pub Fits : Field → Type 0
Fits f = f.1 < 2 ^ f.0
