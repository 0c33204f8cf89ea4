-- Bounds on the size of a number by a fraction a / c, for a c above zero: a NaN and an infinity have none. And a bound on how far two whole
-- numbers are apart.
use Rattle.std.specs.Prelude.{◌≡◌, Bool, ℕ, ◌+◌, ◌*◌, ◌≤◌, Float}
use Rattle.std.specs.Float.{nan, inf, fin}
use Rattle.std.specs.Float.Ieee.{up, down}

-- finite, and at most a / c in size
abbrev pub Within : Float → ℕ → ℕ → Type 0
Within nan a c = ⊥
Within (inf s) a c = ⊥
Within (fin s m e) a c = m * up e * c ≤ a * down e

-- finite, with the sign s, and at least a / c in size
abbrev pub From : Bool → Float → ℕ → ℕ → Type 0
From s nan a c = ⊥
From s (inf t) a c = ⊥
From s (fin t m e) a c = (t ≡ s) × (a * down e ≤ m * up e * c)

-- |a - b| ≤ d
abbrev pub Near : ℕ → ℕ → ℕ → Type 0
Near d a b = (a ≤ b + d) × (b ≤ a + d)
