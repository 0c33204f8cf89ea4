-- A number as a whole number of units of its format's smallest value: at binary64 a unit is 2 ^ -1074, and one is 2 ^ 1074 units.
-- After document 01, "How much a contract says".
use Rattle.std.specs.Prelude.{◌≡◌, ℕ, ◌*◌, ◌/◌, ◌^◌, T, Float}
use Rattle.std.specs.Float.{nan, inf, fin, Format}
use Rattle.std.specs.Float.Ieee.{low, up, down}

-- the size in units; every finite number of the format is a whole number of them. A NaN and the infinities count 0.
unfoldable pub in_units : Format → Float → ℕ
in_units f nan = 0
in_units f (inf s) = 0
in_units f (fin s m e) = m * up e * 2 ^ low f / down e

-- x is finite, not below zero, and n units; -0 counts as zero
abbrev pub IsUnits : Format → Float → ℕ → Type 0
IsUnits f nan n = ⊥
IsUnits f (inf s) n = ⊥
IsUnits f (fin s m e) n = (T s → m ≡ 0) × (m * up e * 2 ^ low f ≡ n * down e)
