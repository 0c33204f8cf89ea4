-- Signs: the sign of a number, and the order of ±a and ±b for whole numbers a and b.
use Rattle.std.specs.Prelude.{◌≡◌, Bool, true, false, ℕ, ◌+◌, ◌≤◌, Float}
use Rattle.std.specs.Float.{nan, inf, fin}

-- x is no NaN and its sign is s, a zero's and an infinity's too
abbrev pub Signed : Bool → Float → Type 0
Signed s nan = ⊥
Signed s (inf t) = t ≡ s
Signed s (fin t m e) = t ≡ s

-- what ±a has above zero
abbrev pub plus_part : Bool → ℕ → ℕ
plus_part true a = 0
plus_part false a = a

-- what ±a has below zero
abbrev pub minus_part : Bool → ℕ → ℕ
minus_part true a = a
minus_part false a = 0

-- ±a ≤ ±b
abbrev pub AtMost : Bool → ℕ → Bool → ℕ → Type 0
AtMost s a t b = plus_part s a + minus_part t b ≤ plus_part t b + minus_part s a
