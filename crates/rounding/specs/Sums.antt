-- Weights, their float sum upward from positive zero, and their exact sum in units; sums of whole numbers.
-- After document 01, "The steps": "Sums start at positive zero and run upward".
use Rattle.std.specs.Prelude.{Bool, true, ◌&&◌, ◌||◌, List, [], ◌∷◌, ℕ, zero, suc, ◌+◌, Float}
use Rattle.std.specs.Float.{Format}
use Rattle.std.specs.Float.Ieee.{add, le, fits, is_nan}
use Rattle.std.specs.Float.Ieee.Scale.{finite}
use Rattle.number.specs.Number.{zero⁺}
use Rattle.rounding.specs.Units.{in_units}

-- a number of the format that is finite and not below zero
abbrev pub good : Format → Float → Bool
good f x = fits f x && finite x && le zero⁺ x

-- one of the format that is not below zero, an infinity included, or a NaN
abbrev pub not_below : Format → Float → Bool
not_below f x = fits f x && (le zero⁺ x || is_nan x)

-- the test holds of every number of the list
abbrev pub every : (Float → Bool) → List Float → Bool
every test [] = true
every test (x ∷ xs) = test x && every test xs

-- a + x_0 + x_1 + .., each addition rounded
abbrev pub sum_from : Format → Float → List Float → Float
sum_from f a [] = a
sum_from f a (x ∷ xs) = sum_from f (add f a x) xs

-- +0 + x_0 + x_1 + ..
abbrev pub total : Format → List Float → Float
total f xs = sum_from f zero⁺ xs

-- the exact sum, in units
abbrev pub exact_sum : Format → List Float → ℕ
exact_sum f [] = 0
exact_sum f (x ∷ xs) = in_units f x + exact_sum f xs

-- g 0 + g 1 + .. + g (n - 1)
abbrev pub sum_to : (ℕ → ℕ) → ℕ → ℕ
sum_to g zero = 0
sum_to g (suc n) = sum_to g n + g n
