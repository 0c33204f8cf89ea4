-- Values of a function, as a list of bit patterns: an argument and what the function gives for it. Every NaN has the pattern 7FF8000000000000.
use Prim.Native.Nat.{ℕ}
use mathlib.Core.Bool.{Bool, true, ◌&&◌}
use mathlib.Core.List.{List, [], ◌∷◌}
use lib.Dec.{eqb}
use lib.Ieee.{Float}
use Rattle.number.specs.Number.{pattern_of, float}

infix 75 ◌gives◌
-- an argument and its value
pub record Value : Type 0 where
  pub argument : ℕ
  pub value : ℕ

abbrev pub ◌gives◌ : ℕ → ℕ → Value
◌gives◌ x y = record { argument = x; value = y }

-- f has all these values
abbrev pub agrees : (Float → Float) → List Value → Bool
agrees f [] = true
agrees f (v ∷ vs) = eqb (pattern_of (f (float v.argument))) v.value && agrees f vs
