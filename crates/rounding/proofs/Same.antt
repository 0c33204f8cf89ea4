-- Two numbers of binary64 above zero that have the same size in units are the same. Assumes nothing.
use mathlib.Core.Path.{◌≡◌, sym, ap, ◌∙◌}
use mathlib.Core.Bool.{true, false}
use Prim.Native.Nat.{ℕ, ◌+◌, ◌-◌, ◌*◌, ◌/◌, ◌^◌}
use native.Mathlib.Nat.{zero-add}
use lib.Dec.{T}
use lib.Ieee.{Float, nan, inf, fin, binary64, size, fits, of_bits, to_bits}
use lib.Ieee.Bits.{of_bits-to_bits}
use lib.Ieee.Positive.{positive}
use Rattle.rounding.specs.Units.{in_units}

-- the pattern of n units
abbrev pattern_at : ℕ → ℕ
pattern_at n = (size n - 53) * 2 ^ 52 + n / 2 ^ (size n - 53)

pattern_at_lem : (x : Float) → T (positive x) → to_bits binary64 x ≡ pattern_at (in_units binary64 x)
unfolding to_bits in_units
pattern_at_lem nan p = absurd p
pattern_at_lem (inf s) p = absurd p
pattern_at_lem (fin true m e) p = absurd p
pattern_at_lem (fin false m e) p = simp zero-add

pub same_number : (x y : Float) → T (fits binary64 x) → T (fits binary64 y) → T (positive x) → T (positive y) → in_units binary64 x ≡ in_units binary64 y → x ≡ y
same_number x y f g p q e =
    sym (of_bits-to_bits binary64 x f) ∙ ap (of_bits binary64) (pattern_at_lem x p ∙ ap pattern_at e ∙ sym (pattern_at_lem y q)) ∙ of_bits-to_bits binary64 y g
