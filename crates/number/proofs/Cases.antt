-- What std's words `abs` and `is_finite` say of a number, and document 01's cases of max. Assumes nothing.
use Rattle.std.specs.Float.{float_with_sign, float_is_finite}
use mathlib.Core.Path.{◌≡◌, refl}
use mathlib.Core.Bool.{true, false}
use lib.IntN.{pos}
use lib.Ieee.{Float, nan, inf, fin, add, lt, eq, is_nan, of_bits}
use lib.Ieee.Scale.{finite}
use Rattle.number.specs.Number.{zero⁺, ◌⊕◌, magnitude_of, max_of}

pub is_nan_lem : (x : Float) → is_nan x ≡ true → nan ≡ x
unfolding is_nan
is_nan_lem nan h = refl
is_nan_lem (inf s) h = cc
is_nan_lem (fin s m e) h = cc

-- ---- std's words for a magnitude and for what is finite

pub magnitude_is : (x : Float) → float_with_sign false x ≡ magnitude_of x
unfolding float_with_sign magnitude_of
magnitude_is nan = refl
magnitude_is (inf s) = refl
magnitude_is (fin s m e) = refl

pub finite_is : (x : Float) → float_is_finite x ≡ finite x
unfolding float_is_finite
finite_is nan = refl
finite_is (inf s) = refl
finite_is (fin s m e) = refl

-- ---- max: which of the definition's lines applies

pub equal_zeros : (x y : Float) → is_nan x ≡ false → is_nan y ≡ false → lt x y ≡ false → lt y x ≡ false → eq x zero⁺ ≡ true → x ⊕ y ≡ max_of x y
unfolding max_of
equal_zeros x y a b c d e = rw (a, b, c, d, e)

-- document 01's cases, as values
pub max_of_zeros : (max_of (fin true 0 (pos 0)) zero⁺ ≡ zero⁺) × (max_of zero⁺ (fin true 0 (pos 0)) ≡ zero⁺)
unfolding max_of is_nan lt eq add of_bits
max_of_zeros = (refl, refl)

pub max_of_nan : (y : Float) → max_of nan y ≡ y
unfolding max_of is_nan
max_of_nan y = refl

pub max_with_nan : (x : Float) → max_of x nan ≡ x
unfolding max_of is_nan
max_with_nan nan = refl
max_with_nan (inf s) = refl
max_with_nan (fin s m e) = refl
