-- Numbers not below zero, a NaN counted among them: sums, products, quotients by a number above zero and exponentials are such numbers. Assumes nothing.
use mathlib.Core.Path.{◌≡◌, refl, subst, sym}
use mathlib.Core.Bool.{Bool, true, false, not, ◌||◌}
use Prim.Native.Nat.{ℕ, zero, suc, ◌+◌, ◌*◌, ◌≤◌, ◌<◌, zero-le}
use native.Mathlib.Nat.{zero-mul}
use native.Mathlib.Omega.{arith}
use borrow.Author.Tests.{le-ltb}
use lib.Dec.{T}
use lib.Ieee.{Float, nan, inf, fin, binary64, add, mul, div, le, lt, up, down, fits, is_nan, of_bits}
use lib.Ieee.Fits.{and_i}
use Rattle.number.specs.Number.{◌⊕◌, ◌⊗◌, ◌⊘◌, zero⁺}
use Rattle.number.specs.Sums.{sum_up}
use Rattle.rounding.specs.Sums.{not_below}
use Rattle.rounding.proofs.Signed.{sign_of_nonneg}
use Rattle.rounding.proofs.Order.{not_lt→le}
use Rattle.rounding.proofs.Signs.{add_nonneg, mul_nonneg, div_nonneg}
use Rattle.exp.specs.Exp.{exp_of}
use Rattle.exp.proofs.Signed.{exp_nan, exp_nonneg}
use Rattle.promises.specs.Demand.{NotBelow}

-- ---- both ways of saying it

-- unless a NaN, x is at least zero
pub at_least : (x : Float) → NotBelow x → T (not (is_nan x)) → T (le zero⁺ x)
unfolding of_bits is_nan
at_least x h v = not_lt→le x zero⁺ v tt (subst (λ (b : Bool). T (not b)) (sym h) tt)

pub not_below_lem : (x : Float) → (T (not (is_nan x)) → T (le zero⁺ x)) → NotBelow x
unfolding lt is_nan of_bits
not_below_lem nan h = refl
not_below_lem (inf true) h = absurd (unfold le in h tt)
not_below_lem (inf false) h = refl
not_below_lem (fin s m e) h = go s (sign_of_nonneg s m e (h tt))
  where
    none : (m u d : ℕ) → m ≡ 0 → 0 * d ≡ 0 → m * u * 1 + 0 * d ≤ 0
    none m u d z e = rw (z, zero-mul u) (omega arith)

    go : (s : Bool) → (T s → m ≡ 0) → lt (fin s m e) zero⁺ ≡ false
    go true z = le-ltb 0 (m * up e * 1 + 0 * down e) (none m (up e) (down e) (z tt) (zero-mul (down e)))
    go false z = le-ltb (m * up e * 1) (0 * down e) (rw (zero-mul (down e)) zero-le)

-- as the laws on sums have it, of a number of the format
pub as_weight : (x : Float) → T (fits binary64 x) → NotBelow x → T (not_below binary64 x)
as_weight x f h = and_i (fits binary64 x) (le zero⁺ x || is_nan x) f (go (is_nan x) (at_least x h))
  where
    go : (b : Bool) → (T (not b) → T (le zero⁺ x)) → T (le zero⁺ x || b)
    go true l = right (le zero⁺ x)
      where
        right : (a : Bool) → T (a || true)
        right true = tt
        right false = tt
    go false l = left (le zero⁺ x) (l tt)
      where
        left : (a : Bool) → T a → T (a || false)
        left true t = tt
        left false t = absurd t

-- ---- the operations: a NaN goes through them, so that a result that is none has parts that are none

abbrev Numbers : Float → Float → Type 0
Numbers x y = T (not (is_nan x)) × T (not (is_nan y))

sum_parts : (x y : Float) → T (not (is_nan (x ⊕ y))) → Numbers x y
unfolding add is_nan
sum_parts nan y v = absurd v
sum_parts (inf s) nan v = absurd v
sum_parts (inf s) (inf t) v = (tt, tt)
sum_parts (inf s) (fin t n d) v = (tt, tt)
sum_parts (fin s m e) nan v = absurd v
sum_parts (fin s m e) (inf t) v = (tt, tt)
sum_parts (fin s m e) (fin t n d) v = (tt, tt)

product_parts : (x y : Float) → T (not (is_nan (x ⊗ y))) → Numbers x y
unfolding mul is_nan
product_parts nan y v = absurd v
product_parts (inf s) nan v = absurd v
product_parts (inf s) (inf t) v = (tt, tt)
product_parts (inf s) (fin t n d) v = (tt, tt)
product_parts (fin s m e) nan v = absurd v
product_parts (fin s m e) (inf t) v = (tt, tt)
product_parts (fin s m e) (fin t n d) v = (tt, tt)

dividend : (x y : Float) → T (not (is_nan (x ⊘ y))) → T (not (is_nan x))
unfolding div is_nan
dividend nan y v = absurd v
dividend (inf s) y v = tt
dividend (fin s m e) y v = tt

pub sum_not_below : (x y : Float) → NotBelow x → NotBelow y → NotBelow (x ⊕ y)
sum_not_below x y h k = not_below_lem (x ⊕ y) (λ v. let w = sum_parts x y v in add_nonneg binary64 x y (at_least x h w.0) (at_least y k w.1))

pub product_not_below : (x y : Float) → NotBelow x → NotBelow y → NotBelow (x ⊗ y)
product_not_below x y h k = not_below_lem (x ⊗ y) (λ v. let w = product_parts x y v in mul_nonneg binary64 x y (at_least x h w.0) (at_least y k w.1) v)

pub quotient_not_below : (x y : Float) → NotBelow x → T (lt zero⁺ y) → NotBelow (x ⊘ y)
quotient_not_below x y h k = not_below_lem (x ⊘ y) (λ v. div_nonneg binary64 x y (at_least x h (dividend x y v)) k v)

zero_not_below : NotBelow zero⁺
unfolding lt of_bits
zero_not_below = refl

pub sums_not_below : (f : ℕ → Float) (n : ℕ) → ((i : ℕ) → i < n → NotBelow (f i)) → NotBelow (sum_up f n)
unfolding sum_up
sums_not_below f zero h = zero_not_below
sums_not_below f (suc n) h = sum_not_below (sum_up f n) (f n) (sums_not_below f n (λ i l. h i (omega arith))) (h n (omega arith))

-- ---- the exponential

pub exp_not_below : (x : Float) → T (fits binary64 x) → NotBelow (exp_of x)
unfolding is_nan lt
exp_not_below nan f = subst NotBelow (sym exp_nan) refl
exp_not_below (inf s) f = not_below_lem (exp_of (inf s)) (λ _. exp_nonneg (inf s) f tt)
exp_not_below (fin s m e) f = not_below_lem (exp_of (fin s m e)) (λ _. exp_nonneg (fin s m e) f tt)
