-- The order of numbers, of both signs and with the infinities: `le` is transitive, and total where no NaN stands (-0 and +0 are equal in it);
-- `neg` turns it round; and what a test `x < y` says. For a comparison or a running maximum. Assumes nothing.
use mathlib.Core.Logic.{◌⊎◌, inl, inr}
use mathlib.Core.Bool.{Bool, true, false, not}
use Prim.Native.Nat.{ℕ, ◌+◌, ◌*◌, ◌≤◌, ◌<◌, zero-le}
use native.Mathlib.Nat.{mul-le-mul_right, le_of_mul-le-mul_right}
use native.Mathlib.Omega.{arith}
use lib.Dec.{T, nltb→le}
use lib.Ieee.{Float, nan, inf, fin, up, down, neg, below, lt, le, is_nan}
use lib.Ieee.Bits.{is_true}
use lib.Ieee.Fits.{down_pos}
use Rattle.rounding.specs.Signed.{plus_part, minus_part, AtMost}
use Rattle.rounding.proofs.Signed.{plus_scale, minus_scale, tests→at_most, at_most→tests}

-- -∞ ≤ x, unless x is a NaN
pub lowest : (x : Float) → T (not (is_nan x)) → T (le (inf true) x)
unfolding le is_nan
lowest nan h = absurd h
lowest (inf true) h = tt
lowest (inf false) h = tt
lowest (fin s m e) h = tt

-- x ≤ ∞, unless x is a NaN
pub highest : (x : Float) → T (not (is_nan x)) → T (le x (inf false))
unfolding le is_nan
highest nan h = absurd h
highest (inf true) h = tt
highest (inf false) h = tt
highest (fin s m e) h = tt

-- a NaN is in no order
no_nan : (x y : Float) → T (le x y) → T (not (is_nan y))
unfolding le is_nan
no_nan nan nan h = h
no_nan (inf s) nan h = h
no_nan (fin s m e) nan h = h
no_nan x (inf t) h = tt
no_nan x (fin t n d) h = tt

-- ±a / p ≤ ±b / q ≤ ±c / r
through_signed : (s : Bool) (a p : ℕ) (t : Bool) (b q : ℕ) (u : Bool) (c r : ℕ) → 0 < q → AtMost s (a * q) t (b * p) → AtMost t (b * r) u (c * q) → AtMost s (a * r) u (c * p)
through_signed s a p t b q u c r Q h k =
    rw (plus_scale s a r, minus_scale u c p, plus_scale u c p, minus_scale s a r)
    (go (plus_part s a) (minus_part s a) (plus_part t b) (minus_part t b) (plus_part u c) (minus_part u c)
    (rw (plus_scale s a q, minus_scale t b p, plus_scale t b p, minus_scale s a q) at h)
    (rw (plus_scale t b r, minus_scale u c q, plus_scale u c q, minus_scale t b r) at k))
  where
    go : (px nx py ny pz nz : ℕ) → px * q + ny * p ≤ py * p + nx * q → py * r + nz * q ≤ pz * q + ny * r → px * r + nz * p ≤ pz * p + nx * r
    go px nx py ny pz nz h k =
        let x = mul-le-mul_right r h in
        let y = mul-le-mul_right p k in
        le_of_mul-le-mul_right {k = q} (omega (arith, x, y)) Q

-- x ≤ y and y ≤ z give x ≤ z
pub le_trans_float : (x y z : Float) → T (le x y) → T (le y z) → T (le x z)
unfolding le
le_trans_float nan y z h k = absurd h
le_trans_float (inf true) y z h k = lowest z (no_nan y z k)
le_trans_float (inf false) nan z h k = absurd h
le_trans_float (inf false) (inf true) z h k = absurd h
le_trans_float (inf false) (inf false) z h k = k
le_trans_float (inf false) (fin t n d) z h k = absurd h
le_trans_float (fin s m e) nan z h k = absurd h
le_trans_float (fin s m e) (inf true) z h k = absurd h
le_trans_float (fin s m e) (inf false) nan h k = absurd k
le_trans_float (fin s m e) (inf false) (inf true) h k = absurd k
le_trans_float (fin s m e) (inf false) (inf false) h k = tt
le_trans_float (fin s m e) (inf false) (fin u o g) h k = absurd k
le_trans_float (fin s m e) (fin t n d) nan h k = absurd k
le_trans_float (fin s m e) (fin t n d) (inf true) h k = absurd k
le_trans_float (fin s m e) (fin t n d) (inf false) h k = tt
le_trans_float (fin s m e) (fin t n d) (fin u o g) h k =
    at_most→tests s (m * up e * down g) u (o * up g * down e)
    (through_signed s (m * up e) (down e) t (n * up d) (down d) u (o * up g) (down g) (down_pos d)
    (tests→at_most s (m * up e * down d) t (n * up d * down e) h) (tests→at_most t (n * up d * down g) u (o * up g * down d) k))

-- x < y gives x ≤ y
pub lt→le : (x y : Float) → T (lt x y) → T (le x y)
unfolding le
lt→le x y h = rw (is_true (lt x y) h) tt

-- where x < y fails and neither is a NaN, y ≤ x
pub not_lt→le : (x y : Float) → T (not (is_nan x)) → T (not (is_nan y)) → T (not (lt x y)) → T (le y x)
unfolding le is_nan
not_lt→le nan y p q h = absurd p
not_lt→le (inf s) nan p q h = absurd q
not_lt→le (fin s m e) nan p q h = absurd q
not_lt→le (inf true) (inf true) p q h = tt
not_lt→le (inf true) (inf false) p q h = absurd h
not_lt→le (inf false) (inf true) p q h = tt
not_lt→le (inf false) (inf false) p q h = tt
not_lt→le (inf true) (fin t n d) p q h = absurd h
not_lt→le (inf false) (fin t n d) p q h = tt
not_lt→le (fin s m e) (inf true) p q h = tt
not_lt→le (fin s m e) (inf false) p q h = absurd h
not_lt→le (fin s m e) (fin t n d) p q h = at_most→tests t (n * up d * down e) s (m * up e * down d) (go s (m * up e * down d) t (n * up d * down e) h)
  where
    go : (s : Bool) (a : ℕ) (t : Bool) (b : ℕ) → T (not (below s a t b)) → AtMost t b s a
    go true a true b h = omega (arith, nltb→le b a h)
    go true a false b h = omega (arith, nltb→le 0 (a + b) h)
    go false a true b h = zero-le
    go false a false b h = omega (arith, nltb→le a b h)

-- of two that are no NaN, one is at most the other; nothing here uses it yet: the most likely course of labels, a later request, needs a largest number
pub le_total_float : (x y : Float) → T (not (is_nan x)) → T (not (is_nan y)) → T (le x y) ⊎ T (le y x)
le_total_float x y p q = go (lt x y) (lt→le x y) (not_lt→le x y p q)
  where
    go : (b : Bool) → (T b → T (le x y)) → (T (not b) → T (le y x)) → T (le x y) ⊎ T (le y x)
    go true h k = inl (h tt)
    go false h k = inr (k tt)

flip : (s : Bool) (a : ℕ) (t : Bool) (b : ℕ) → AtMost s a t b → AtMost (not t) b (not s) a
flip true a true b h = omega arith
flip true a false b h = zero-le
flip false a true b h = omega arith
flip false a false b h = omega arith

-- x ≤ y gives -y ≤ -x
pub le_neg : (x y : Float) → T (le x y) → T (le (neg y) (neg x))
unfolding le neg
le_neg nan y h = absurd h
le_neg (inf s) nan h = absurd h
le_neg (inf true) (inf true) h = tt
le_neg (inf true) (inf false) h = tt
le_neg (inf false) (inf true) h = absurd h
le_neg (inf false) (inf false) h = tt
le_neg (inf true) (fin t n d) h = tt
le_neg (inf false) (fin t n d) h = absurd h
le_neg (fin s m e) nan h = absurd h
le_neg (fin s m e) (inf true) h = absurd h
le_neg (fin s m e) (inf false) h = tt
le_neg (fin s m e) (fin t n d) h =
    at_most→tests (not t) (n * up d * down e) (not s) (m * up e * down d) (flip s (m * up e * down d) t (n * up d * down e) (tests→at_most s (m * up e * down d) t (n * up d * down e) h))
