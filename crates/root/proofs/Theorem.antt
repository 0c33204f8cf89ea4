-- `root_of x` is the root of x, and the only one (`root_is`, `root_unique`), and it is above zero where x is (`root_positive`). Assumes nothing.
use Rattle.std.proofs.Common.{◌≡◌, ℕ, zero, suc, ◌*◌, ◌^◌, ◌<◌, true, false, T, sym, refl, ◌∙◌, subst, inl, inr, lt_trans, lt_irrefl, zero-lt-suc, add_comm, arith, lt→ltb}
use lib.Ieee.{Float, nan, inf, fin, binary64, fits}
use lib.Ieee.Positive.{positive}
use Rattle.number.specs.Number.{pattern_of, float}
use Rattle.rounding.proofs.Choose.{le_or_lt}
use Rattle.rounding.proofs.Pattern.{pattern}
use Rattle.rounding.proofs.Same.{same_number}
use Rattle.root.specs.Root.{units_of, root_square, root_pattern, root_of, NearestRoot, IsRoot}
use Rattle.root.proofs.Scaled.{normal, subnormal}
use Rattle.root.proofs.Nearest.{scaled_nearest}

-- ---- a finite x above zero

by_pattern : (b : ℕ) → 0 < b → b < 0x7ff0_0000_0000_0000 → NearestRoot (float b) (float (root_pattern (root_square (float b))))
by_pattern b p h = elim (le_or_lt (2 ^ 52) b) [ inl k ↦ scaled_nearest (float b) _ _ (normal b k h) | inr k ↦ scaled_nearest (float b) _ _ (subnormal b p k) ]

nearest : (x : Float) → T (fits binary64 x) → T (positive x) → NearestRoot x (float (root_pattern (root_square x)))
nearest x f p =
    let w = pattern x f p in
    subst (λ (z : Float). NearestRoot z (float (root_pattern (root_square z)))) w.is (by_pattern (pattern_of x) w.some w.below)

not_below_lem : (x r q : Float) → T (fits binary64 r) → T (fits binary64 q) → NearestRoot x r → NearestRoot x q → units_of r < units_of q → ⊥
not_below_lem x r q f g h k l =
    lt_irrefl (4 * root_square x)
    (lt_trans (subst (λ (z : ℕ). 4 * root_square x < z * z) (add_comm (units_of q) (units_of r)) (h.above q g k.above_zero l)) (k.below r f h.above_zero l))

nearest_unique : (x r q : Float) → T (fits binary64 r) → T (fits binary64 q) → NearestRoot x r → NearestRoot x q → r ≡ q
nearest_unique x r q f g h k =
    same_number r q f g h.above_zero k.above_zero (same (units_of r) (units_of q) (not_below_lem x r q f g h k) (not_below_lem x q r g f k h))
  where
    same : (a b : ℕ) → (a < b → ⊥) → (b < a → ⊥) → a ≡ b
    same a b p q = omega arith

-- ---- each x

pub root_is : (x : Float) → T (fits binary64 x) → IsRoot x (root_of x)
unfolding IsRoot root_of
root_is nan f = refl
root_is (inf true) f = refl
root_is (inf false) f = refl
root_is (fin s zero e) f = refl
root_is (fin true (suc m) e) f = refl
root_is (fin false (suc m) e) f = nearest (fin false (suc m) e) f (lt→ltb 0 (suc m) (zero-lt-suc m))

pub both : (x r : Float) → T (fits binary64 x) → r ≡ root_of x → (r ≡ root_of x) × IsRoot x r
both x r f e = (e, subst (λ (z : Float). IsRoot x z) (sym e) (root_is x f))

pub root_unique : (x r q : Float) → T (fits binary64 x) → T (fits binary64 r) → T (fits binary64 q) → IsRoot x r → IsRoot x q → r ≡ q
unfolding IsRoot
root_unique nan r q e f g h k = h ∙ sym k
root_unique (inf true) r q e f g h k = h ∙ sym k
root_unique (inf false) r q e f g h k = h ∙ sym k
root_unique (fin s zero d) r q e f g h k = h ∙ sym k
root_unique (fin true (suc m) d) r q e f g h k = h ∙ sym k
root_unique (fin false (suc m) d) r q e f g h k = nearest_unique (fin false (suc m) d) r q f g h k

-- what `root_of` is of a finite x above zero
pub root_above_zero : (x : Float) → T (positive x) → root_of x ≡ float (root_pattern (root_square x))
unfolding root_of
root_above_zero nan p = absurd p
root_above_zero (inf s) p = absurd p
root_above_zero (fin true m e) p = absurd p
root_above_zero (fin false zero e) p = absurd p
root_above_zero (fin false (suc m) e) p = refl

pub root_positive : (x : Float) → T (fits binary64 x) → T (positive x) → T (positive (root_of x))
root_positive x f p = subst (λ (z : Float). T (positive z)) (sym (root_above_zero x p)) (nearest x f p).above_zero
