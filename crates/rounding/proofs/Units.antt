-- Numbers in units of their format's smallest value; one is U = 2 ^ low f units. A finite number of the format is a whole number of units,
-- and rounding leaves it as it is. Assumes nothing.
use mathlib.Core.Path.{◌≡◌, refl, sym, ap, ◌∙◌, subst}
use mathlib.Core.Bool.{Bool, true, false, ◌&&◌}
use Prim.Native.Nat.{ℕ, zero, suc, ◌+◌, ◌-◌, ◌*◌, ◌/◌, ◌%◌, ◌^◌, ◌≤◌, ◌<◌}
use native.Mathlib.Nat.{not-le_of_lt, lt_of_not-le, le_of_suc-le-suc, one-mul, mul-one, mul_assoc, mul-le-mul_right, mul-lt-mul_of_pos_right, lt_of_mul-lt-mul_right, mul-div_cancel, sub-add_cancel}
use native.Mathlib.Omega.{arith}
use lib.IntN.{ℤ, pos, negsuc}
use lib.Dec.{T, ltb, leb, eqb, ltb→lt, leb→le, eqb→eq}
use lib.Pow.{pow-add, pow_pos, pow-lt}
use lib.Ieee.{Float, nan, inf, fin, Format, prec, emax, low, up, down, round, le, lt, fits, of_bits}
use lib.Ieee.Exact.{HasValue, round_exact}
use lib.Ieee.Fits.{up_pos, down_pos, and_i, and_l, and_r}
use lib.Ieee.Positive.{value_pos}
use lib.Ieee.Scale.{overflow, finite}
use Rattle.number.specs.Number.{zero⁺}
use Rattle.rounding.specs.Units.{in_units, IsUnits}
use Rattle.rounding.specs.Sums.{good}
use Rattle.rounding.proofs.Signed.{sign_of_nonneg, nonneg_of_sign, positive_of_lt}

-- x = n / U, with the sign clear, is n units
pub value→units : (f : Format) (x : Float) (n : ℕ) → HasValue x false n (2 ^ low f) → IsUnits f x n
value→units f nan n h = h
value→units f (inf s) n h = h
value→units f (fin s m e) n h = (λ (t : T s). absurd (subst T h.0 t), h.1)

-- x that is n units is n by `in_units`
pub in_units_lem : (f : Format) (x : Float) (n : ℕ) → IsUnits f x n → in_units f x ≡ n
unfolding in_units
in_units_lem f nan n h = absurd h
in_units_lem f (inf s) n h = absurd h
in_units_lem f (fin s m e) n h = ap (λ (z : ℕ). z / down e) h.1 ∙ mul-div_cancel n (down_pos e)

-- ---- finite numbers of the format

-- ±m 2 ^ e is m 2 ^ place units, m < 2 ^ prec, and the units are below the overflow
pub record Placed (f : Format) (m : ℕ) (e : ℤ) : Type 0 where
  pub place : ℕ
  pub at : up e * 2 ^ low f ≡ 2 ^ place * down e
  pub digits : m < 2 ^ prec f
  pub under : m * 2 ^ place < overflow f

pow_le_back : (a l : ℕ) → 2 ^ a ≤ 2 ^ l → a ≤ l
pow_le_back a l h = le_of_suc-le-suc (lt_of_not-le (λ (g : suc l ≤ a). not-le_of_lt (pow-lt g) h))

place_of : (l : ℕ) (e : ℤ) → down e ≤ 2 ^ l → (j : ℕ) × (up e * 2 ^ l ≡ 2 ^ j * down e)
place_of l (pos k) h = (k + l, sym (pow-add 2 k l) ∙ sym (mul-one (2 ^ (k + l))))
place_of l (negsuc k) h = (l - suc k, one-mul (2 ^ l) ∙ ap (λ (x : ℕ). 2 ^ x) (sym (sub-add_cancel (pow_le_back (suc k) l h))) ∙ pow-add 2 (l - suc k) (suc k))

below_top : (m u l w d E t : ℕ) → m * u < E * d → 0 < l → u * l ≡ t * d → l * E ≡ w → m * t < w
below_top m u l w d E t h L e q =
    lt_of_mul-lt-mul_right d
    (let a = mul-lt-mul_of_pos_right h L in
    let b = ap (λ (x : ℕ). m * x) e in
    let c = ap (λ (x : ℕ). x * d) q in
    omega (arith, a, b, c))

-- so is every finite number of the format
pub placed : (f : Format) (s : Bool) (m : ℕ) (e : ℤ) → T (fits f (fin s m e)) → Placed f m e
unfolding fits
placed f s zero e t =
    let p = place_of (low f) e (small (up e) (down e) (2 ^ low f) (up_pos e) (eqb→eq (up e * down e) 1 t) (pow_pos (low f))) in
    record { place = p.0; at = p.1; digits = pow_pos (prec f); under = none (2 ^ p.0) (overflow f) (pow_pos (low f + suc (emax f))) }
  where
    small : (u d l : ℕ) → 0 < u → u * d ≡ 1 → 1 ≤ l → d ≤ l
    small u d l U e h = omega (arith, mul-le-mul_right d U)

    none : (x w : ℕ) → 0 < w → 0 * x < w
    none x w h = omega arith
placed f s (suc m) e t =
    let a : Bool = eqb (suc m % 2) 1 in
    let b : Bool = ltb (suc m) (2 ^ prec f) in
    let c : Bool = leb (down e) (2 ^ low f) in
    let d : Bool = ltb (suc m * up e) (2 ^ suc (emax f) * down e) in
    let t3 = and_l (a && b && c) d t in
    let p = place_of (low f) e (leb→le (down e) (2 ^ low f) (and_r (a && b) c t3)) in
    record {
      place = p.0;
      at = p.1;
      digits = ltb→lt (suc m) (2 ^ prec f) (and_r a b (and_l (a && b) c t3));
      under =
          below_top (suc m) (up e) (2 ^ low f) (overflow f) (down e) (2 ^ suc (emax f)) (2 ^ p.0) (ltb→lt (suc m * up e) (2 ^ suc (emax f) * down e) (and_r (a && b && c) d t)) (pow_pos (low f)) p.1
          (sym (pow-add 2 (low f) (suc (emax f))));
    }

-- ±m 2 ^ e in units, as a fraction
pub placed_units : (f : Format) (m : ℕ) (e : ℤ) (p : Placed f m e) → m * up e * 2 ^ low f ≡ m * 2 ^ p.place * down e
placed_units f m e p = mul_assoc m (up e) (2 ^ low f) ∙ ap (λ (z : ℕ). m * z) p.at ∙ sym (mul_assoc m (2 ^ p.place) (down e))

-- ---- good numbers

-- a good number is a whole number of units
pub good_units : (f : Format) (x : Float) → T (good f x) → IsUnits f x (in_units f x)
good_units f x t = go x (and_l (fits f x) (finite x) (and_l (fits f x && finite x) (le zero⁺ x) t)) (and_r (fits f x) (finite x) (and_l (fits f x && finite x) (le zero⁺ x) t)) (and_r (fits f x && finite x) (le zero⁺ x) t)
  where
    go : (x : Float) → T (fits f x) → T (finite x) → T (le zero⁺ x) → IsUnits f x (in_units f x)
    go nan a b c = absurd b
    go (inf s) a b c = absurd b
    go (fin s m e) a b c =
        let p = placed f s m e a in
        let u : IsUnits f (fin s m e) (m * 2 ^ p.place) = (sign_of_nonneg s m e c, placed_units f m e p) in
        rw (in_units_lem f (fin s m e) (m * 2 ^ p.place) u) u

-- a good number is one of the format
pub good_fits : (f : Format) (x : Float) → T (good f x) → T (fits f x)
good_fits f x t = and_l (fits f x) (finite x) (and_l (fits f x && finite x) (le zero⁺ x) t)

-- a whole number of units is finite
pub units_finite : (f : Format) (x : Float) (n : ℕ) → IsUnits f x n → T (finite x)
units_finite f nan n h = h
units_finite f (inf s) n h = h
units_finite f (fin s m e) n h = tt

-- a number of the format that is a whole number of units is good
pub units_good : (f : Format) (x : Float) (n : ℕ) → T (fits f x) → IsUnits f x n → T (good f x)
units_good f x n t h = and_i (fits f x && finite x) (le zero⁺ x) (and_i (fits f x) (finite x) t (units_finite f x n h)) (nonneg x h)
  where
    nonneg : (x : Float) → IsUnits f x n → T (le zero⁺ x)
    nonneg nan h = absurd h
    nonneg (inf s) h = absurd h
    nonneg (fin s m e) h = nonneg_of_sign s m e h.0

-- a good x with +0 < x has its sign clear and is x / U with x ≥ 1, in units
pub positive_units : (f : Format) (x : Float) → T (good f x) → T (lt zero⁺ x) → HasValue x false (in_units f x) (2 ^ low f) × (0 < in_units f x)
positive_units f x g h =
    let v = clear x h (good_units f x g) in
    (v, value_pos x (in_units f x) (2 ^ low f) (positive_of_lt x (units_finite f x (in_units f x) (good_units f x g)) h) (pow_pos (low f)) v)
  where
    clear : (x : Float) → T (lt zero⁺ x) → IsUnits f x (in_units f x) → HasValue x false (in_units f x) (2 ^ low f)
    clear nan h u = u
    clear (inf s) h u = u
    clear (fin false m e) h u = (refl, u.1)
    clear (fin true m e) h u = absurd (unfold lt of_bits in h)

-- a number of the format is rounded to itself: round (n / U) = n / U
pub round_self : (f : Format) (x : Float) (n : ℕ) → T (fits f x) → IsUnits f x n → HasValue (round f false n (2 ^ low f)) false n (2 ^ low f)
round_self f nan n t h = absurd h
round_self f (inf s) n t h = absurd h
round_self f (fin s m e) n t h =
    let p = placed f s m e t in
    let q : n ≡ m * 2 ^ p.place = sym (in_units_lem f (fin s m e) n h) ∙ in_units_lem f (fin s m e) (m * 2 ^ p.place) (h.0, placed_units f m e p) in
    round_exact f false n (2 ^ low f) m p.place (pow_pos (low f)) p.digits p.under (ap (λ (z : ℕ). z * 2 ^ low f) q)
