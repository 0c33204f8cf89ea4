-- Good numbers divided by one number: each quotient is good, and how far it is from the exact one; the same of the exact sum of the quotients.
-- P = 2 ^ prec f; U = 2 ^ low f is one, in units. Assumes nothing.
use mathlib.Core.Path.{◌≡◌, sym, ap, ◌∙◌}
use mathlib.Core.Bool.{Bool, true, false}
use mathlib.Core.List.{List, [], ◌∷◌}
use Prim.Native.Nat.{ℕ, suc, ◌+◌, ◌-◌, ◌*◌, ◌^◌, ◌≤◌, ◌<◌, zero-le}
use native.Mathlib.Nat.{le_trans, le_of_eq, lt_of_lt_of_le, le-add_right, mul-le-mul_left, mul-le-mul_right, mul-pos, le_of_mul-le-mul_left, le_of_mul-le-mul_right, eq_of_mul-eq-mul_right}
use native.Mathlib.Omega.{arith}
use lib.Dec.{T, ltb→lt, lit≤}
use lib.ListN.{length}
use lib.Pow.{pow_pos, pow-add, pow_mono}
use lib.Ieee.{Float, nan, inf, fin, Format, binary32, binary64, prec, emax, low, up, down, round, div, lt}
use lib.Ieee.Exact.{HasValue}
use lib.Ieee.Fits.{up_pos, down_pos, and_i, and_l, and_r, div-fits}
use lib.Ieee.Positive.{positive_of_value}
use lib.Ieee.Scale.{grid, overflow, finite, round_same, round_val}
use Rattle.number.specs.Number.{zero⁺}
use Rattle.rounding.specs.Units.{in_units, IsUnits}
use Rattle.rounding.specs.Bounds.{Near}
use Rattle.rounding.specs.Sums.{good, every, total, exact_sum}
use Rattle.rounding.specs.Shares.{divided, shares}
use Rattle.rounding.proofs.Round.{round_zero}
use Rattle.rounding.proofs.Operations.{div_finite, unlike_clear}
use Rattle.rounding.proofs.Error.{rounding_error, four_le, grid_zero}
use Rattle.rounding.proofs.Units.{value→units, in_units_lem, good_units, units_good, positive_units}
use Rattle.rounding.proofs.Sums.{sum_error}

-- ---- w / d, in units

zero_units : (f : Format) (x : Float) (s : Bool) (c : ℕ) → 0 < c → HasValue x s 0 c → IsUnits f x 0
zero_units f nan s c C h = h
zero_units f (inf t) s c C h = h
zero_units f (fin t m e) s c C h = let z : m ≡ 0 = vanish (up e) (down e) (up_pos e) h.1 in (λ _. z, ap (λ (x : ℕ). x * up e * 2 ^ low f) z ∙ nothing (up e) (2 ^ low f) (down e))
  where
    vanish : (u d : ℕ) → 0 < u → m * u * c ≡ 0 * d → m ≡ 0
    vanish u d U h = omega (arith, mul-le-mul_left m (mul-pos U C))

    nothing : (u l d : ℕ) → 0 * u * l ≡ 0 * d
    nothing u l d = omega arith

-- a / c rounded, whose sign is clear or which is zero
round_units : (f : Format) (s : Bool) (a c : ℕ) → 0 < c → (T s → a ≡ 0) → grid f a c < overflow f → IsUnits f (round f s a c) (grid f a c)
round_units f false a c C h o = value→units f (round f false a c) (grid f a c) (round_val f a c o)
round_units f true a c C h o = rw (h tt, grid_zero f c C) (zero_units f (round f true 0 c) true c C (round_zero f true c C))

div_units : (f : Format) (w d : Float) (a c : ℕ) → IsUnits f w a → HasValue d false c (2 ^ low f) → 0 < c → grid f a c < overflow f → IsUnits f (div f w d) (grid f a c)
div_units f nan d a c h k C o = absurd h
div_units f (inf s) d a c h k C o = absurd h
div_units f (fin s m e) nan a c h k C o = absurd k
div_units f (fin s m e) (inf t) a c h k C o = absurd k
div_units f (fin s m e) (fin true n g) a c h k C o = absurd (positive_of_value (fin true n g) c (2 ^ low f) k C)
div_units f (fin s m e) (fin false n g) a c h k C o =
    let N : 0 < n = ltb→lt 0 n (positive_of_value (fin false n g) c (2 ^ low f) k C) in
    rw (
      div_finite f s m e false n g N,
      unlike_clear s,
      round_same f s (m * up e * down g) (n * up g * down e) a c (mul-pos (mul-pos N (up_pos g)) (down_pos e)) C (cross (m * up e) (down e) (n * up g) (down g) (2 ^ low f) (pow_pos (low f)) h.1 k.1),
    )
    (round_units f s a c C (λ t. none (up e) (down e) (2 ^ low f) (down_pos e) (h.0 t) h.1) o)
  where
    cross : (x p y q u : ℕ) → 0 < u → x * u ≡ a * p → y * u ≡ c * q → x * q * c ≡ a * (y * p)
    cross x p y q u U h k = eq_of_mul-eq-mul_right u U (x * q * c) (a * (y * p)) (omega (arith, ap (λ (z : ℕ). z * q * c) h, ap (λ (z : ℕ). a * p * z) k))

    none : (u d l : ℕ) → 0 < d → m ≡ 0 → m * u * l ≡ a * d → a ≡ 0
    none u d l D z h = omega (arith, ap (λ (x : ℕ). x * u * l) z, mul-le-mul_left a D)

-- ---- one quotient

-- 2 ^ 12 times one is below the overflow
pub room : (f : Format) → 2 ^ low f * 4096 ≤ overflow f
room f = le_trans (mul-le-mul_left (2 ^ low f) (pow_mono (wide f))) (le_of_eq (sym (pow-add 2 (low f) (suc (emax f)))))
  where
    wide : (f : Format) → 12 ≤ suc (emax f)
    wide binary32 = lit≤ tt
    wide binary64 = lit≤ tt

quotient_le : (P U a c q : ℕ) → 0 < c → 4 ≤ P → 0 < U → a ≤ 2 * c → Near (q * c * 2 + P * c) (P * (q * c) * 2) (P * (a * U) * 2) → q ≤ 4 * U
quotient_le P U a c q C h Up k n =
    let pos : 0 < P = omega arith in
    let x = mul-le-mul_right (P * U) k in
    let b : P * q * 2 ≤ P * U * 4 + q * 2 + P = le_of_mul-le-mul_right {k = c} (omega (arith, n.0, x)) C in
    let y = mul-le-mul_right q h in
    let z : q * 3 ≤ U * 8 + 2 = le_of_mul-le-mul_left {k = P} (omega (arith, b, y)) pos in
    omega (arith, z, Up)

under : (f : Format) (q : ℕ) → q ≤ 4 * 2 ^ low f → q < overflow f
under f q h = lt_of_lt_of_le (go (2 ^ low f) (pow_pos (low f)) h) (room f)
  where
    go : (U : ℕ) → 0 < U → q ≤ 4 * U → q < U * 4096
    go U p h = omega arith

-- q is good, at most 4, and 2 P |q c - a U| ≤ 2 q c + P c in units
pub record NearQuotient (f : Format) (q : Float) (a c : ℕ) : Type 0 where
  pub is_good : T (good f q)
  pub bound : in_units f q ≤ 4 * 2 ^ low f
  pub near : Near (in_units f q * c * 2 + 2 ^ prec f * c) (2 ^ prec f * (in_units f q * c) * 2) (2 ^ prec f * (a * 2 ^ low f) * 2)

-- so is w / d, for w and d good, 0 < d and w ≤ 2 d
pub quotient_error : (f : Format) (w d : Float) → T (good f w) → T (good f d) → T (lt zero⁺ d) → in_units f w ≤ 2 * in_units f d → NearQuotient f (div f w d) (in_units f w) (in_units f d)
quotient_error f w d g k p h =
    let a = in_units f w in
    let c = in_units f d in
    let v = positive_units f d k p in
    let q = grid f a c in
    let b : q ≤ 4 * 2 ^ low f = quotient_le (2 ^ prec f) (2 ^ low f) a c q v.1 (four_le f) (pow_pos (low f)) h (rounding_error f a c v.1) in
    let u : IsUnits f (div f w d) q = div_units f w d a c (good_units f w g) v.0 v.1 (under f q b) in
    let e : in_units f (div f w d) ≡ q = in_units_lem f (div f w d) q u in
    record { is_good = units_good f (div f w d) q (div-fits f w d) u; bound = rw e b; near = rw e (rounding_error f a c v.1) }

-- ---- all of them

-- the quotients qs are good, and for their exact sum Q and m of them Q ≤ 4 m, 2 P |Q c - s U| ≤ 2 Q c + m P c in units
pub record NearQuotients (f : Format) (qs : List Float) (m s c : ℕ) : Type 0 where
  pub are_good : T (every (good f) qs)
  pub bound : exact_sum f qs ≤ m * (4 * 2 ^ low f)
  pub near : Near (exact_sum f qs * c * 2 + m * (2 ^ prec f * c)) (2 ^ prec f * (exact_sum f qs * c) * 2) (2 ^ prec f * (s * 2 ^ low f) * 2)

-- so are ws each divided by d, for ws and d good, 0 < d and an exact sum of ws of at most 2 d
pub quotients_error : (f : Format) (ws : List Float) (d : Float) → T (every (good f) ws) → T (good f d) → T (lt zero⁺ d) → exact_sum f ws ≤ 2 * in_units f d → NearQuotients f (divided f ws d) (length ws) (exact_sum f ws) (in_units f d)
quotients_error f [] d g k p h = record { are_good = tt; bound = zero-le; near = none (2 ^ prec f) (2 ^ low f) (in_units f d) }
  where
    none : (P U c : ℕ) → Near (0 * c * 2 + 0 * (P * c)) (P * (0 * c) * 2) (P * (0 * U) * 2)
    none P U c = omega arith
quotients_error f (w ∷ ws) d g k p h =
    let a = in_units f w in
    let S = exact_sum f ws in
    let c = in_units f d in
    let one = quotient_error f w d (and_l (good f w) (every (good f) ws) g) k p (le_trans (le-add_right a S) h) in
    let all = quotients_error f ws d (and_r (good f w) (every (good f) ws) g) k p (tail a S (2 * c) h) in
    let q = in_units f (div f w d) in
    let Q = exact_sum f (divided f ws d) in
    record {
      are_good = and_i (good f (div f w d)) (every (good f) (divided f ws d)) one.is_good all.are_good;
      bound = more q Q (length ws) (4 * 2 ^ low f) one.bound all.bound;
      near = both (2 ^ prec f) (2 ^ low f) c q Q (length ws) a S one.near all.near;
    }
  where
    tail : (a s b : ℕ) → a + s ≤ b → s ≤ b
    tail a s b h = omega arith

    more : (q Q m b : ℕ) → q ≤ b → Q ≤ m * b → q + Q ≤ suc m * b
    more q Q m b h k = omega arith

    both : (P U c q Q m a S : ℕ) → Near (q * c * 2 + P * c) (P * (q * c) * 2) (P * (a * U) * 2) → Near (Q * c * 2 + m * (P * c)) (P * (Q * c) * 2) (P * (S * U) * 2)
        → Near ((q + Q) * c * 2 + suc m * (P * c)) (P * ((q + Q) * c) * 2) (P * ((a + S) * U) * 2)
    both P U c q Q m a S h k = omega (arith, h, k)

-- so are m ≤ P good weights divided by their float sum, where that is finite and above zero
pub shares_error : (f : Format) (ws : List Float) → length ws ≤ 2 ^ prec f → T (every (good f) ws) → T (finite (total f ws)) → T (lt zero⁺ (total f ws)) → NearQuotients f (shares f ws) (length ws) (exact_sum f ws) (in_units f (total f ws))
shares_error f ws few g t p =
    let sum = sum_error f ws g t in
    quotients_error f ws (total f ws) g sum.is_good p (twice (2 ^ prec f) (in_units f (total f ws)) (exact_sum f ws) (length ws - 1) (pow_pos (prec f)) (less (length ws) (2 ^ prec f) few) sum.near)
  where
    less : (m P : ℕ) → m ≤ P → m - 1 ≤ P
    less m P h = omega arith

    twice : (P L S n : ℕ) → 0 < P → n ≤ P → Near (n * L) (P * L) (P * S) → S ≤ 2 * L
    twice P L S n pos h d =
        let x = mul-le-mul_right L h in
        le_of_mul-le-mul_left {k = P} (omega (arith, d.1, x)) pos
