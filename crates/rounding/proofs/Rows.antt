-- Demand 3 for one row: good weights w_0 .. w_(m-1), m ≤ 256, are divided by their float sum, and the quotients summed by label.
-- Each label's float sum is good, and the exact total of the k of them is within m / 2 ^ (prec - 1) of one. Assumes nothing.
use mathlib.Core.Path.{◌≡◌, refl, sym, ap, subst}
use mathlib.Core.List.{List, [], ◌∷◌}
use Prim.Native.Nat.{ℕ, suc, ◌+◌, ◌-◌, ◌*◌, ◌^◌, ◌≤◌, ◌<◌}
use native.Mathlib.Nat.{le_trans, le_of_eq, lt_of_lt_of_le, le_of_suc-le-suc, mul-le-mul_left, mul-le-mul_right, le_of_mul-le-mul_left, le_of_mul-le-mul_right}
use native.Mathlib.Omega.{arith}
use lib.Dec.{T, lit≤}
use lib.ListN.{length, length-map}
use lib.Pow.{pow_pos, pow-add, pow_mono}
use lib.Ieee.{Float, Format, binary32, binary64, prec, low, div, lt, of_bits}
use lib.Ieee.Scale.{overflow, finite}
use Rattle.number.specs.Number.{zero⁺}
use Rattle.rounding.specs.Units.{in_units}
use Rattle.rounding.specs.Bounds.{Near}
use Rattle.rounding.specs.Sums.{good, not_below, every, total, exact_sum, sum_to}
use Rattle.rounding.specs.Shares.{shares, label_share}
use Rattle.rounding.specs.NearOne.{exact_total, unity, NearOne}
use Rattle.rounding.proofs.Units.{positive_units}
use Rattle.rounding.proofs.Sums.{sum_error, all_good}
use Rattle.rounding.proofs.Quotients.{room, shares_error}
use Rattle.rounding.proofs.Parts.{part_error, parts_error}

-- ---- the arithmetic: L is the sum of the weights, S their exact sum, Q the exact sum of the quotients, F the exact total of the k sums, and m1 is m - 1
module _ (P U L S Q F m1 : ℕ) (pos : 0 < L) (big : 2 ^ 20 ≤ P) (wide : P * 1024 ≤ U) (few : m1 ≤ 255) (a : Near (m1 * L) (P * L) (P * S))
    (b : Near (Q * L * 2 + suc m1 * (P * L)) (P * (Q * L) * 2) (P * (S * U) * 2)) (c : Near (m1 * F) (P * F) (P * Q)) where
  upper : P * Q * 2 ≤ P * U * 2 + m1 * U * 2 + Q * 2 + suc m1 * P
  upper =
      let x = mul-le-mul_right U a.1 in
      le_of_mul-le-mul_right {k = L} (omega (arith, b.0, x)) pos

  lower : P * U * 2 ≤ P * Q * 2 + m1 * U * 2 + Q * 2 + suc m1 * P
  lower =
      let x = mul-le-mul_right U a.0 in
      le_of_mul-le-mul_right {k = L} (omega (arith, b.1, x)) pos

  digits : 0 < P
  digits = lt_of_lt_of_le (pow_pos 20) big

  -- crude bounds, which pay for the terms of second order
  crude_Q : Q * 1024 ≤ U * 1025
  crude_Q =
      let x = mul-le-mul_right Q big in
      let y = mul-le-mul_right U few in
      let z = mul-le-mul_right P few in
      let t = mul-le-mul_right U big in
      let p = mul-le-mul_left P (le_trans (mul-le-mul_right 1024 big) wide) in
      le_of_mul-le-mul_left {k = P} (omega (arith, upper, x, y, z, t, p)) digits

  crude_F : F * 512 ≤ U * 513
  crude_F =
      let x = mul-le-mul_right F big in
      let y = mul-le-mul_right F few in
      let z = mul-le-mul_left P crude_Q in
      le_of_mul-le-mul_left {k = P} (omega (arith, c.0, x, y, z)) digits

  whole_near : Near (suc m1 * U * 2) (P * F) (P * U)
  whole_near =
      let x = mul-le-mul_left m1 crude_F in
      let y = mul-le-mul_right U few in
      let z = mul-le-mul_right P few in
      (omega (arith, c.0, upper, crude_Q, x, y, z, wide), omega (arith, c.1, lower, crude_Q, x, y, z, wide))

-- ---- the two formats

many_digits : (f : Format) → 2 ^ 20 ≤ 2 ^ prec f
many_digits f = pow_mono (go f)
  where
    go : (f : Format) → 20 ≤ prec f
    go binary32 = lit≤ tt
    go binary64 = lit≤ tt

many_units : (f : Format) → 2 ^ prec f * 1024 ≤ 2 ^ low f
many_units f = le_trans (le_of_eq (sym (pow-add 2 (prec f) 10))) (pow_mono (go f))
  where
    go : (f : Format) → prec f + 10 ≤ low f
    go binary32 = lit≤ tt
    go binary64 = lit≤ tt

-- ---- a row

-- every label's share is good, and P |F - U| ≤ 2 m U for their exact total F, with P = 2 ^ prec f and one U = 2 ^ low f
pub record NearRow (f : Format) (k : ℕ) (ws : List Float) : Type 0 where
  pub each : (i : ℕ) → T (good f (label_share f k ws i))
  pub near : Near (length ws * 2 ^ low f * 2) (2 ^ prec f * sum_to (λ i. in_units f (label_share f k ws i)) k) (2 ^ prec f * 2 ^ low f)

-- so it is for m ≤ 256 good weights whose float sum is finite and above zero, and for any number k of labels
pub row_error : (f : Format) (k : ℕ) (ws : List Float) → 0 < k → length ws ≤ 256 → T (every (good f) ws) → T (finite (total f ws)) → T (lt zero⁺ (total f ws)) → NearRow f k ws
row_error f k [] K few g t p = absurd (unfold lt of_bits in p)
row_error f k (w ∷ ws) K few g t p =
    let P = 2 ^ prec f in
    let U = 2 ^ low f in
    let all = w ∷ ws in
    let m1 = length ws in
    let few1 : m1 ≤ 255 = le_of_suc-le-suc few in
    let sum = sum_error f all g t in
    let L = in_units f (total f all) in
    let qs = shares f all in
    let share = shares_error f all (once m1 P few1 (many_digits f)) g t p in
    let same : length qs ≡ suc m1 = length-map all (λ x. div f x (total f all)) in
    let four : 4 * length qs ≤ P = four_times (length qs) m1 P same few1 (many_digits f) in
    let small : 2 * exact_sum f qs < overflow f = twice (exact_sum f qs) m1 U (overflow f) share.bound few1 (pow_pos (low f)) (room f) in
    let F : ℕ = sum_to (λ i. in_units f (label_share f k all i)) k in
    record {
      each = λ i. (part_error f k qs share.are_good four small i).is_good;
      near =
          whole_near P U L (exact_sum f all) (exact_sum f qs) F m1 (positive_units f (total f all) sum.is_good p).1 (many_digits f) (many_units f) few1
          (subst (λ (n : ℕ). Near (n * L) (P * L) (P * exact_sum f all)) (less_one (length all) m1 refl) sum.near) share.near
          (subst (λ (n : ℕ). Near (n * F) (P * F) (P * exact_sum f qs)) (less_one (length qs) m1 same) (parts_error f k qs share.are_good four small K));
    }
  where
    less_one : (m m1 : ℕ) → m ≡ suc m1 → m - 1 ≡ m1
    less_one m m1 e = omega arith

    once : (m1 P : ℕ) → m1 ≤ 255 → 2 ^ 20 ≤ P → suc m1 ≤ P
    once m1 P k b = omega arith

    four_times : (m m1 P : ℕ) → m ≡ suc m1 → m1 ≤ 255 → 2 ^ 20 ≤ P → 4 * m ≤ P
    four_times m m1 P e k b = omega arith

    twice : (Q m1 U W : ℕ) → Q ≤ suc m1 * (4 * U) → m1 ≤ 255 → 0 < U → U * 4096 ≤ W → 2 * Q < W
    twice Q m1 U W b k u w = omega (arith, mul-le-mul_right U k)

-- ---- binary64, with its numbers: a unit is 2 ^ -1074

-- P |F - U| ≤ 2 m U is |F - U| ≤ m W, where 2 U = P W
scale_down : (P F U W m : ℕ) → 0 < P → U * 2 ≡ P * W → Near (m * U * 2) (P * F) (P * U) → Near (m * W) F U
scale_down P F U W m p e h =
    let x = ap (λ (z : ℕ). m * z) e in
    (le_of_mul-le-mul_left {k = P} (omega (arith, x, h.0)) p, le_of_mul-le-mul_left {k = P} (omega (arith, x, h.1)) p)

-- demand 3, for m ≤ 256 good weights whose float sum is finite and above zero
pub demand_3 : (k : ℕ) (ws : List Float) → 0 < k → length ws ≤ 256 → T (every (good binary64) ws) → T (finite (total binary64 ws)) → T (lt zero⁺ (total binary64 ws)) → NearOne k (length ws) (label_share binary64 k ws)
demand_3 k ws K few g t p =
    let r = row_error binary64 k ws K few g t p in
    let n = scale_down (2 ^ 53) (exact_total k (label_share binary64 k ws)) unity (2 ^ 1022) (length ws) (pow_pos 53) refl r.near in
    record { each = λ i _. r.each i; not_above = n.0; not_below_lem = n.1 }

-- the same where each weight is known only to be of the format and not below zero, or a NaN: since their sum is finite, each is good
pub demand_3_of : (k : ℕ) (ws : List Float) → 0 < k → length ws ≤ 256 → T (every (not_below binary64) ws) → T (finite (total binary64 ws)) → T (lt zero⁺ (total binary64 ws)) → NearOne k (length ws) (label_share binary64 k ws)
demand_3_of k ws K few g t p = demand_3 k ws K few (all_good binary64 ws g t) t p
