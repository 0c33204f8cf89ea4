-- The exponential's part for the largest k, 1024: with hi no larger than the overflow threshold leaves it, `exp_part hi lo` is at most 1. Assumes nothing.
use mathlib.Core.Path.{◌≡◌, refl, sym, ap, ◌∙◌, subst}
use mathlib.Core.Bool.{Bool, true, false, not}
use Prim.Native.Nat.{ℕ, zero, suc, ◌+◌, ◌-◌, ◌*◌, ◌^◌, ◌≤◌, ◌<◌}
use native.Mathlib.Nat.{le_trans, le_of_eq, le_of_lt, lt-suc_self, mul-one, mul-pos, mul-le-mul_right, le_of_mul-le-mul_right, pow-suc}
use native.Mathlib.Omega.{arith}
use lib.Pow.{pow_pos, pow-add}
use lib.Dec.{T, lit<, lit≤}
use lib.IntN.{negsuc}
use lib.Ieee.{Float, fin, binary64, neg, add, sub, le, of_bits, fits, is_nan, size}
use lib.Ieee.Fits.{sub-fits, div-fits}
use lib.Ieee.Exact.{HasValue}
use lib.Ieee.Digits.{size-lt, size-le, size_reaches}
use Rattle.number.specs.Number.{◌⊖◌, ◌⊗◌, ◌⊘◌, one, two, zero⁺}
use Rattle.rounding.specs.Bounds.{Within}
use Rattle.rounding.specs.Signed.{plus_part, minus_part}
use Rattle.rounding.proofs.Signed.{le→at_most}
use Rattle.rounding.proofs.Order.{le_neg}
use Rattle.rounding.proofs.Round.{round_zero}
use Rattle.rounding.proofs.Monotone.{add_monotone}
use Rattle.rounding.proofs.Intervals.{Exact, Up, Lo, exact, wider, nearer, up_mul, up_sub, up_div, lo_sub, within_number, within_mul, within_div}
use Rattle.rounding.proofs.Constants.{one_up, two_up, two_lo}
use Rattle.rounding.proofs.Rounded.{exact_small}
use Rattle.rounding.proofs.SignedSum.{InUnits, as_units, units_within, value_neg, sum_of, sum_ge, sum_within}
use Rattle.exp.specs.Exp.{exp_poly, exp_part}
use Rattle.exp.proofs.Part.{poly_bound}

-- ---- the constants: lo = 1024 * ln2LO, and the largest hi, the threshold less 1024 * ln2HI
abbrev pub lo_top : Float
lo_top = fin false 0xD_1CF7_9ABC_9E3B (negsuc 73)

abbrev pub hi_top : Float
hi_top = fin false 0x1A_39EF (negsuc 42)

abbrev lo_units : ℕ
lo_units = 0xD_1CF7_9ABC_9E3B * 2 ^ 1000

abbrev hi_units : ℕ
hi_units = 0x1A_39EF * 2 ^ 1031

lo_value : HasValue lo_top false lo_units (2 ^ 1074)
lo_value = (refl, refl)

hi_value : HasValue hi_top false hi_units (2 ^ 1074)
hi_value = (refl, refl)

lo_up : Up lo_top 1 1024
lo_up = record { pos = lit< tt; is = lit≤ tt }

-- ---- with v units between hi and lo, 2 ^ j ≤ v < 2 ^ (j + 1)
record Between (v : ℕ) : Type 0 where
  k : ℕ
  few : k < 1074
  below : v * 2 ^ k ≤ 1 * 2 ^ 1074
  above : (q : ℕ) → q * (2 ^ k * 2) ≤ 1 * 2 ^ 1074 → q ≤ v

between_at : (v j : ℕ) → 2 ^ j ≤ v → v < 2 ^ suc j → j < 1074 → Between v
between_at v j l h J =
    let k : ℕ = 1073 - j in
    record {
      k = k;
      few = few j;
      below = le_trans (mul-le-mul_right (2 ^ k) (le_of_lt h)) (le_of_eq (sym (pow-add 2 (suc j) k) ∙ ap (λ (i : ℕ). 2 ^ i) (sums j J)));
      above = λ q g.
          le_trans
          (le_of_mul-le-mul_right {k = 2 ^ k * 2} (le_trans g (le_of_eq (ap (λ (i : ℕ). 2 ^ i) (sym (sums_2 j J)) ∙ pow-add 2 j (suc k) ∙ ap (λ (z : ℕ). 2 ^ j * z) (pow-suc 2 k)))) (mul-pos (pow_pos k) (lit< tt)))
          l;
    }
  where
    few : (j : ℕ) → 1073 - j < 1074
    few j = omega arith

    sums : (j : ℕ) → j < 1074 → suc j + (1073 - j) ≡ 1074
    sums j J = omega arith

    sums_2 : (j : ℕ) → j < 1074 → j + suc (1073 - j) ≡ 1074
    sums_2 j J = omega arith

between : (v : ℕ) → 0 < v → v < 2 ^ 1074 → Between v
between v p h = go (size v) (size-lt v) (size-le v 1074 h) (size_reaches v)
  where
    go : (z : ℕ) → v < 2 ^ z → z ≤ 1074 → ((j : ℕ) → j < z → 2 ^ j ≤ v) → Between v
    go zero a b f = absurd (omega (arith, a, p))
    go (suc j) a b f = between_at v j (f j (lt-suc_self j)) a b

-- ---- the quotient is at most those units
exact_half : (k : ℕ) → k < 1074 → Exact (1 * 1) (2 ^ k * 2)
exact_half k h = subst (λ (z : ℕ). Exact 1 z) (pow-suc 2 k) (exact_small 1 (suc k) (lit< tt) h)

quotient_within : (x c : Float) (k : ℕ) → k < 1074 → Within x 1 (2 ^ k) → Up c 1 2 → Lo false (two ⊖ c) 1 1 → Within (x ⊗ c ⊘ (two ⊖ c)) 1 (2 ^ k * 2)
quotient_within x c k K h u l =
    let e : Exact 1 (2 ^ k * 2 * 1) = subst (λ (z : ℕ). Exact 1 z) (sym (mul-one (2 ^ k * 2))) (exact_half k K) in
    subst (λ (z : ℕ). Within (x ⊗ c ⊘ (two ⊖ c)) 1 z) (mul-one (2 ^ k * 2))
    (within_div false (x ⊗ c) (two ⊖ c) 1 (2 ^ k * 2) 1 1 (mul-pos (pow_pos k) (lit< tt)) (lit< tt) (within_mul x c 1 (2 ^ k) 1 2 (pow_pos k) (lit< tt) h u.is (exact_half k K)) l.is e)

-- ---- 1 less what is not below zero is at most 1

one_less : (z : Float) (a c : ℕ) → T (le zero⁺ z) → Within (one ⊖ z) a c → T (le (one ⊖ z) one)
unfolding sub neg of_bits
one_less z a c h w = add_monotone binary64 one one (neg z) (neg zero⁺) (unfold le in tt) (le_neg zero⁺ z h) (within_number (one ⊖ z) a c w) (unfold add is_nan in tt)

-- ---- hi + q ≤ lo, so lo - q, rounded, is at least hi
zero_units : InUnits zero⁺
unfolding of_bits
zero_units = record { sign = false; size = 0; is = (refl, refl); kept = round_zero binary64 false (2 ^ 1074) (pow_pos 1074) }

rest_nonneg : (hi q : Float) (w : InUnits hi) (t : InUnits q) (a c : ℕ) → Within (lo_top ⊖ q) a c → plus_part w.sign w.size + t.size ≤ lo_units + minus_part w.sign w.size → T (le zero⁺ (lo_top ⊖ q ⊖ hi))
unfolding sub zero_units
rest_nonneg hi q w t a c h g =
    let y : Float = lo_top ⊖ q in
    let ge : T (le hi y) =
    sum_ge y hi _ _ w (sum_of lo_top (neg q) false (not t.sign) lo_units t.size lo_value (value_neg q t.sign t.size t.is))
    (go t.sign t.size (plus_part w.sign w.size) (minus_part w.sign w.size) lo_units g) in
    let i : InUnits y = as_units y a c (sub-fits binary64 lo_top q) h in
    sum_ge (y ⊖ hi) zero⁺ _ _ zero_units (sum_of y (neg hi) i.sign (not w.sign) i.size w.size i.is (value_neg hi w.sign w.size w.is))
    (back w.sign w.size (plus_part i.sign i.size) (minus_part i.sign i.size) (le→at_most hi y w.sign i.sign w.size i.size (2 ^ 1074) (pow_pos 1074) w.is i.is ge))
  where
    go : (s : Bool) (v p n l : ℕ) → p + v ≤ l + n → p + (0 + minus_part (not s) v) ≤ n + (l + plus_part (not s) v)
    go true v p n l h = omega arith
    go false v p n l h = omega arith

    back : (s : Bool) (a p n : ℕ) → plus_part s a + n ≤ p + minus_part s a → 0 + (n + minus_part (not s) a) ≤ 0 + (p + plus_part (not s) a)
    back true a p n h = omega arith
    back false a p n h = omega arith

-- ---- the whole part, v units between hi and lo
gap_some : (p n l k : ℕ) → p + 0 ≤ k + n → k < l → 0 < l + n - p
gap_some p n l k h g = omega arith

gap_small : (p n l k U : ℕ) → 0 < U → l * 1024 ≤ 1 * U → n * 1024 ≤ 384 * U → l + n - p < U
gap_small p n l k U z h g = omega arith

gap_is : (p n l k : ℕ) → p + 0 ≤ k + n → k < l → (p + 0 ≤ n + l + (l + n - p)) × (n + l ≤ p + 0 + (l + n - p))
gap_is p n l k h g = omega arith

gap_holds : (p n l k q : ℕ) → p + 0 ≤ k + n → k < l → q ≤ l + n - p → p + q ≤ l + n
gap_holds p n l k q h g j = omega arith

minus_within : (s : Bool) (a U : ℕ) → a * 1024 ≤ 384 * U → minus_part s a * 1024 ≤ 384 * U
minus_within true a U h = h
minus_within false a U h = omega arith

pub part_top : (hi : Float) → T (fits binary64 hi) → Up hi 384 1024 → T (le hi hi_top) → T (le (exp_part hi lo_top) one)
unfolding exp_part exact sub
part_top hi f u h =
    let w : InUnits hi = as_units hi 384 1024 f u.is in
    let p : ℕ = plus_part w.sign w.size in
    let n : ℕ = minus_part w.sign w.size in
    let under : p + 0 ≤ hi_units + n = le→at_most hi hi_top w.sign false w.size hi_units (2 ^ 1074) (pow_pos 1074) w.is hi_value h in
    let v : ℕ = lo_units + n - p in
    let b : Between v =
    between v (gap_some p n lo_units hi_units under (lit< tt)) (gap_small p n lo_units hi_units (2 ^ 1074) (pow_pos 1074) (lit≤ tt) (minus_within w.sign w.size (2 ^ 1074) (units_within hi w.sign w.size 384 1024 w.is u.is))) in
    let x : Float = hi ⊖ lo_top in
    let xu : Up x 385 1024 = up_sub tt u lo_up in
    let xh : Up x 1 2 = wider 1 2 tt xu in
    let c : Float = x ⊖ exp_poly (x ⊗ x) in
    let cu : Up c 1 2 = wider 1 2 tt (up_sub tt xu (wider 64 1024 tt (poly_bound (x ⊗ x) (up_mul tt xh xh)))) in
    let cw : Up c 8 16 = wider 8 16 tt cu in
    let d : Lo false (two ⊖ c) 1 1 = nearer 1 1 tt (lo_sub tt two_lo cw (up_sub tt two_up cw)) in
    let q : Float = x ⊗ c ⊘ (two ⊖ c) in
    let g = gap_is p n lo_units hi_units under (lit< tt) in
    let xw : Within x 1 (2 ^ b.k) =
    sum_within x _ _ v 1 (2 ^ b.k) (sum_of hi (neg lo_top) w.sign true w.size lo_units w.is (value_neg lo_top false lo_units lo_value)) g.0 g.1 (pow_pos b.k) b.below (exact_small 1 b.k (lit< tt) (le_of_lt b.few)) in
    let qw : Within q 1 (2 ^ b.k * 2) = quotient_within x c b.k b.few xw cu d in
    let t : InUnits q = as_units q 1 (2 ^ b.k * 2) (div-fits binary64 (x ⊗ c) (two ⊖ c)) qw in
    let qs : t.size ≤ v = b.above t.size (units_within q t.sign t.size 1 (2 ^ b.k * 2) t.is qw) in
    let qu : Up q 1 4 = up_div tt (up_mul tt xh cu) d in
    let yu : Up (lo_top ⊖ q) 257 1024 = up_sub tt lo_up (wider 256 1024 tt qu) in
    let zu : Up (lo_top ⊖ q ⊖ hi) 641 1024 = up_sub tt yu u in
    let z : T (le zero⁺ (lo_top ⊖ q ⊖ hi)) = rest_nonneg hi q w t 257 1024 yu.is (gap_holds p n lo_units hi_units t.size under (lit< tt) qs) in
    one_less (lo_top ⊖ q ⊖ hi) 1665 1024 z (up_sub tt one_up zu).is
