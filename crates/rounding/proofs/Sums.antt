-- Good numbers summed upward from +0, each addition rounded: how far the float sum is from the exact one, that it does not overflow,
-- and that numbers whose float sum is finite are finite. P = 2 ^ prec f; U = 2 ^ low f is one, in units. Assumes nothing.
use mathlib.Core.Path.{◌≡◌, refl, ap, ◌∙◌}
use mathlib.Core.Bool.{Bool, true, false, ◌&&◌, ◌||◌, or-false}
use mathlib.Core.List.{List, [], ◌∷◌}
use Prim.Native.Nat.{ℕ, suc, ◌+◌, ◌-◌, ◌*◌, ◌^◌, ◌≤◌, ◌<◌}
use native.Mathlib.Nat.{zero-add, zero-mul, add-zero, add_assoc, le-add_right, mul-le-mul_left, mul-le-mul_right, mul-pos, le_of_mul-le-mul_left}
use native.Mathlib.Omega.{arith}
use borrow.Author.Tests.{le-ltb}
use lib.Dec.{T}
use lib.ListN.{length}
use lib.Pow.{pow_pos}
use lib.Ieee.{Float, nan, inf, fin, Format, prec, low, up, down, round, sum, add, le, fits, is_nan, of_bits}
use lib.Ieee.Exact.{HasValue}
use lib.Ieee.Fits.{down_pos, and_i, and_l, and_r, add-fits}
use lib.Ieee.Order.{round_mono}
use lib.Ieee.Scale.{grid, overflow, finite, round_same, round_val, round_under}
use Rattle.number.specs.Number.{zero⁺}
use Rattle.rounding.specs.Units.{in_units, IsUnits}
use Rattle.rounding.specs.Bounds.{Near}
use Rattle.rounding.specs.Sums.{good, not_below, every, sum_from, total, exact_sum}
use Rattle.rounding.proofs.Signed.{le→units, zero_times}
use Rattle.rounding.proofs.Operations.{add_finite}
use Rattle.rounding.proofs.Error.{rounding_error_whole, four_le}
use Rattle.rounding.proofs.Units.{value→units, in_units_lem, good_units, good_fits, units_finite, units_good, round_self}

-- ---- one addition, in units. The first number has its sign clear, as each partial sum from +0 on has

-- a + b units, rounded
abbrev plus : Format → ℕ → ℕ → ℕ
plus f a b = grid f (a + b) (2 ^ low f)

sum_plain : (f : Format) (s : Bool) (a b c : ℕ) → (T s → b ≡ 0) → sum f false a s b c ≡ round f false (a + b) c
unfolding sum
sum_plain f false a b c h = refl
sum_plain f true a b c h =
    let z = h tt in
    let e : a - b ≡ a + b = omega arith in
    rw (le-ltb a b (omega arith), e)

over_one : (x d a y e b u : ℕ) → x * u ≡ a * d → y * u ≡ b * e → (x * e + y * d) * u ≡ (a + b) * (d * e)
over_one x d a y e b u p q = omega (arith, ap (λ (z : ℕ). z * e) p, ap (λ (z : ℕ). z * d) q)

add_units : (f : Format) (x y : Float) (a b : ℕ) → HasValue x false a (2 ^ low f) → IsUnits f y b → add f x y ≡ round f false (a + b) (2 ^ low f)
add_units f nan y a b h k = absurd h
add_units f (inf s) y a b h k = absurd h
add_units f (fin s m e) nan a b h k = absurd k
add_units f (fin s m e) (inf t) a b h k = absurd k
add_units f (fin s m e) (fin t n d) a b h k =
    rw h.0
    (add_finite f false m e t n d ∙ sum_plain f t (m * up e * down d) (n * up d * down e) (down e * down d) (λ u. zero_times n (up d) (down e) (k.0 u))
    ∙ round_same f false (m * up e * down d + n * up d * down e) (down e * down d) (a + b) (2 ^ low f) (mul-pos (down_pos e) (down_pos d)) (pow_pos (low f)) (over_one (m * up e) (down e) a (n * up d) (down d) b (2 ^ low f) h.1 k.1))

add_value : (f : Format) (x y : Float) (a b : ℕ) → HasValue x false a (2 ^ low f) → IsUnits f y b → plus f a b < overflow f → HasValue (add f x y) false (plus f a b) (2 ^ low f)
add_value f x y a b h k l = rw (add_units f x y a b h k) (round_val f (a + b) (2 ^ low f) l)

add_under : (f : Format) (x y : Float) (a b : ℕ) → HasValue x false a (2 ^ low f) → IsUnits f y b → T (finite (add f x y)) → plus f a b < overflow f
add_under f x y a b h k t = round_under f (a + b) (2 ^ low f) (rw (add_units f x y a b h k) at t)

-- +0 + y is y, exactly
add_zero_value : (f : Format) (y : Float) (b : ℕ) → T (fits f y) → IsUnits f y b → HasValue (add f zero⁺ y) false b (2 ^ low f)
unfolding of_bits
add_zero_value f y b t h = rw (add_units f zero⁺ y 0 b (refl, zero-mul (2 ^ low f)) h, zero-add b) (round_self f y b t h)

-- a sum is no smaller than its first part
plus_ge : (f : Format) (x : Float) (a c : ℕ) → T (fits f x) → IsUnits f x a → a ≤ c → grid f c (2 ^ low f) < overflow f → a ≤ grid f c (2 ^ low f)
plus_ge f x a c t h l o =
    let u : ℕ = 2 ^ low f in
    le→units (round f false a u) (round f false c u) a (grid f c u) u (pow_pos (low f)) (round_self f x a t h) (round_val f c u o)
    (round_mono f a u c u (pow_pos (low f)) (pow_pos (low f)) (mul-le-mul_right u l))

-- ---- a partial sum: n roundings have gone into it, and s is the exact sum so far
record Partial (f : Format) (x : Float) (n s : ℕ) : Type 0 where
  size : ℕ
  value : HasValue x false size (2 ^ low f)
  holds : T (fits f x)
  near : Near (n * size) (2 ^ prec f * size) (2 ^ prec f * s)

next : (f : Format) (x y : Float) (n s : ℕ) (p : Partial f x n s) → T (good f y) → plus f p.size (in_units f y) < overflow f → Partial f (add f x y) (suc n) (s + in_units f y)
next f x y n s p g o =
    let r = p.size in
    let b = in_units f y in
    record {
      size = plus f r b;
      value = add_value f x y r b p.value (good_units f y g) o;
      holds = add-fits f x y;
      near = go (2 ^ prec f) r b (plus f r b) p.near (rounding_error_whole f (r + b)) (plus_ge f x r (r + b) p.holds (value→units f x r p.value) (le-add_right r b) o);
    }
  where
    go : (P r b q : ℕ) → Near (n * r) (P * r) (P * s) → Near q (P * q) (P * (r + b)) → r ≤ q → Near (suc n * q) (P * q) (P * (s + b))
    go P r b q h k l =
        let m = mul-le-mul_left n l in
        (omega (arith, h.0, k.0), omega (arith, h.1, k.1))

move : (n k : ℕ) → suc n + k ≡ n + suc k
move n k = omega arith

-- ---- a sum that is finite has finite parts

finite_parts : (f : Format) (x y : Float) → T (finite (add f x y)) → T (finite x) × T (finite y)
unfolding add
finite_parts f nan y t = absurd t
finite_parts f (inf s) nan t = absurd t
finite_parts f (inf true) (inf true) t = absurd t
finite_parts f (inf true) (inf false) t = absurd t
finite_parts f (inf false) (inf true) t = absurd t
finite_parts f (inf false) (inf false) t = absurd t
finite_parts f (inf s) (fin u n d) t = absurd t
finite_parts f (fin s m e) nan t = absurd t
finite_parts f (fin s m e) (inf u) t = absurd t
finite_parts f (fin s m e) (fin u n d) t = (tt, tt)

finite_start : (f : Format) (x : Float) (xs : List Float) → T (finite (sum_from f x xs)) → T (finite x)
finite_start f x [] t = t
finite_start f x (y ∷ ys) t = (finite_parts f x y (finite_start f (add f x y) ys t)).0

-- ---- from a partial sum on

sum_near : (f : Format) (x : Float) (ys : List Float) (n s : ℕ) → Partial f x n s → T (every (good f) ys) → T (finite (sum_from f x ys)) → Partial f (sum_from f x ys) (n + length ys) (s + exact_sum f ys)
sum_near f x [] n s p g t = rw (add-zero n, add-zero s) p
sum_near f x (y ∷ ys) n s p g t =
    let gy = and_l (good f y) (every (good f) ys) g in
    rw (← move n (length ys), ← add_assoc s (in_units f y) (exact_sum f ys))
    (sum_near f (add f x y) ys (suc n) (s + in_units f y)
    (next f x y n s p gy (add_under f x y p.size (in_units f y) p.value (good_units f y gy) (finite_start f (add f x y) ys t)))
    (and_r (good f y) (every (good f) ys) g) t)

-- while the exact sum is below half the overflow, no addition overflows
no_overflow : (P n r s b q W : ℕ) → 4 ≤ P → 4 * n ≤ P → Near (n * r) (P * r) (P * s) → Near q (P * q) (P * (r + b)) → 2 * (s + b) < W → q < W
no_overflow P n r s b q W h k near next less =
    let pos : 0 < P = omega arith in
    let m = mul-le-mul_right r k in
    let a : 3 * r ≤ 4 * s = le_of_mul-le-mul_left {k = P} (omega (arith, near.0, m)) pos in
    let o = mul-le-mul_right q h in
    let c : 3 * q ≤ 4 * (r + b) = le_of_mul-le-mul_left {k = P} (omega (arith, next.0, o)) pos in
    omega (arith, a, c, less)

sum_under : (f : Format) (x : Float) (ys : List Float) (n s : ℕ) → Partial f x n s → T (every (good f) ys) → 4 * (n + length ys) ≤ 2 ^ prec f → 2 * (s + exact_sum f ys) < overflow f → T (finite (sum_from f x ys))
sum_under f x [] n s p g h o = units_finite f x p.size (value→units f x p.size p.value)
sum_under f x (y ∷ ys) n s p g h o =
    let gy = and_l (good f y) (every (good f) ys) g in
    let b = in_units f y in
    sum_under f (add f x y) ys (suc n) (s + b)
    (next f x y n s p gy (no_overflow (2 ^ prec f) n p.size s b (plus f p.size b) (overflow f) (four_le f) (fewer (length ys) (2 ^ prec f) h) p.near (rounding_error_whole f (p.size + b)) (less b (exact_sum f ys) (overflow f) o)))
    (and_r (good f y) (every (good f) ys) g)
    (rw (move n (length ys)) h)
    (rw (add_assoc s b (exact_sum f ys)) o)
  where
    fewer : (k P : ℕ) → 4 * (n + suc k) ≤ P → 4 * n ≤ P
    fewer k P h = omega arith

    less : (b e W : ℕ) → 2 * (s + (b + e)) < W → 2 * (s + b) < W
    less b e W h = omega arith

-- ---- from +0 on

none : (f : Format) → Partial f zero⁺ 0 0
unfolding of_bits
none f = record { size = 0; value = (refl, zero-mul (2 ^ low f)); holds = unfold fits in tt; near = go (2 ^ prec f) }
  where
    go : (P : ℕ) → Near 0 (P * 0) (P * 0)
    go P = omega arith

first : (f : Format) (x : Float) → T (good f x) → Partial f (add f zero⁺ x) 0 (in_units f x)
first f x g = record { size = in_units f x; value = add_zero_value f x (in_units f x) (good_fits f x g) (good_units f x g); holds = add-fits f zero⁺ x; near = go (2 ^ prec f) (in_units f x) }
  where
    go : (P b : ℕ) → Near (0 * b) (P * b) (P * b)
    go P b = omega arith

-- x is good, and P |x - s| ≤ n x in units
pub record NearSum (f : Format) (x : Float) (n s : ℕ) : Type 0 where
  pub is_good : T (good f x)
  pub near : Near (n * in_units f x) (2 ^ prec f * in_units f x) (2 ^ prec f * s)

near_sum : (f : Format) (x : Float) (n s : ℕ) → Partial f x n s → NearSum f x n s
near_sum f x n s p =
    let u = value→units f x p.size p.value in
    record { is_good = units_good f x p.size p.holds u; near = rw (in_units_lem f x p.size u) p.near }

-- the float sum L of m good numbers, where finite, is good, and P |L - S| ≤ (m - 1) L for the exact sum S: the first addition is exact
pub sum_error : (f : Format) (xs : List Float) → T (every (good f) xs) → T (finite (total f xs)) → NearSum f (total f xs) (length xs - 1) (exact_sum f xs)
sum_error f [] g t = near_sum f zero⁺ 0 0 (none f)
sum_error f (x ∷ xs) g t =
    rw (less_one (length xs))
    (near_sum f (total f (x ∷ xs)) (0 + length xs) (exact_sum f (x ∷ xs)) (sum_near f (add f zero⁺ x) xs 0 (in_units f x) (first f x (and_l (good f x) (every (good f) xs) g)) (and_r (good f x) (every (good f) xs) g) t))
  where
    less_one : (k : ℕ) → suc k - 1 ≡ 0 + k
    less_one k = omega arith

-- it is finite where 4 m ≤ P and 2 S is below the overflow
pub sum_finite : (f : Format) (xs : List Float) → T (every (good f) xs) → 4 * length xs ≤ 2 ^ prec f → 2 * exact_sum f xs < overflow f → T (finite (total f xs))
unfolding of_bits
sum_finite f [] g h o = tt
sum_finite f (x ∷ xs) g h o =
    sum_under f (add f zero⁺ x) xs 0 (in_units f x) (first f x (and_l (good f x) (every (good f) xs) g)) (and_r (good f x) (every (good f) xs) g) (fewer (length xs) (2 ^ prec f) h) o
  where
    fewer : (k P : ℕ) → 4 * suc k ≤ P → 4 * (0 + k) ≤ P
    fewer k P h = omega arith

-- ---- where the float sum is finite, numbers not below zero or NaN are good

finite_good : (f : Format) (x : Float) → T (not_below f x) → T (finite x) → T (good f x)
unfolding is_nan
finite_good f nan h t = absurd t
finite_good f (inf s) h t = absurd t
finite_good f (fin s m e) h t =
    let x = fin s m e in
    and_i (fits f x && true) (le zero⁺ x) (and_i (fits f x) true (and_l (fits f x) (le zero⁺ x || false) h) tt) (rw (or-false (le zero⁺ x)) at (and_r (fits f x) (le zero⁺ x || false) h))

all_good_from : (f : Format) (x : Float) (ys : List Float) → T (every (not_below f) ys) → T (finite (sum_from f x ys)) → T (every (good f) ys)
all_good_from f x [] h t = tt
all_good_from f x (y ∷ ys) h t =
    and_i (good f y) (every (good f) ys) (finite_good f y (and_l (not_below f y) (every (not_below f) ys) h) (finite_parts f x y (finite_start f (add f x y) ys t)).1)
    (all_good_from f (add f x y) ys (and_r (not_below f y) (every (not_below f) ys) h) t)

-- x_0, x_1, .. each in the format and not below zero or NaN, and x_0 + x_1 + .. finite: each is good
pub all_good : (f : Format) (xs : List Float) → T (every (not_below f) xs) → T (finite (total f xs)) → T (every (good f) xs)
all_good f xs h t = all_good_from f zero⁺ xs h t
