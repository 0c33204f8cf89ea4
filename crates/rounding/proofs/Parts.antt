-- The parts of a list by label: their exact sums add up to that of the whole, and how far their float sums are from it.
-- P = 2 ^ prec f. Assumes nothing.
use mathlib.Core.Path.{◌≡◌, refl, sym, ap, ap₂, ◌∙◌}
use mathlib.Core.Bool.{Bool, true, false, cond}
use mathlib.Core.List.{List, [], ◌∷◌}
use mathlib.Core.Logic.{inl, inr}
use Prim.Native.Nat.{ℕ, zero, suc, ◌+◌, ◌-◌, ◌*◌, ◌%◌, ◌^◌, ◌≤◌, ◌<◌, zero-le}
use native.Mathlib.Nat.{le_trans, le_of_eq, le-suc, le_of_suc-le-suc, not-suc-le-zero, eq-or-lt_of_le, add-zero, zero-add, mod-lt, ne_of_lt, ne_of_gt, mul-le-mul_right}
use native.Mathlib.Omega.{arith}
use borrow.Author.Tests.{eq-eqb, ne_eqb}
use lib.Dec.{T, eqb}
use lib.ListN.{length}
use lib.Ieee.{Float, Format, prec}
use lib.Ieee.Fits.{and_i, and_l, and_r}
use lib.Ieee.Scale.{overflow}
use Rattle.rounding.specs.Units.{in_units}
use Rattle.rounding.specs.Bounds.{Near}
use Rattle.rounding.specs.Sums.{good, every, total, exact_sum, sum_to}
use Rattle.rounding.specs.Shares.{part}
use Rattle.rounding.proofs.Sums.{NearSum, sum_error, sum_finite}

-- ---- one part

-- a part of good numbers has good numbers
part_good : (f : Format) (k i j : ℕ) (xs : List Float) → T (every (good f) xs) → T (every (good f) (part k i j xs))
part_good f k i j [] g = tt
part_good f k i j (x ∷ xs) g = go (eqb (j % k) i) (and_l (good f x) (every (good f) xs) g) (part_good f k i (suc j) xs (and_r (good f x) (every (good f) xs) g))
  where
    go : (b : Bool) → T (good f x) → T (every (good f) (part k i (suc j) xs)) → T (every (good f) (cond b (x ∷ part k i (suc j) xs) (part k i (suc j) xs)))
    go true a c = and_i (good f x) (every (good f) (part k i (suc j) xs)) a c
    go false a c = c

-- it is no longer than the whole
part_length : (k i j : ℕ) (xs : List Float) → length (part k i j xs) ≤ length xs
part_length k i j [] = zero-le
part_length k i j (x ∷ xs) = go (eqb (j % k) i) (part_length k i (suc j) xs)
  where
    go : (b : Bool) → length (part k i (suc j) xs) ≤ length xs → length (cond b (x ∷ part k i (suc j) xs) (part k i (suc j) xs)) ≤ suc (length xs)
    go true h = omega arith
    go false h = omega arith

-- and sums to no more
part_total : (f : Format) (k i j : ℕ) (xs : List Float) → exact_sum f (part k i j xs) ≤ exact_sum f xs
part_total f k i j [] = zero-le
part_total f k i j (x ∷ xs) = go (eqb (j % k) i) (part_total f k i (suc j) xs)
  where
    go : (b : Bool) → exact_sum f (part k i (suc j) xs) ≤ exact_sum f xs → exact_sum f (cond b (x ∷ part k i (suc j) xs) (part k i (suc j) xs)) ≤ in_units f x + exact_sum f xs
    go true h = omega arith
    go false h = omega arith

-- ---- sums over the labels below n

sum_same : (g h : ℕ → ℕ) (n : ℕ) → ((i : ℕ) → g i ≡ h i) → sum_to g n ≡ sum_to h n
sum_same g h zero e = refl
sum_same g h (suc n) e = ap₂ (λ (x y : ℕ). x + y) (sum_same g h n e) (e n)

sum_add : (g h : ℕ → ℕ) (n : ℕ) → sum_to (λ i. g i + h i) n ≡ sum_to g n + sum_to h n
sum_add g h zero = refl
sum_add g h (suc n) = omega (arith, sum_add g h n)

sum_zero : (n : ℕ) → sum_to (λ i. 0) n ≡ 0
sum_zero zero = refl
sum_zero (suc n) = ap (λ (x : ℕ). x + 0) (sum_zero n)

-- v at the place r alone
abbrev at_place : ℕ → ℕ → ℕ → ℕ
at_place v r i = cond (eqb r i) v 0

none_below : (v r n : ℕ) → n ≤ r → sum_to (at_place v r) n ≡ 0
none_below v r zero h = refl
none_below v r (suc n) h = rw (none_below v r n (le_trans (le-suc n) h), ne_eqb r n (ne_of_gt h))

one_place : (v r n : ℕ) → r < n → sum_to (at_place v r) n ≡ v
one_place v r zero h = absurd (not-suc-le-zero h)
one_place v r (suc n) h = elim (eq-or-lt_of_le (le_of_suc-le-suc h)) [
  | inl e ↦ rw (none_below v r n (le_of_eq (sym e)), eq-eqb r n e, zero-add v)
  | inr l ↦ rw (one_place v r n l, ne_eqb r n (ne_of_lt l), add-zero v)
]

-- ---- all parts

part_step : (f : Format) (k i j : ℕ) (x : Float) (xs : List Float) → exact_sum f (part k i j (x ∷ xs)) ≡ at_place (in_units f x) (j % k) i + exact_sum f (part k i (suc j) xs)
part_step f k i j x xs = go (eqb (j % k) i)
  where
    go : (b : Bool) → exact_sum f (cond b (x ∷ part k i (suc j) xs) (part k i (suc j) xs)) ≡ cond b (in_units f x) 0 + exact_sum f (part k i (suc j) xs)
    go true = refl
    go false = sym (zero-add (exact_sum f (part k i (suc j) xs)))

-- the exact sums of the k parts add up to that of the whole
pub parts_sum_to_whole : (f : Format) (k j : ℕ) (xs : List Float) → 0 < k → sum_to (λ i. exact_sum f (part k i j xs)) k ≡ exact_sum f xs
parts_sum_to_whole f k j [] K = sum_zero k
parts_sum_to_whole f k j (x ∷ xs) K =
    sum_same (λ i. exact_sum f (part k i j (x ∷ xs))) (λ i. at_place (in_units f x) (j % k) i + exact_sum f (part k i (suc j) xs)) k (λ i. part_step f k i j x xs)
    ∙ sum_add (at_place (in_units f x) (j % k)) (λ i. exact_sum f (part k i (suc j) xs)) k
    ∙ ap₂ (λ (a b : ℕ). a + b) (one_place (in_units f x) (j % k) k (mod-lt j K)) (parts_sum_to_whole f k (suc j) xs K)

-- ---- the float sums of the parts of m good numbers, where 4 m ≤ P and twice their exact sum is below the overflow
module _ (f : Format) (k : ℕ) (xs : List Float) (g : T (every (good f) xs)) (few : 4 * length xs ≤ 2 ^ prec f) (small : 2 * exact_sum f xs < overflow f) where
  -- each is good, and P |F - Q| ≤ (m - 1) F for the exact sum Q of the part
  pub part_error : (i : ℕ) → NearSum f (total f (part k i 0 xs)) (length xs - 1) (exact_sum f (part k i 0 xs))
  part_error i =
      let ys = part k i 0 xs in
      let gy = part_good f k i 0 xs g in
      let sum = sum_error f ys gy (sum_finite f ys gy (fewer (length ys) (length xs) (2 ^ prec f) (part_length k i 0 xs) few) (smaller (exact_sum f ys) (exact_sum f xs) (overflow f) (part_total f k i 0 xs) small)) in
      record { is_good = sum.is_good; near = weaken (2 ^ prec f) (in_units f (total f ys)) (exact_sum f ys) (length ys) (length xs) (part_length k i 0 xs) sum.near }
    where
      fewer : (c m P : ℕ) → c ≤ m → 4 * m ≤ P → 4 * c ≤ P
      fewer c m P h k = omega arith

      smaller : (q s W : ℕ) → q ≤ s → 2 * s < W → 2 * q < W
      smaller q s W h k = omega arith

      less : (c m : ℕ) → c ≤ m → c - 1 ≤ m - 1
      less c m h = omega arith

      weaken : (P F q c m : ℕ) → c ≤ m → Near ((c - 1) * F) (P * F) (P * q) → Near ((m - 1) * F) (P * F) (P * q)
      weaken P F q c m h d =
          let x = mul-le-mul_right F (less c m h) in
          (omega (arith, d.0, x), omega (arith, d.1, x))

  -- and P |F - S| ≤ (m - 1) F for the exact total F of all k and the exact sum S of the whole
  pub parts_error : 0 < k → Near ((length xs - 1) * sum_to (λ i. in_units f (total f (part k i 0 xs))) k) (2 ^ prec f * sum_to (λ i. in_units f (total f (part k i 0 xs))) k) (2 ^ prec f * exact_sum f xs)
  parts_error K =
      rw (parts_sum_to_whole f k 0 xs K) at
      (all_near (2 ^ prec f) (length xs - 1) (λ i. in_units f (total f (part k i 0 xs))) (λ i. exact_sum f (part k i 0 xs)) k (λ i. (part_error i).near))
    where
      all_near : (P n : ℕ) (F Q : ℕ → ℕ) (k : ℕ) → ((i : ℕ) → Near (n * F i) (P * F i) (P * Q i)) → Near (n * sum_to F k) (P * sum_to F k) (P * sum_to Q k)
      all_near P n F Q zero h = omega arith
      all_near P n F Q (suc k) h = omega (arith, all_near P n F Q k h, h k)
