-- How windows share sums above order 0; that a shared sum's successors lie within a row. Assumes nothing.
use Prim.Native.Nat.{ℕ, zero, suc, ◌+◌, ◌*◌, ◌%◌, ◌^◌, ◌<◌, ◌≤◌}
use mathlib.Core.Path.{◌≡◌, refl, ◌∙◌}
use mathlib.Core.Logic.{◌≢◌}
use mathlib.Core.List.{List}
use native.Mathlib.Nat.{pow-zero, pow-suc, mod-lt, mod-eq_of_lt, zero-mul, mul_comm, mul-pos, mul-le-mul_right, suc-mul, pow-le-pow_right}
use native.Mathlib.Omega.{arith}
use lib.Arith.{mod-mul, digits_mod}
use lib.Ieee.{Float}
use Rattle.window.specs.declared.Sizes.{Sizes}
use Rattle.smoother.specs.Steps.{sum_after, Sharing, shared_sum}

-- what is left of a number past k^p has the same last digit
last_digit : (k p a : ℕ) → 0 < k → 0 < k ^ p → a % (k ^ suc p) % k ≡ a % k
last_digit k p a h h' = rw (pow-suc, mod-mul a {m = k ^ p} {c = k} h' h) (digits_mod _ (mod-lt a h))

pub power_above : (k p : ℕ) → 0 < k → 0 < k ^ p
power_above k p h = omega (arith, pow-le-pow_right h {i = 0} {j = p} (omega arith), pow-zero k)

pub shared_sums : (k power p : ℕ) → 0 < k → power ≡ k ^ p → power ≢ 1 → Sharing k power power k k
shared_sums k power zero h e d = absurd (d (e ∙ pow-zero k))
shared_sums k power (suc p) h e d =
    let h' : 0 < k ^ p = power_above k p h in
    record {
      some = rw (e, pow-suc) (mul-pos h' h);
      bases = λ a. refl;
      labels = λ a. rw e (last_digit k p a h h');
      whole = mul_comm k power;
    }

module _ {k power count stride blocks : ℕ} (w : Sharing k power count stride blocks) where
  -- the successors of a shared sum lie within the row
  pub sum_in_row : 0 < power → (c : ℕ) → c < count → c * stride + k ≤ power * k
  sum_in_row h c l =
      let e : c * stride ≡ c % power * k = rw (mod-eq_of_lt l) at (w.bases c) in
      omega (arith, e, mul-le-mul_right k (mod-lt c h), suc-mul (c % power) k)

  -- there are no more sums than windows
  pub sums_few : 0 < k → 0 < power → count ≤ power * k
  sums_few h h' = at_least blocks w.whole (mul-pos h' h)
    where
      at_least : (b : ℕ) → b * count ≡ power * k → 0 < power * k → count ≤ power * k
      at_least zero e l = omega (arith, e, zero-mul count)
      at_least (suc b) e l = omega (arith, e, suc-mul b count)

-- ---- windows of the sizes that the code has

module _ (sizes : Sizes) where
  pub positive : 0 < sizes.k
  positive = let l = sizes.shape.low in omega arith

  pub power_positive : 0 < sizes.power
  power_positive = rw sizes.power_value (power_above sizes.k sizes.order positive)

  pub windows_are : sizes.power * sizes.k ≡ sizes.windows
  windows_are = rw (sizes.power_value, sizes.windows_value, pow-suc)

  pub windows_few : sizes.windows ≤ 256
  windows_few = rw sizes.windows_value sizes.shape.few

  module _ {count stride blocks : ℕ} (w : Sharing sizes.k sizes.power count stride blocks) where
    pub all_windows : blocks * count ≡ sizes.windows
    all_windows = w.whole ∙ windows_are

    pub sums_fit : count ≤ 256
    sums_fit = omega (arith, sums_few w positive power_positive, windows_are, windows_few)

    pub successors_fit : (c : ℕ) → c < count → c * stride + sizes.k ≤ sizes.windows
    successors_fit c l = rw windows_are at (sum_in_row w power_positive c l)

-- the sum of a label that is c's
pub sum_of_label : (k stride : ℕ) (T smoothed predicted : List Float) (c : ℕ) {s : ℕ} {v : Float} → s ≡ c % k
    → v ≡ sum_after k T smoothed predicted (c * stride) s → v ≡ shared_sum k stride T smoothed predicted c
unfolding shared_sum
sum_of_label k stride T smoothed predicted c e h = rw e at h
