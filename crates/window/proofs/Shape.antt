-- What the count of windows says of the order and of k^order, and that it is small on the way. Assumes nothing.
use Prim.Native.Nat.{ℕ, suc, suc-le-suc, ◌*◌, ◌/◌, ◌^◌, ◌<◌, ◌≤◌}
use mathlib.Core.Path.{◌≡◌}
use native.Mathlib.Nat.{pow-le-pow_left, pow-le-pow_right, lt_of_not-le, le_of_suc-le-suc, pow-suc, mul-div_cancel, mul-le-mul}
use native.Mathlib.Omega.{arith}
use Rattle.window.specs.Shape.{Shape}

pub order_at_most_7 : (k p : ℕ) → 2 ≤ k → k ^ suc p ≤ 256 → p ≤ 7
order_at_most_7 k p h f =
    le_of_suc-le-suc
    (lt_of_not-le
    (λ (i : 8 ≤ p).
    let low : 2 ^ 9 ≤ k ^ 9 = pow-le-pow_left h 9 in
    let high : k ^ 9 ≤ k ^ suc p = pow-le-pow_right (omega arith) (omega arith) in
    omega arith))

-- a product of at most suc p factors k, and one factor more: it stays small
pub counted_small : {k p m : ℕ} → Shape k p → (i : ℕ) → i ≤ p → m ≡ k ^ suc i → m * k ≤ 4096
counted_small {k} {p} {m} s i h e =
    let up : k ^ suc i ≤ k ^ suc p = pow-le-pow_right (omega (arith, s.low)) (suc-le-suc h) in
    let few : m ≤ 256 = omega (arith, s.few) in
    omega (arith, mul-le-mul few s.high)

-- k^p is the count of windows without its last factor
pub power_of : {k m : ℕ} (p : ℕ) → 0 < k → m ≡ k ^ suc p → m / k ≡ k ^ p
power_of {k} p h e = rw (e, pow-suc k p) (mul-div_cancel (k ^ p) h)
