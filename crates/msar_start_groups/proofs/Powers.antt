-- A group's weight is at most 9^15.
use Rattle.std.proofs.Common.{◌≤◌, ◌<◌, ◌^◌, ℕ}
use Rattle.std.proofs.Math.Nat.{pow-le-pow_left, pow-le-pow_right}
use native.Mathlib.Omega.{arith}

pub weight_small : (r e : ℕ) → r ≤ 9 → e < 16 → r ^ e ≤ 205891132094649
weight_small r e small few =
    let positive : 0 < 9 = omega arith in
    let below : e ≤ 15 = omega arith in
    omega (arith, pow-le-pow_left small e, pow-le-pow_right positive {i = e} {j = 15} below)
