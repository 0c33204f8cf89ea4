-- The pattern of a y from 351/1024 to 1697/1024: its exponent's field is from 1021 to 1023, so that k can be added to it. Assumes nothing.
use Prim.Native.Nat.{ℕ, ◌*◌, ◌/◌, ◌^◌, ◌≤◌, ◌<◌}
use native.Mathlib.Omega.{arith}
use lib.Dec.{T, lit<, lit≤}
use lib.Ieee.{Float, binary64, fits}
use Rattle.number.specs.Number.{pattern_of}
use Rattle.rounding.proofs.Field.{is_positive, field_above, field_within}
use Rattle.exp.proofs.Part.{Bounded}

pub record Middle (b : ℕ) : Type 0 where
  pub from : 1021 * 2 ^ 52 ≤ b
  pub below : b < 1024 * 2 ^ 52

pub middle : (y : Float) → T (fits binary64 y) → Bounded y → Middle (pattern_of y)
middle y f w =
    in_field (pattern_of y)
    (field_above y 351 1024 1020 f (lit< tt) (lit< tt) w.from.is (lit≤ tt))
    (field_within y 1697 1024 1023 f (is_positive y 351 1024 (lit< tt) w.from.is) (lit< tt) w.within.is (lit< tt))
  where
    in_field : (b : ℕ) → 1020 < b / 2 ^ 52 → b / 2 ^ 52 ≤ 1023 → Middle b
    in_field b h k = record { from = omega arith; below = omega arith }
