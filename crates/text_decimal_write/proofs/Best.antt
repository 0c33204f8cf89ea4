-- No other whole number is nearer to a fraction a / c than `closest`: so of the decimals with the same power of ten none is nearer than the one
-- that is written. Distances are whole numbers: |a - e c| ≤ r is `Within`. Assumes nothing.
use mathlib.Core.Logic.{inl, inr}
use Prim.Native.Nat.{ℕ, suc, ◌+◌, ◌*◌, ◌≤◌, ◌<◌}
use native.Mathlib.Nat.{mul-le-mul_right}
use native.Mathlib.Omega.{arith}
use lib.Ieee.Nearest.{closest}
use Rattle.rounding.proofs.Choose.{le_or_lt}
use Rattle.rounding.proofs.Error.{closest_error}
use Rattle.text_decimal_write.specs.Decimals.{over, under}
use Rattle.text_decimal_write.proofs.First.{under_pos}

abbrev pub Within : ℕ → ℕ → ℕ → Type 0
Within r a b = (a ≤ b + r) × (b ≤ a + r)

pub closest_best : (a c e r : ℕ) → 0 < c → Within r a (e * c) → Within r a (closest a c * c)
closest_best a c e r C h = go (closest a c) (closest_error a c C)
  where
    same : (d : ℕ) → e ≤ d → d ≤ e → Within r a (d * c)
    same d l k =
        let p = mul-le-mul_right c l in
        let q = mul-le-mul_right c k in
        (omega (arith, p, q, h), omega (arith, p, q, h))

    -- e is one below d, or less; e is one above d, or more
    lower : (d : ℕ) → suc e * c ≤ d * c → (d * c * 2 ≤ a * 2 + c) × (a * 2 ≤ d * c * 2 + c) → Within r a (d * c)
    lower d l n = (omega (arith, l, n.0, n.1, h), omega (arith, l, n.0, n.1, h))

    higher : (d : ℕ) → suc d * c ≤ e * c → (d * c * 2 ≤ a * 2 + c) × (a * 2 ≤ d * c * 2 + c) → Within r a (d * c)
    higher d l n = (omega (arith, l, n.0, n.1, h), omega (arith, l, n.0, n.1, h))

    go : (d : ℕ) → (d * c * 2 ≤ a * 2 + c) × (a * 2 ≤ d * c * 2 + c) → Within r a (d * c)
    go d n = elim (le_or_lt e d) [
      | inl l ↦ elim (le_or_lt d e) [ inl k ↦ same d l k | inr k ↦ lower d (mul-le-mul_right c k) n ]
      | inr l ↦ higher d (mul-le-mul_right c l) n
    ]

-- of all e * 10 ^ (t - 340) the one with the digits that are written is nearest
pub digits_best : (u t e r : ℕ) → Within r (over u t) (e * under t) → Within r (over u t) (closest (over u t) (under t) * under t)
digits_best u t e r h = closest_best (over u t) (under t) e r (under_pos t) h
