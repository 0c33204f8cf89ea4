-- The last of the smoothed table's rows, where there is one.
use Prim.Native.Nat.{ℕ, zero, suc, ◌-◌, ◌<◌}
use mathlib.Core.Path.{◌≡◌, ap}
use mathlib.Core.List.{List}
use native.Mathlib.Omega.{arith}
use native.Mathlib.Nat.{not-suc-le-zero}
use lib.Ieee.{Float}
use Rattle.number.specs.Number.{zero⁺}
use Rattle.msar_verdict.specs.Verdict.{share_of, last_of}

module _ (table : List Float) (k r : ℕ) where
  pub no_row : (n : ℕ) → n ≡ 0 → zero⁺ ≡ last_of table k r n
  unfolding last_of
  no_row n e = rw e

  pub last_row : (n : ℕ) → 0 < n → share_of table k r (n - 1) ≡ last_of table k r n
  unfolding last_of
  last_row zero h = absurd (not-suc-le-zero h)
  last_row (suc n) h = let e : suc n - 1 ≡ n = omega arith in ap (share_of table k r) e
