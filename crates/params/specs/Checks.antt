-- The checks of the parameters on themselves, in the order in which they are made.
-- After document 01, "Refusals by number".
use Rattle.std.specs.Prelude.{ℕ, ◌*◌, Bool, not, ◌&&◌, ◌||◌, Float}
use Rattle.std.specs.Float.Ieee.{lt, le}
use Rattle.std.specs.Float.Ieee.Scale.{finite}
use Rattle.number.specs.Number.{◌<?◌, ◌=?◌, ◌⊕◌, ◌⊖◌, float, zero⁺, one, usable, magnitude_of}
use Rattle.number.specs.Table.{◌!◌}
use Rattle.number.specs.Sums.{sum_up}
use Rattle.refusal.specs.Checks.{Check, ◌when◌, ◌before◌, each}
use Rattle.refusal.specs.declared.Refusal.TheVariants.{FewMeans, Beyond, Mean, Length, Transition, Column, NoAr, Ar, Variance}
use Rattle.params.specs.declared.MsarParams.{MsarParams}
use Rattle.params.specs.Parameters.{k, p, P, μ}

-- 1e-8
abbrev pub slack : Float
slack = float 0x3E45_798E_E230_8C3A

-- finite, not below 0 and not above 1 + 1e-8
unfoldable pub is_probability : Float → Bool
is_probability x = finite x && le zero⁺ x && le x (one ⊕ slack)

-- column j sums what may come after label j
unfoldable pub column_sum : MsarParams → ℕ → Float
column_sum q j = sum_up (λ i. P q i j) (k q)

-- ---- the checks at one place

unfoldable pub mean_check : MsarParams → ℕ → Check
mean_check q i = Mean i (μ q i) when not (finite (μ q i))

-- entry i·k + j
unfoldable pub entry_check : MsarParams → ℕ → Check
entry_check q e = Transition e (q.transition ! e) when not (is_probability (q.transition ! e))

unfoldable pub column_check : MsarParams → ℕ → Check
column_check q j = Column j (column_sum q j) when lt slack (magnitude_of (column_sum q j ⊖ one))

unfoldable pub ar_check : MsarParams → ℕ → Check
ar_check q i = Ar i (q.ar ! i) when not (finite (q.ar ! i))

unfoldable pub variance_check : MsarParams → ℕ → Check
variance_check q i = Variance i (q.variances ! i) when not (usable (q.variances ! i))

-- ---- all of them

unfoldable pub parameter_check : MsarParams → Check
parameter_check q =
    FewMeans (k q) when k q <? 2
    before Beyond (k q) when 16 <? k q
    before Beyond (p q) when 7 <? p q
    before each (k q) (mean_check q)
    before Length (k q * k q) when not (q.transition_count =? k q * k q)
    before each (k q * k q) (entry_check q)
    before each (k q) (column_check q)
    before NoAr when q.ar_blocks =? 0
    before Length (k q) when not (q.ar_blocks =? 1 || q.ar_blocks =? k q)
    before Length (q.ar_blocks * p q) when not (q.ar_count =? q.ar_blocks * p q)
    before each q.ar_count (ar_check q)
    before Length (k q) when not (q.variances_count =? 1 || q.variances_count =? k q)
    before each q.variances_count (variance_check q)
