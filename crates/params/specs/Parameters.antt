-- Parameters as a caller hands them in: arrays of which as many places are used as the counts say, and what they mean.
-- After Hamilton (1989) and document 01, "The steps" (Transition, Density) and "Forms to alter".
use Rattle.std.specs.Prelude.{ℕ, zero, suc, ◌+◌, ◌*◌, Bool, not, ◌&&◌, Float, if◌then◌else◌}
use Rattle.std.specs.Bool.{beq}
use Rattle.std.specs.Float.{nan}
use Rattle.number.specs.Number.{◌=?◌}
use Rattle.number.specs.Table.{◌!◌, cell}
use Rattle.spec.specs.declared.MsarSpec.{MsarSpec}
use Rattle.params.specs.declared.MsarParams.{MsarParams}

-- the number of regimes is the count of the means
abbrev pub k : MsarParams → ℕ
k q = q.means_count

abbrev pub p : MsarParams → ℕ
p q = q.order

-- P[i][j]: the probability of label i now where label j was before
abbrev pub P : MsarParams → ℕ → ℕ → Float
P q i j = cell (k q) q.transition i j

-- the mean of label s
abbrev pub μ : MsarParams → ℕ → Float
μ q s = q.means ! s

-- what is counted once is shared by all labels, else it switches with the label
abbrev pub block_of : ℕ → ℕ → ℕ
block_of count s = if count =? 1 then 0 else s

abbrev pub switches : ℕ → Bool
switches count = not (count =? 1)

-- φ_l of label s: lags start at one and a block's list at zero. There is no φ_0
unfoldable pub φ : MsarParams → ℕ → ℕ → Float
φ q s zero = nan
φ q s (suc l) = q.ar ! (block_of q.ar_blocks s * p q + l)

-- the variance of label s
abbrev pub variance : MsarParams → ℕ → Float
variance q s = q.variances ! block_of q.variances_count s

-- the call matches_spec: it only compares
unfoldable pub matches_spec : MsarSpec → MsarParams → Bool
matches_spec S q =
    k q =? S.k_regimes && p q =? S.order && beq (switches q.ar_blocks) S.switching_ar
    && beq (switches q.variances_count) S.switching_variance
