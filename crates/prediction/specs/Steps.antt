-- What the steps of the code give: by window number, with the sum over predecessors made once for the k windows that share it. The proofs show
-- that they are the prediction's.
use Rattle.std.specs.Prelude.{ℕ, suc, ◌+◌, ◌*◌, ◌/◌, List, Float, if◌then◌else◌}
use Rattle.number.specs.Number.{◌⊗◌}
use Rattle.number.specs.Sums.{sum_up}
use Rattle.number.specs.Table.{◌!◌, cell}
use Rattle.window.specs.Windows.{label, labels}
use Rattle.params.specs.declared.MsarParams.{MsarParams}
use Rattle.params.specs.Parameters.{k, p, P}
use Rattle.prediction.specs.Prediction.{first_prediction, mixes}
use Rattle.prediction.specs.declared.Rule.{Rule}

unfoldable pub first_at : MsarParams → List Float → ℕ → Float
first_at q shares a = first_prediction q shares (labels (k q) (suc (p q)) a)

-- P[s_0][s_1] of window a
unfoldable pub step_at : MsarParams → ℕ → Float
step_at q a = P q (label (labels (k q) (suc (p q)) a) 0) (label (labels (k q) (suc (p q)) a) 1)

-- the sum of a row over the predecessors of the windows c·k, .., c·k + k - 1: the places c + x · power, power = k^p
unfoldable pub sum_before : ℕ → ℕ → List Float → ℕ → Float
sum_before k power previous c = sum_up (λ x. previous ! (c + x * power)) k

unfoldable pub stepped_at : ℕ → ℕ → List Float → List Float → ℕ → Float
stepped_at k power steps previous a = steps ! a ⊗ sum_before k power previous (a / k)

-- the label before summed over, for label s now
unfoldable pub mixed_at : ℕ → List Float → List Float → ℕ → Float
mixed_at k transition previous s = sum_up (λ x. cell k transition s x ⊗ previous ! x) k

unfoldable pub later_at : Rule → ℕ → ℕ → ℕ → List Float → List Float → List Float → ℕ → Float
later_at rule order k power transition steps previous a =
    if mixes rule order then mixed_at k transition previous a else stepped_at k power steps previous a
