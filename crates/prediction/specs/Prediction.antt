-- The prediction of a window: its probability before the reading is seen. The first comes from the stationary shares, a later one from the
-- filtered row before it, by one of two rules. After Hamilton (1989), document 01, "First prediction", "Later", and document 02, Q-5.
use Rattle.std.specs.Prelude.{ℕ, zero, suc, Bool, false, List, [], ◌∷◌, Float, if◌then◌else◌}
use Rattle.number.specs.Number.{◌=?◌, ◌⊗◌}
use Rattle.number.specs.Sums.{sum_up}
use Rattle.number.specs.Table.{◌!◌}
use Rattle.window.specs.Windows.{label, predecessor}
use Rattle.params.specs.declared.MsarParams.{MsarParams}
use Rattle.params.specs.Parameters.{k, p, P}
use Rattle.rows.specs.Rows.{entry}
use Rattle.prediction.specs.declared.Rule.{Rule}
use Rattle.prediction.specs.declared.Rule.TheVariants.{One, Two}

-- the share of s_p, times P[s_0][s_1], P[s_1][s_2], .., P[s_(l-1)][s_l]
unfoldable pub first_to : MsarParams → List Float → List ℕ → ℕ → Float
first_to q shares w zero = shares ! label w (p q)
first_to q shares w (suc l) = first_to q shares w l ⊗ P q (label w l) (label w (suc l))

-- the first prediction: with all p of them
unfoldable pub first_prediction : MsarParams → List Float → List ℕ → Float
first_prediction q shares w = first_to q shares w (p q)

-- ---- a later prediction, by a rule

-- the rule with this number. One that is neither 1 nor 2 is refused (29) before it is read
unfoldable pub rule_of : ℕ → Rule
rule_of number = if number =? 2 then Two else One

-- whether the label before is summed over: by rule 2, at order zero, where it is none of the window's
unfoldable pub mixes : Rule → ℕ → Bool
mixes One p = false
mixes Two p = p =? 0

-- From order one up the label before is s_1, whatever the rule: P[s_0][s_1] times the sum of the previous row over the k predecessors, oldest
-- label rising. At order zero the window has no label before. Rule 2 sums over it, as Hamilton does: P[s_0][x] times the previous row's x, x from
-- 0 up. Rule 1 is the Rust's: label 0 stands for s_1, and every window is a predecessor, so that the regime before is not looked at.
unfoldable pub later_prediction : Rule → MsarParams → List Float → List ℕ → Float
later_prediction rule q previous w =
    if mixes rule (p q)
    then sum_up (λ x. P q (label w 0) x ⊗ entry (k q) previous (x ∷ [])) (k q)
    else P q (label w 0) (label w 1) ⊗ sum_up (λ x. entry (k q) previous (predecessor w x)) (k q)
