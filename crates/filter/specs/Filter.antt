-- The filter: for each row the predicted and the filtered weights of the windows and the likelihood of its reading; the log-likelihood of all.
-- After Hamilton (1989) and document 01, "Update"; refusal 23. The parameters have passed their checks, and k and p are theirs; the shares from which
-- it starts are handed to it, and so is the rule by which a later prediction is made.
use Rattle.std.specs.Prelude.{ℕ, zero, suc, ◌-◌, ◌^◌, not, List, length, Float, Result, Ok}
use Rattle.number.specs.Number.{◌⊗◌, ◌⊘◌, usable}
use Rattle.number.specs.Sums.{sum_up}
use Rattle.logarithm.specs.Log.{log_of}
use Rattle.window.specs.Time.{time_of}
use Rattle.window.specs.Windows.{labels}
use Rattle.refusal.specs.Checks.{Check, ◌before◌, ◌when◌, check_of, each}
use Rattle.refusal.specs.declared.Refusal.{Refusal}
use Rattle.refusal.specs.declared.Refusal.TheVariants.{Likelihood}
use Rattle.params.specs.declared.MsarParams.{MsarParams}
use Rattle.params.specs.Parameters.{k, p}
use Rattle.stationary.specs.Stationary.{values_of}
use Rattle.rows.specs.Rows.{entry, row_of}
use Rattle.density.specs.Density.{density}
use Rattle.prediction.specs.Prediction.{first_prediction, later_prediction}
use Rattle.prediction.specs.declared.Rule.{Rule}

-- ---- row i, whose reading stands at time p + i, updated with its prediction

module _ (q : MsarParams) (y : List Float) (i : ℕ) (predicted : List Float) where
  -- prediction × density
  unfoldable pub weight : List ℕ → Float
  weight w = entry (k q) predicted w ⊗ density q y (time_of (p q) (record { 0 = i })) w

  -- the likelihood: the sum of the weights, in the order of the windows' numbers
  unfoldable pub total : Float
  total = sum_up (λ a. weight (labels (k q) (suc (p q)) a)) (k q ^ suc (p q))

  -- each weight divided by the likelihood
  unfoldable pub updated : List Float
  updated = row_of (k q) (p q) (λ w. weight w ⊘ total)

-- ---- all rows, from the shares of the labels at the start

module _ (rule : Rule) (q : MsarParams) (y : List Float) (shares : List Float) where
  unfoldable pub predicted_row : ℕ → List Float
  predicted_row zero = row_of (k q) (p q) (first_prediction q shares)
  predicted_row (suc i) = row_of (k q) (p q) (later_prediction rule q (updated q y i (predicted_row i)))

  unfoldable pub filtered_row : ℕ → List Float
  filtered_row i = updated q y i (predicted_row i)

  unfoldable pub likelihood : ℕ → Float
  likelihood i = total q y i (predicted_row i)

  -- 23 where a row's likelihood is not finite or not above zero
  unfoldable pub likelihood_check : ℕ → Check
  likelihood_check i = Likelihood i when not (usable (likelihood i))

  -- the log-likelihood of the first n rows
  unfoldable pub loglik_to : ℕ → Float
  loglik_to n = sum_up (λ i. log_of (likelihood i)) n

-- ---- the whole

-- n = T - p
abbrev pub row_count : MsarParams → List Float → ℕ
row_count q y = length y - p q

-- 23 at the first row that gives it
unfoldable pub filter_check : Rule → MsarParams → List Float → List Float → Check
filter_check rule q y shares = each (row_count q y) (likelihood_check rule q y shares)

unfoldable pub loglik_of : Rule → MsarParams → List Float → List Float → Float
loglik_of rule q y shares = loglik_to rule q y shares (row_count q y)

-- the log-likelihood, where there is no refusal
abbrev pub answer_after : Check → Float → Result Float Refusal
answer_after check loglik = check before Ok loglik

-- from shares that have a check of their own, which comes first
unfoldable pub filter_answer : Rule → MsarParams → List Float → Result (List Float) Refusal → Result Float Refusal
filter_answer rule q y start =
    answer_after (check_of start before filter_check rule q y (values_of start)) (loglik_of rule q y (values_of start))
