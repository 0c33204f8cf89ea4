-- The tables give the definition: what is weighed by them is prediction × density, for each window and in sum. Assumes nothing.
use Prim.Native.Nat.{ℕ, suc, ◌<◌, ◌≤◌}
use mathlib.Core.Path.{◌≡◌, ap, ◌∙◌}
use mathlib.Core.List.{List}
use native.Mathlib.Nat.{zero-add}
use native.Mathlib.Omega.{arith}
use lib.ListN.{length, drop}
use lib.Ieee.{Float}
use Rattle.number.specs.Number.{◌⊗◌}
use Rattle.number.specs.Sums.{sum_up}
use Rattle.number.specs.Table.{◌!◌, fill_at}
use Rattle.number.proofs.Sums.{sum_ext}
use Rattle.number.proofs.Table.{fill_at_lem, fill_at_at, fill_at_ext, fill_at_over, fill_at_rest}
use Rattle.exp.specs.Exp.{exp_of}
use Rattle.window.specs.Windows.{labels}
use Rattle.window.specs.declared.Time.{Time}
use Rattle.params.specs.declared.MsarParams.{MsarParams}
use Rattle.params.specs.Parameters.{k, p}
use Rattle.density.specs.Density.{density, log_density, normal_exponent}
use Rattle.density.specs.Steps.{deviation_at, log_at, mean_at, exponent_at, weight_of, weight_at}

-- a row that holds exponents becomes the weights: each place is written twice
module _ (reading : Float) (means deviations logarithms predicted found : List Float) (m : ℕ) (fits : m ≤ length found) {row : List Float}
    (e : row ≡ fill_at 0 (exponent_at reading means deviations logarithms) m found) where
  weight_by_exponent : (a : ℕ) → a < m → weight_of predicted row a ≡ weight_at reading means deviations logarithms predicted a
  unfolding weight_of weight_at
  weight_by_exponent a h = ap (λ (x : Float). predicted ! a ⊗ exp_of x) (fill_at_lem _ m found e a h)

  pub weights_by_exponents : {weights : List Float} → weights ≡ fill_at 0 (weight_of predicted row) m row
      → weights ≡ fill_at 0 (weight_at reading means deviations logarithms predicted) m found
  weights_by_exponents d =
      d ∙ fill_at_over _ m row found (ap (drop m) e ∙ fill_at_rest 0 _ m found m (omega arith) (omega arith)) ∙ fill_at_ext 0 _ m found _ weight_by_exponent

  pub total_by_exponents : {total : Float} → total ≡ sum_up (weight_of predicted row) m → total ≡ sum_up (weight_at reading means deviations logarithms predicted) m
  total_by_exponents d = d ∙ sum_ext _ _ m weight_by_exponent

module _ (q : MsarParams) (y : List Float) (t : Time) (predicted means deviations logarithms : List Float) where
  -- window a, whose places in the tables are the definition's
  pub weight_is : (a : ℕ) → means ! a ≡ mean_at q y t (p q) a → deviations ! a ≡ deviation_at q a → logarithms ! a ≡ log_at q a
      → weight_at (y ! t.0) means deviations logarithms predicted a ≡ predicted ! a ⊗ density q y t (labels (k q) (suc (p q)) a)
  unfolding weight_at exponent_at density log_density normal_exponent mean_at deviation_at log_at labels
  weight_is a e e' e'' = rw (e, e', e'')

  -- tables of m windows, as `means_row`, `deviations` and `logarithms` leave them
  module _ (m : ℕ) (l l' l'' : List Float) (e : means ≡ fill_at 0 (mean_at q y t (p q)) m l) (e' : deviations ≡ fill_at 0 (deviation_at q) m l')
      (e'' : logarithms ≡ fill_at 0 (log_at q) m l'') where
    pub weight_of_tables : (a : ℕ) → a < m → weight_at (y ! t.0) means deviations logarithms predicted a ≡ predicted ! a ⊗ density q y t (labels (k q) (suc (p q)) a)
    weight_of_tables a h = weight_is a (at _ l e) (at _ l' e') (at _ l'' e'')
      where
        at : (f : ℕ → Float) (d : List Float) {r : List Float} → r ≡ fill_at 0 f m d → r ! a ≡ f a
        at f d e = rw zero-add at (fill_at_at 0 f m d e a h (omega arith))

    pub total_of_tables : sum_up (weight_at (y ! t.0) means deviations logarithms predicted) m ≡ sum_up (λ a. predicted ! a ⊗ density q y t (labels (k q) (suc (p q)) a)) m
    total_of_tables = sum_ext _ _ m weight_of_tables
