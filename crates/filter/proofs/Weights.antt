-- The weights of a row, by the tables, are the filter's. Assumes nothing.
use Prim.Native.Nat.{ℕ, suc, ◌^◌, ◌<◌}
use mathlib.Core.Path.{◌≡◌, sym, ap, subst, ◌∙◌}
use mathlib.Core.List.{List}
use lib.ListN.{replicate}
use lib.Ieee.{Float}
use Rattle.number.specs.Number.{◌⊗◌, zero⁺}
use Rattle.number.specs.Sums.{sum_up}
use Rattle.number.specs.Table.{◌!◌, fill_at}
use Rattle.number.proofs.Sums.{sum_ext}
use Rattle.number.proofs.Table.{fill_at_lem}
use Rattle.window.specs.Windows.{labels}
use Rattle.window.specs.Time.{time_of}
use Rattle.window.specs.declared.Time.{Time}
use Rattle.window.proofs.Windows.{number_labels}
use Rattle.params.specs.declared.MsarParams.{MsarParams}
use Rattle.params.specs.Parameters.{k, p}
use Rattle.rows.specs.Rows.{windows_of}
use Rattle.density.specs.Density.{density}
use Rattle.density.specs.Steps.{mean_at, weight_at}
use Rattle.density.proofs.Weights.{weight_of_tables}
use Rattle.filter.specs.Filter.{weight, total}
use Rattle.filter.specs.Steps.{Scales, Weighed}

-- the window of number a stands at place a
pub weight_at_lem : (q : MsarParams) (y : List Float) (i : ℕ) (predicted : List Float) → 0 < k q → (a : ℕ) → a < windows_of q
    → predicted ! a ⊗ density q y (time_of (p q) (record { 0 = i })) (labels (k q) (suc (p q)) a) ≡ weight q y i predicted (labels (k q) (suc (p q)) a)
unfolding weight
weight_at_lem q y i predicted pos a h = rw (number_labels (k q) pos (suc (p q)) a h)

module _ (q : MsarParams) (y : List Float) (i count order m : ℕ) (predicted means phis deviations logarithms : List Float)
    (scales : Scales q count order m means phis deviations logarithms) (pos : 0 < count) (windows : m ≡ count ^ suc order) where
  windows_of_lem : m ≡ windows_of q
  windows_of_lem =
      windows
      ∙ ap (λ (n : ℕ). n ^ suc order) (sym scales.parts.count_is)
      ∙ ap (λ (o : ℕ). k q ^ suc o) (sym scales.parts.order_is)

  module _ (t : Time) (centres c₀ weights w₀ : List Float) (likelihood : Float) (time : t ≡ time_of order (record { 0 = i }))
      (centres-are : centres ≡ fill_at 0 (mean_at q y t order) (count ^ suc order) c₀)
      (weights_are : weights ≡ fill_at 0 (weight_at (y ! t.0) centres deviations logarithms predicted) m w₀)
      (likelihood_is : likelihood ≡ sum_up (weight_at (y ! t.0) centres deviations logarithms predicted) m) where
    at_tables : (a : ℕ) → a < m → weight_at (y ! t.0) centres deviations logarithms predicted a ≡ weight q y i predicted (labels (k q) (suc (p q)) a)
    at_tables a h =
        let c : centres ≡ fill_at 0 (mean_at q y t (p q)) m c₀ =
        centres-are
        ∙ ap (λ (o : ℕ). fill_at 0 (mean_at q y t o) (count ^ suc order) c₀) (sym scales.parts.order_is)
        ∙ ap (λ (n : ℕ). fill_at 0 (mean_at q y t (p q)) n c₀) (sym windows) in
        let e : t ≡ time_of (p q) (record { 0 = i }) = time ∙ ap (λ (o : ℕ). time_of o (record { 0 = i })) (sym scales.parts.order_is) in
        let pos' : 0 < k q = subst (λ (n : ℕ). 0 < n) (sym scales.parts.count_is) pos in
        weight_of_tables q y t predicted centres deviations logarithms m c₀ (replicate 256 zero⁺) (replicate 256 zero⁺) c
        scales.deviations_are scales.logarithms_are a h
        ∙ ap (λ (u : Time). predicted ! a ⊗ density q y u (labels (k q) (suc (p q)) a)) e
        ∙ weight_at_lem q y i predicted pos' a (subst (λ (n : ℕ). a < n) windows_of_lem h)

    pub weighed : Weighed q y m i predicted weights likelihood
    unfolding total
    weighed =
        record {
          weights_are = λ a h. fill_at_lem _ m w₀ weights_are a h ∙ at_tables a h;
          likelihood_is =
              likelihood_is
              ∙ sum_ext _ _ m at_tables
              ∙ ap (λ (n : ℕ). sum_up (λ a. weight q y i predicted (labels (k q) (suc (p q)) a)) n) windows_of_lem;
        }
