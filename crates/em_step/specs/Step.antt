-- One EM step: new parameters by the smoothed rows. Transition counts; and twice the means, the AR coefficients and the variances, each at what was found
-- before it. The rows stay as they are. After Hamilton (1990), Kim and Nelson (1999), 4.3, and document 01, "EM step"; model.rs, `m_step`.
use Rattle.std.specs.Prelude.{ℕ, List, Float, Result, Ok, Err}
use Rattle.refusal.specs.declared.Refusal.{Refusal}
use Rattle.refusal.specs.Checks.{◌before◌}
use Rattle.params.specs.declared.MsarParams.{MsarParams}
use Rattle.params.specs.Checks.{parameter_check}
use Rattle.em_counts.specs.Counts.{new_transition}
use Rattle.em_means.specs.Means.{new_means}
use Rattle.em_coefficients.specs.Coefficients.{new_ar}
use Rattle.em_variances.specs.Variances.{new_variances}

-- ---- parameters with some of their arrays anew

abbrev pub with_tables : MsarParams → List Float → List Float → List Float → List Float → MsarParams
with_tables q transition means ar variances =
    record {
      transition = transition;
      means = means;
      ar = ar;
      variances = variances;
      means_count = q.means_count;
      transition_count = q.transition_count;
      ar_blocks = q.ar_blocks;
      order = q.order;
      ar_count = q.ar_count;
      variances_count = q.variances_count;
    }

abbrev pub with_transition : MsarParams → List Float → MsarParams
with_transition q transition = with_tables q transition q.means q.ar q.variances

abbrev pub with_means : MsarParams → List Float → MsarParams
with_means q means = with_tables q q.transition means q.ar q.variances

abbrev pub with_ar : MsarParams → List Float → MsarParams
with_ar q ar = with_tables q q.transition q.means ar q.variances

abbrev pub with_variances : MsarParams → List Float → MsarParams
with_variances q variances = with_tables q q.transition q.means q.ar variances

-- ---- the step

infixr 30 ◌leads_to◌
-- what comes after an answer, by that answer; else its refusal
abbrev pub ◌leads_to◌ : {A B : Type 0} → Result A Refusal → (A → Result B Refusal) → Result B Refusal
◌leads_to◌ (Ok x) next = next x
◌leads_to◌ (Err r) next = Err r

module _ (y : List Float) (n : ℕ) (rows : ℕ → List Float) where
  -- means, then AR, then variances
  unfoldable pub improved : MsarParams → Result MsarParams Refusal
  improved q =
      new_means q y n rows leads_to (λ means.
      let q₁ = with_means q means in
      new_ar q₁ y n rows leads_to (λ ar.
      let q₂ = with_ar q₁ ar in
      Ok (with_variances q₂ (new_variances q₂ y n rows))))

  -- the counts are divided at the parameters before the step. It ends with the parameter checks
  unfoldable pub step_of : MsarParams → Result MsarParams Refusal
  step_of q =
      improved q leads_to (λ once.
      improved once leads_to (λ twice.
      let next = with_transition twice (new_transition q n rows) in
      parameter_check next before Ok next))
