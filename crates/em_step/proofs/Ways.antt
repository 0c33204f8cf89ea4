-- The ways through a step, refused or not. Assumes nothing.
use Rattle.std.specs.Prelude.{Ok, Err}
use Prim.Native.Nat.{ℕ}
use mathlib.Core.Path.{◌≡◌}
use mathlib.Core.List.{List}
use lib.Ieee.{Float}
use Rattle.refusal.specs.declared.Refusal.{Refusal}
use Rattle.params.specs.declared.MsarParams.{MsarParams}
use Rattle.params.specs.Checks.{parameter_check}
use Rattle.em_counts.specs.Counts.{new_transition}
use Rattle.em_means.specs.Means.{new_means}
use Rattle.em_coefficients.specs.Coefficients.{new_ar}
use Rattle.em_variances.specs.Variances.{new_variances}
use Rattle.em_step.specs.Step.{with_transition, with_means, with_ar, with_variances, improved, step_of}

module _ (y : List Float) (n : ℕ) (rows : ℕ → List Float) (q : MsarParams) where
  -- ---- once round

  pub means_refused : {r : Refusal} → Err r ≡ new_means q y n rows → Err r ≡ improved y n rows q
  unfolding improved
  means_refused e = rw (← e)

  module _ {means : List Float} (d : Ok means ≡ new_means q y n rows) where
    pub ar_refused : {r : Refusal} → Err r ≡ new_ar (with_means q means) y n rows → Err r ≡ improved y n rows q
    unfolding improved
    ar_refused e = rw (← d, ← e)

    pub all_improved : {ar variances : List Float} → Ok ar ≡ new_ar (with_means q means) y n rows → variances ≡ new_variances (with_ar (with_means q means) ar) y n rows
        → Ok (with_variances (with_ar (with_means q means) ar) variances) ≡ improved y n rows q
    unfolding improved
    all_improved e v = rw (← d, ← e, v)

  -- ---- the step

  pub once_refused : {r : Refusal} → Err r ≡ improved y n rows q → Err r ≡ step_of y n rows q
  unfolding step_of
  once_refused e = rw (← e)

  module _ {once : MsarParams} (d : Ok once ≡ improved y n rows q) where
    pub twice_refused : {r : Refusal} → Err r ≡ improved y n rows once → Err r ≡ step_of y n rows q
    unfolding step_of
    twice_refused e = rw (← d, ← e)

    module _ {twice : MsarParams} {t : List Float} (d' : Ok twice ≡ improved y n rows once) (counted : t ≡ new_transition q n rows) where
      pub check_refused : {r : Refusal} → Err r ≡ parameter_check (with_transition twice t) → Err r ≡ step_of y n rows q
      unfolding step_of
      check_refused e = rw (← d, ← d', ← counted, ← e)

      pub stepped : Ok tt ≡ parameter_check (with_transition twice t) → Ok (with_transition twice t) ≡ step_of y n rows q
      unfolding step_of
      stepped e = rw (← d, ← d', ← counted, ← e)
