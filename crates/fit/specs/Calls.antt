-- The call `fit`: for every input the answer, and all lent memory at exit as a function of what was lent.
-- After document 01, "Refusals by number" (24 and 25 after 20) and "How much a contract says", and of work memory document 02, Q-8.
use Rattle.std.specs.Prelude.{ℕ, not, List, length, Float, Result, Err}
use Rattle.number.specs.Number.{◌=?◌, usable}
use Rattle.refusal.specs.declared.Refusal.{Refusal}
use Rattle.refusal.specs.Checks.{Check, Passed, Failed, ◌before◌, ◌when◌}
use Rattle.refusal.specs.declared.Refusal.TheVariants.{OrderZero, SampleVariance}
use Rattle.spec.specs.declared.MsarSpec.{MsarSpec}
use Rattle.params.specs.declared.MsarParams.{MsarParams}
use Rattle.params.specs.Parameters.{p}
use Rattle.binding.specs.Binding.{admitted_check, memory_check, smooth_need, table_need}
use Rattle.em_sample_variance.specs.Series.{sample_variance}
use Rattle.prediction.specs.declared.Rule.TheVariants.{One}
use Rattle.calls.specs.Calls.{cleared, smoothed_table}
use Rattle.fit.specs.declared.Course.{Course}
use Rattle.fit.specs.declared.Course.TheVariants.{Going, Converged, Refused}
use Rattle.fit.specs.declared.Fitted.{Fitted}
use Rattle.fit.specs.Fit.{passes_to, fitted_of}

-- 24 at order zero, 25 where the sample variance is not finite or not above zero
unfoldable pub fit_check : MsarParams → List Float → Check
fit_check q y = OrderZero when p q =? 0 before SampleVariance (sample_variance y) when not (usable (sample_variance y))

-- the smoothed table at the parameters reached; a refused fit leaves it as found
abbrev pub table_at : List Float → MsarParams → Course → List Float → List Float
table_at y q Going found = smoothed_table One q y found
table_at y q (Converged n) found = smoothed_table One q y found
table_at y q (Refused r) found = found

unfoldable pub fitted_table : List Float → Float → ℕ → MsarParams → List Float → List Float
fitted_table y tol maxIter start found = let s = passes_to y tol start maxIter in table_at y s.params s.course found

pub record FitOutcome : Type 0 where
  pub answer : Result Fitted Refusal
  pub work : List Float
  pub smoothed : List Float

-- a refusal of what the caller handed in touches no lent memory
abbrev pub fit_called : Check → List Float → List Float → FitOutcome → FitOutcome
fit_called (Failed r) work smoothed run = record { answer = Err r; work = work; smoothed = smoothed }
fit_called Passed work smoothed run = run

unfoldable pub fit_call : MsarSpec → List Float → MsarParams → ℕ → Float → List Float → List Float → FitOutcome
fit_call S y start maxIter tol work smoothed =
    fit_called
    (admitted_check S y
    (memory_check (length work) (smooth_need S y)
    before memory_check (length smoothed) (table_need S y))
    start
    before fit_check start y)
    work smoothed
    (record {
      answer = fitted_of y tol maxIter start;
      work = cleared (smooth_need S y) work;
      smoothed = fitted_table y tol maxIter start smoothed;
    })
