-- The fit: EM passes from the start parameters until the log-likelihood gains no more than tol, or max_iter of them; then a closing pass at the
-- parameters reached. After Dempster, Laird and Rubin (1977), Hamilton (1990), and document 01, "Fit"; model.rs, `fit`.
use Rattle.std.specs.Prelude.{ℕ, zero, suc, Bool, true, false, not, ◌&&◌, List, Float, if◌then◌else◌, Result, Ok, Err}
use Rattle.std.specs.Float.Ieee.{le}
use Rattle.std.specs.Float.Ieee.Scale.{finite}
use Rattle.number.specs.Number.{◌<?◌, ◌⊖◌, zero⁺}
use Rattle.refusal.specs.declared.Refusal.{Refusal}
use Rattle.refusal.specs.Checks.{Check, Passed, Failed, ◌before◌, ◌when◌}
use Rattle.refusal.specs.declared.Refusal.TheVariants.{Loglike}
use Rattle.params.specs.declared.MsarParams.{MsarParams}
use Rattle.params.specs.Built.{tidy}
use Rattle.stationary.specs.Stationary.{start_shares, values_of}
use Rattle.filter.specs.Filter.{row_count}
use Rattle.prediction.specs.declared.Rule.TheVariants.{One}
use Rattle.calls.specs.Calls.{run_check, run_loglik, smoothed_from}
use Rattle.em_step.specs.Step.{step_of}
use Rattle.fit.specs.declared.Course.{Course}
use Rattle.fit.specs.declared.Course.TheVariants.{Going, Converged, Refused}
use Rattle.fit.specs.declared.State.{State}
use Rattle.fit.specs.declared.Fitted.{Fitted}

-- ---- one pass

-- the smoothed rows at q. A fit has an order from one up, where both rules are the same: rule 1 stands for them
unfoldable pub smoothed_rows : MsarParams → List Float → ℕ → List Float
smoothed_rows q y i = smoothed_from One q y (values_of (start_shares q)) (row_count q y) i

-- pass number i, from 0, converges: from the second on, where the gain is at most tol. A fall counts too, and a NaN tol never stops
unfoldable pub stops : Float → ℕ → Float → Float → Bool
stops tol i last loglik = 0 <? i && le (loglik ⊖ last) tol

-- what follows a check at q; a refusal keeps q and the log-likelihood of the pass before
abbrev pub reached : MsarParams → Float → Check → State → State
reached q last Passed next = next
reached q last (Failed r) next = record { course = Refused r; params = q; loglik = last }

-- a step's parameters, with the log-likelihood of the pass, or its refusal
abbrev pub stepped : MsarParams → Float → Float → Result MsarParams Refusal → State
stepped q last loglik (Ok new) = record { course = Going; params = new; loglik = loglik }
stepped q last loglik (Err r) = record { course = Refused r; params = q; loglik = last }

module _ (y : List Float) (tol : Float) where
  -- pass number i at q; the pass before had the log-likelihood `last`
  unfoldable pub pass_of : ℕ → MsarParams → Float → State
  pass_of i q last =
      let loglik = run_loglik One q y in
      reached q last (run_check One q y before Loglike when not (finite loglik))
      (if stops tol i last loglik
      then record { course = Converged (suc i); params = q; loglik = loglik }
      else stepped q last loglik (step_of y (row_count q y) (smoothed_rows q y) q))

  -- ---- all passes

  -- one pass more, where they are still going
  abbrev pub onward : ℕ → State → Course → State
  onward i s Going = pass_of i s.params s.loglik
  onward i s (Converged n) = s
  onward i s (Refused r) = s

  -- the first i passes. No pass looks at the log-likelihood before the first
  unfoldable pub passes_to : MsarParams → ℕ → State
  passes_to start zero = record { course = Going; params = start; loglik = zero⁺ }
  passes_to start (suc i) = onward i (passes_to start i) (passes_to start i).course

-- ---- the closing pass

-- the answer, where there is no refusal
abbrev pub fitted_after : Check → MsarParams → Float → ℕ → Bool → Result Fitted Refusal
fitted_after check q loglik iterations converged =
    check before Ok (record { params = tidy q; loglik = loglik; iterations = iterations; converged = converged })

-- at the parameters reached
unfoldable pub closed : List Float → MsarParams → ℕ → Bool → Result Fitted Refusal
closed y q iterations converged = fitted_after (run_check One q y) q (run_loglik One q y) iterations converged

-- iterations are the passes begun, the stopping one among them
abbrev pub ended_at : List Float → ℕ → MsarParams → Course → Result Fitted Refusal
ended_at y maxIter q Going = closed y q maxIter false
ended_at y maxIter q (Converged n) = closed y q n true
ended_at y maxIter q (Refused r) = Err r

unfoldable pub fitted_of : List Float → Float → ℕ → MsarParams → Result Fitted Refusal
fitted_of y tol maxIter start = let s = passes_to y tol start maxIter in ended_at y maxIter s.params s.course
