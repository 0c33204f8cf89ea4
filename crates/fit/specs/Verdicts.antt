-- What the steps of the code give: what a pass says before its step, and what the end of the passes says. The proofs show that it is the definition's.
use Rattle.std.specs.Prelude.{ℕ, suc, true, false, not, List, Float, if◌then◌else◌, Result, Ok, Err}
use Rattle.std.specs.Float.Ieee.Scale.{finite}
use Rattle.number.specs.Number.{zero⁺}
use Rattle.refusal.specs.declared.Refusal.{Refusal}
use Rattle.refusal.specs.Checks.{Check, Passed, Failed, ◌before◌, ◌when◌}
use Rattle.refusal.specs.declared.Refusal.TheVariants.{Loglike}
use Rattle.params.specs.declared.MsarParams.{MsarParams}
use Rattle.prediction.specs.declared.Rule.TheVariants.{One}
use Rattle.calls.specs.Calls.{run_check, run_loglik}
use Rattle.fit.specs.declared.Course.{Course}
use Rattle.fit.specs.declared.Course.TheVariants.{Going, Converged, Refused}
use Rattle.fit.specs.declared.Verdict.{Verdict}
use Rattle.fit.specs.declared.End.{End}
use Rattle.fit.specs.Fit.{stops}

abbrev pub verdict_after : Check → Verdict → Verdict
verdict_after Passed v = v
verdict_after (Failed r) v = record { course = Refused r; loglik = zero⁺ }

unfoldable pub verdict_of : List Float → Float → ℕ → MsarParams → Float → Verdict
verdict_of y tol i q last =
    let loglik = run_loglik One q y in
    verdict_after (run_check One q y before Loglike when not (finite loglik))
    (record { course = if stops tol i last loglik then Converged (suc i) else Going; loglik = loglik })

-- where the passes ended: their refusal, or how many there were and whether they converged
abbrev pub end_of : ℕ → Course → Result End Refusal
end_of maxIter Going = Ok (record { iterations = maxIter; converged = false })
end_of maxIter (Converged n) = Ok (record { iterations = n; converged = true })
end_of maxIter (Refused r) = Err r
