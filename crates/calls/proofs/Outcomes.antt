-- The outcomes of the calls: refused, nothing touched; or what the run leaves. Assumes nothing.
use Rattle.std.specs.Prelude.{Result, Err}
use Prim.Native.Nat.{ℕ}
use mathlib.Core.Path.{◌≡◌}
use mathlib.Core.List.{List, []}
use lib.Ieee.{Float}
use Rattle.refusal.specs.Checks.{Passed, Failed, ◌before◌}
use Rattle.refusal.specs.declared.Refusal.{Refusal}
use Rattle.spec.specs.declared.MsarSpec.{MsarSpec}
use Rattle.params.specs.declared.MsarParams.{MsarParams}
use Rattle.binding.specs.Binding.{admitted_check, rule_check, filter_need, smooth_need}
use Rattle.prediction.specs.Prediction.{rule_of}
use Rattle.prediction.specs.declared.Rule.{Rule}
use Rattle.calls.specs.Calls.{run_answer, cleared, filtered_table, smoothed_table, loglike_memory, filter_memory, smooth_memory, loglike_call, filter_call, smooth_call}

module _ (S : MsarSpec) (y : List Float) (q : MsarParams) (rule : ℕ) (work : List Float) where
  -- refused for what was handed in: no memory is touched
  module _ {r : Refusal} where
    pub loglike_refused : admitted_check S y (loglike_memory S y work before rule_check rule) q ≡ Failed r → record { answer = Err r; work = work; filtered = []; smoothed = [] } ≡ loglike_call S y q rule work
    unfolding loglike_call
    loglike_refused e = rw e

    pub filter_refused : (filtered : List Float) → admitted_check S y (filter_memory S y work filtered before rule_check rule) q ≡ Failed r
        → record { answer = Err r; work = work; filtered = filtered; smoothed = [] } ≡ filter_call S y q rule work filtered
    unfolding filter_call
    filter_refused filtered e = rw e

    pub smooth_refused : (filtered smoothed : List Float) → admitted_check S y (smooth_memory S y work filtered smoothed before rule_check rule) q ≡ Failed r
        → record { answer = Err r; work = work; filtered = filtered; smoothed = smoothed } ≡ smooth_call S y q rule work filtered smoothed
    unfolding smooth_call
    smooth_refused filtered smoothed e = rw e

  module _ {a : Result Float Refusal} where
    -- the run's answer by the rule with this number, and its memory: so much was needed
    module _ {by : Rule} (numbered : by ≡ rule_of rule) {need : ℕ} {w : List Float} (answer : a ≡ run_answer by q y) (ran : w ≡ cleared need work) where
      pub loglike_ran : need ≡ filter_need S y → admitted_check S y (loglike_memory S y work before rule_check rule) q ≡ Passed → record { answer = a; work = w; filtered = []; smoothed = [] } ≡ loglike_call S y q rule work
      unfolding loglike_call
      loglike_ran needed e = rw (e, answer, ran, needed, numbered)

      pub filter_ran : need ≡ filter_need S y → (filtered : List Float) {f : List Float} → f ≡ filtered_table by q y filtered → admitted_check S y (filter_memory S y work filtered before rule_check rule) q ≡ Passed
          → record { answer = a; work = w; filtered = f; smoothed = [] } ≡ filter_call S y q rule work filtered
      unfolding filter_call
      filter_ran needed filtered t e = rw (e, answer, ran, needed, t, numbered)

      pub smooth_ran : need ≡ smooth_need S y → (filtered smoothed : List Float) {f s : List Float} → f ≡ filtered_table by q y filtered → s ≡ smoothed_table by q y smoothed
          → admitted_check S y (smooth_memory S y work filtered smoothed before rule_check rule) q ≡ Passed → record { answer = a; work = w; filtered = f; smoothed = s } ≡ smooth_call S y q rule work filtered smoothed
      unfolding smooth_call
      smooth_ran needed filtered smoothed t u e = rw (e, answer, ran, needed, t, u, numbered)
