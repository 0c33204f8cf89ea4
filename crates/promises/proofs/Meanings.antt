-- The theorems about the definitions, each from the crate that it is about; the bound on a fit's passes from what its passes keep. Assumes nothing.
use Rattle.std.specs.Prelude.{Result, Ok, Err}
use mathlib.Core.Path.{◌≡◌, refl, sym, subst}
use mathlib.Core.Bool.{Bool, false}
use mathlib.Core.List.{List}
use Prim.Native.Nat.{ℕ, ◌≤◌}
use native.Mathlib.Omega.{arith}
use lib.ListN.{length}
use lib.Ieee.{Float, binary64, of_int}
use lib.Ieee.Back.{round_whole}
use Rattle.root.proofs.Theorem.{root_is, root_unique}
use Rattle.refusal.specs.Checks.{Check, Passed, Failed, ◌before◌}
use Rattle.refusal.specs.declared.Refusal.{Refusal}
use Rattle.refusal.proofs.Checks.{both, before_ok}
use Rattle.fit.specs.declared.Fitted.{Fitted}
use Rattle.spec.specs.declared.MsarSpec.{MsarSpec}
use Rattle.params.specs.declared.MsarParams.{MsarParams}
use Rattle.params.specs.Checks.{parameter_check}
use Rattle.params.specs.Built.{built_of}
use Rattle.params.proofs.Again.{again}
use Rattle.linsolve.proofs.Stopped.{solve_named, solve_names}
use Rattle.binding.specs.Binding.{admitted_check, memory_check, smooth_need, table_need}
use Rattle.prediction.specs.declared.Rule.TheVariants.{One}
use Rattle.calls.specs.Calls.{run_check}
use Rattle.fit.specs.declared.Course.{Course}
use Rattle.fit.specs.declared.Course.TheVariants.{Going, Converged, Refused}
use Rattle.fit.specs.Fit.{passes_to, fitted_after, closed, ended_at, fitted_of}
use Rattle.fit.specs.Calls.{fit_check, FitOutcome, fit_called, fit_call}
use Rattle.fit.proofs.Going.{Kept, passes_kept}
use Rattle.text_decimal.proofs.RoundTrip.{written_back}
use Rattle.promises.specs.Meanings.{Meanings}
use Rattle.promises.proofs.Tables.{parameters}

-- ---- a built record

built_so : (q built : MsarParams) → built_of q ≡ Ok built → parameter_check built ≡ Passed
unfolding built_of
built_so q built e = let is = before_ok (parameter_check q) e in subst (λ (x : MsarParams). parameter_check x ≡ Passed) (sym is.1) (again q is.0)

-- ---- a fit's passes

module _ (maxIter : ℕ) where
  -- an answer, where there is one, tells of at most so many
  abbrev Within : Result Fitted Refusal → Type 0
  Within a = (fitted : Fitted) → a ≡ Ok fitted → fitted.iterations ≤ maxIter

  after_within : (c : Check) (q : MsarParams) (loglik : Float) (n : ℕ) (converged : Bool) → n ≤ maxIter → Within (fitted_after c q loglik n converged)
  after_within c q loglik n converged h = λ fitted e. subst (λ (x : Fitted). x.iterations ≤ maxIter) (sym (before_ok c e).1) h

  refused_within : (r : Refusal) → Within (Err r)
  refused_within r = λ fitted e. let z : ◌≡◌ {A = ℕ} 0 1 = cc in absurd (omega arith)

  ended_within : (y : List Float) (start q : MsarParams) (c : Course) → Kept start maxIter c q → Within (ended_at y maxIter q c)
  unfolding closed
  ended_within y start q Going k = after_within (run_check One q y) q _ maxIter _ (omega arith)
  ended_within y start q (Converged n) k = after_within (run_check One q y) q _ n _ k.1
  ended_within y start q (Refused r) k = refused_within r

  called_within : (c : Check) (work smoothed : List Float) (run : FitOutcome) → (c ≡ Passed → Within run.answer) → Within (fit_called c work smoothed run).answer
  called_within Passed work smoothed run h = h refl
  called_within (Failed r) work smoothed run h = refused_within r

passes : (S : MsarSpec) (y : List Float) (start : MsarParams) (maxIter : ℕ) (tol : Float) (work smoothed : List Float)
    (fitted : Fitted) → (fit_call S y start maxIter tol work smoothed).answer ≡ Ok fitted → fitted.iterations ≤ maxIter
unfolding fit_call fitted_of
passes S y start maxIter tol work smoothed fitted found =
    let own = memory_check (length work) (smooth_need S y) before memory_check (length smoothed) (table_need S y) in
    let admitted = admitted_check S y own start in
    called_within maxIter (admitted before fit_check start y) work smoothed _ (λ e.
    ended_within maxIter y start (passes_to y tol start maxIter).params (passes_to y tol start maxIter).course (passes_kept start y tol (parameters S y start own (both admitted e).0) maxIter)) fitted found

pub meanings : Meanings
unfolding built_of
meanings =
    record {
      root_is = root_is;
      root_alone = root_unique;
      round_trip = written_back;
      built_again = built_so;
      first_column = λ n a b c. solve_named n c a b;
      names_column = λ n a b c. solve_names n c a b;
      exact_column = λ which c h. unfold of_int in round_whole binary64 false c h;
      passes = passes;
    }
