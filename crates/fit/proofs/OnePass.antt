-- The ways through a pass. Assumes nothing.
use Rattle.std.specs.Prelude.{if◌then◌else◌, Result, Ok, Err}
use Prim.Native.Nat.{ℕ, suc, ◌+◌, ◌*◌, ◌<◌}
use mathlib.Core.Path.{◌≡◌, refl, sym, ap, subst, ◌∙◌}
use mathlib.Core.Bool.{Bool, true, false, not}
use mathlib.Core.List.{List}
use native.Mathlib.Omega.{arith}
use native.Mathlib.Numerals.{add-one}
use lib.ListN.{length, drop}
use lib.Ieee.{Float}
use lib.Ieee.Scale.{finite}
use Rattle.number.specs.Number.{zero⁺}
use Rattle.refusal.specs.Checks.{Check, Passed, Failed, ◌when◌, ◌before◌}
use Rattle.refusal.specs.declared.Refusal.{Refusal}
use Rattle.refusal.proofs.Checks.{before_ok, before_err}
use Rattle.refusal.specs.declared.Refusal.TheVariants.{Loglike}
use Rattle.params.specs.declared.MsarParams.{MsarParams}
use Rattle.params.specs.Parameters.{k, p}
use Rattle.rows.specs.Rows.{Same, windows_of}
use Rattle.rows.specs.Memory.{predicted_from, filtered_from}
use Rattle.stationary.specs.Stationary.{start_shares, values_of}
use Rattle.filter.specs.Filter.{predicted_row, filtered_row, row_count}
use Rattle.filter.specs.Steps.{Held}
use Rattle.smoother.specs.InMemory.{SmoothedRows}
use Rattle.prediction.specs.declared.Rule.TheVariants.{One}
use Rattle.calls.specs.Calls.{run_check, run_loglik, run_answer, smoothed_from}
use Rattle.calls.proofs.Runs.{drop_more}
use Rattle.em_step.specs.Step.{step_of}
use Rattle.rows.specs.Smoothed.{rows_in}
use Rattle.em_step.proofs.Kept.{step_same}
use Rattle.fit.specs.declared.Course.{Course}
use Rattle.fit.specs.declared.Course.TheVariants.{Going, Converged, Refused}
use Rattle.fit.specs.declared.State.{State}
use Rattle.fit.specs.declared.Verdict.{Verdict}
use Rattle.fit.specs.Fit.{smoothed_rows, stops, reached, stepped, pass_of}
use Rattle.fit.specs.Verdicts.{verdict_after, verdict_of}

-- ---- the verdict

module _ (y : List Float) (tol : Float) (i : ℕ) (q : MsarParams) (last : Float) {a : Result Float Refusal} (answer : a ≡ run_answer One q y) where
  pub run_refused : {r : Refusal} → a ≡ Err r → record { course = Refused r; loglik = zero⁺ } ≡ verdict_of y tol i q last
  unfolding verdict_of run_answer
  run_refused d = rw (before_err (run_check One q y) (run_loglik One q y) (sym answer ∙ d))

  pub run_passed : {loglik : Float} {v : Verdict} → a ≡ Ok loglik
      → v ≡ verdict_after (Loglike when not (finite loglik)) (record { course = if stops tol i last loglik then Converged (suc i) else Going; loglik = loglik })
      → v ≡ verdict_of y tol i q last
  unfolding verdict_of run_answer
  run_passed d e = let is = before_ok (run_check One q y) (sym answer ∙ d) in rw (is.0, ← is.1) e

module _ (tol : Float) (i : ℕ) (last loglik : Float) where
  abbrev Says : Verdict → Type 0
  Says v = v ≡ verdict_after (Loglike when not (finite loglik)) (record { course = if stops tol i last loglik then Converged (suc i) else Going; loglik = loglik })

  pub not_finite : finite loglik ≡ false → Says (record { course = Refused Loglike; loglik = zero⁺ })
  not_finite d = rw d refl

  module _ (usual : finite loglik ≡ true) where
    pub converges : stops tol i last loglik ≡ true → Says (record { course = Converged (i + 1); loglik = loglik })
    converges d = rw (usual, d, ← add-one i) refl

    pub goes : stops tol i last loglik ≡ false → Says (record { course = Going; loglik = loglik })
    goes d = rw (usual, d) refl

-- a refused course is not going
abbrev At : Type 0 → Course → Type 0
At A Going = A
At A (Converged n) = Unit {0}
At A (Refused r) = Unit {0}

pub never : {A : Type 0} (r : Refusal) → Refused r ≡ Going → A
never {A} r e = subst (λ (c : Course). At A c) e tt

-- ---- the pass, by its verdict

module _ (q : MsarParams) (last : Float) (i : ℕ) (loglik : Float) (new : Result MsarParams Refusal) where
  abbrev pass : Check → Bool → State
  pass c b =
      reached q last c
      (if b
      then record { course = Converged (suc i); params = q; loglik = loglik }
      else stepped q last loglik new)

  abbrev said : Check → Bool → Verdict
  said c b = verdict_after c (record { course = if b then Converged (suc i) else Going; loglik = loglik })

  by_converged : (c : Check) (b : Bool) {n : ℕ} → (said c b).course ≡ Converged n → record { course = Converged n; params = q; loglik = (said c b).loglik } ≡ pass c b
  by_converged (Failed r) b e = cc
  by_converged Passed true e = rw e refl
  by_converged Passed false e = cc

  by_refused : (c : Check) (b : Bool) {r : Refusal} → (said c b).course ≡ Refused r → record { course = Refused r; params = q; loglik = last } ≡ pass c b
  by_refused (Failed r) b e = rw e refl
  by_refused Passed true e = cc
  by_refused Passed false e = cc

  by_step : (c : Check) (b : Bool) → (said c b).course ≡ Going → stepped q last (said c b).loglik new ≡ pass c b
  by_step (Failed r) b e = cc
  by_step Passed true e = cc
  by_step Passed false e = refl

module _ (y : List Float) (tol : Float) (i : ℕ) (q : MsarParams) (last : Float) {v : Verdict} (verdict : v ≡ verdict_of y tol i q last) where
  -- the check before the stop rule, the stop rule, and the step
  abbrev check : Check
  check = run_check One q y before Loglike when not (finite (run_loglik One q y))

  abbrev stop : Bool
  stop = stops tol i last (run_loglik One q y)

  abbrev step : Result MsarParams Refusal
  step = step_of y (row_count q y) (smoothed_rows q y) q

  course_is : {c : Course} → v.course ≡ c → (verdict_of y tol i q last).course ≡ c
  course_is e = sym (ap (λ (x : Verdict). x.course) verdict) ∙ e

  pub pass_converged : {n : ℕ} → v.course ≡ Converged n → record { course = Converged n; params = q; loglik = v.loglik } ≡ pass_of y tol i q last
  unfolding verdict_of pass_of
  pass_converged {n} e = ap (λ (x : Verdict). record { course = Converged n; params = q; loglik = x.loglik }) verdict ∙ by_converged q last i (run_loglik One q y) step check stop (course_is e)

  pub pass_refused : {r : Refusal} → v.course ≡ Refused r → record { course = Refused r; params = q; loglik = last } ≡ pass_of y tol i q last
  unfolding verdict_of pass_of
  pass_refused e = by_refused q last i (run_loglik One q y) step check stop (course_is e)

  pub pass_stepped : {new : Result MsarParams Refusal} {s : State} → v.course ≡ Going → new ≡ step → s ≡ stepped q last v.loglik new → s ≡ pass_of y tol i q last
  unfolding verdict_of pass_of
  pass_stepped {new} going e d =
      d ∙ ap (stepped q last v.loglik) e ∙ ap (λ (x : Verdict). stepped q last x.loglik step) verdict ∙ by_step q last i (run_loglik One q y) step check stop (course_is going)

-- what a step leaves in the state, where it goes on and where it is refused
module _ (q : MsarParams) (last loglik : Float) {new : Result MsarParams Refusal} where
  pub went_on : {params : MsarParams} {course : Course} → course ≡ Going → new ≡ Ok params → record { course = course; params = params; loglik = loglik } ≡ stepped q last loglik new
  went_on d e = rw (d, e) refl

  pub went_out : {r : Refusal} → new ≡ Err r → record { course = Refused r; params = q; loglik = last } ≡ stepped q last loglik new
  went_out e = rw e refl

-- ---- memory, after the filter and the smoother

-- rows from the same shares
pub held_at : {q : MsarParams} {y shares shares' : List Float} {n m kept i : ℕ} {work : List Float} → shares ≡ shares' → Held One q y shares n m kept i work → Held One q y shares' n m kept i work
held_at {q} {y} {n = n} {m} {kept} {i} {work} e h = subst (λ (x : List Float). Held One q y x n m kept i work) e h

pub rest_kept : (q : MsarParams) (m n : ℕ) (work ran after : List Float) → m ≡ windows_of q → SmoothedRows q n ran after
    → drop (2 * (n * m)) ran ≡ drop (2 * (n * m)) work → drop (2 * (n * m)) after ≡ drop (2 * (n * m)) work
rest_kept q m n work ran after e done d =
    drop_more (n * m) (2 * (n * m)) after ran (omega arith) (subst (λ (x : ℕ). drop (n * x) after ≡ drop (n * x) ran) (sym e) done.rest) ∙ d

-- ---- the step reads the smoothed rows in memory

module _ (q : MsarParams) (y : List Float) (m n : ℕ) (pos : 0 < k q) (lagged : 0 < p q) (rows_are : p q + n ≡ length y) (windows : m ≡ windows_of q)
    (work after : List Float) (held : Held One q y (values_of (start_shares q)) n m (2 * n) n work) (done : SmoothedRows q n work after) where
  abbrev predicted : ℕ → List Float
  predicted = predicted_row One q y (values_of (start_shares q))

  abbrev filtered : ℕ → List Float
  filtered = filtered_row One q y (values_of (start_shares q))

  counted : n ≡ row_count q y
  counted = omega (arith, rows_are)

  smoothed_stand : (i : ℕ) → i < n → Same (windows_of q) (drop (filtered_from (windows_of q) i) after) (smoothed_rows q y i)
  unfolding smoothed_rows
  smoothed_stand i h =
      subst (λ (x : ℕ). Same (windows_of q) (drop (filtered_from (windows_of q) i) after) (smoothed_from One q y (values_of (start_shares q)) x i)) counted
      (done.rows predicted filtered
      (λ j l. subst (λ (x : ℕ). Same x (drop (predicted_from n x j) work) (predicted j)) windows (held.predicted j l (omega arith)))
      (λ j l. subst (λ (x : ℕ). Same x (drop (filtered_from x j) work) (filtered j)) windows (held.filtered j l (omega arith))) i h)

  pub step_is : {new : Result MsarParams Refusal} → new ≡ step_of y n (rows_in q after) q → new ≡ step_of y (row_count q y) (smoothed_rows q y) q
  step_is e =
      e ∙ step_same y n (rows_in q after) (smoothed_rows q y) q pos lagged smoothed_stand
      ∙ ap (λ (x : ℕ). step_of y x (smoothed_rows q y) q) counted
