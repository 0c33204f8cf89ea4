-- How a fit ends: the closing pass, and the outcome of the call. Assumes nothing.
use Rattle.std.specs.Prelude.{Result, Ok, Err}
use Prim.Native.Nat.{ℕ, zero, suc, ◌*◌, ◌<◌, ◌≤◌}
use mathlib.Core.Path.{◌≡◌, refl, sym, ap, subst, ◌∙◌}
use mathlib.Core.Bool.{Bool, true, false}
use mathlib.Core.List.{List}
use native.Mathlib.Omega.{arith}
use borrow.Author.Tests.{eqb-false}
use lib.ListN.{length}
use lib.Ieee.{Float}
use Rattle.number.specs.Number.{◌=?◌, ◌⊗◌, usable}
use Rattle.refusal.specs.Checks.{Check, Passed, Failed, ◌when◌, ◌before◌}
use Rattle.refusal.specs.declared.Refusal.{Refusal}
use Rattle.refusal.specs.declared.Refusal.TheVariants.{OrderZero, SampleVariance}
use Rattle.refusal.proofs.Checks.{both, untrue, before_ok, before_err}
use Rattle.spec.specs.declared.MsarSpec.{MsarSpec}
use Rattle.params.specs.declared.MsarParams.{MsarParams}
use Rattle.params.specs.Parameters.{k, p}
use Rattle.params.specs.Checks.{parameter_check}
use Rattle.params.specs.Built.{tidy}
use Rattle.params.proofs.Within.{within}
use Rattle.window.specs.declared.sizes.Sizes.{Sizes}
use Rattle.binding.specs.Binding.{memory_check, smooth_need, table_need, params_check, admitted_check}
use Rattle.em_sample_variance.specs.Series.{sample_variance}
use Rattle.em_ridge.specs.Ridge.{small}
use Rattle.prediction.specs.declared.Rule.TheVariants.{One}
use Rattle.calls.specs.Calls.{run_check, run_loglik, run_answer, cleared, smoothed_table}
use Rattle.em_step.specs.Ready.{Ready}
use Rattle.em_step.proofs.Kept.{Alike, Good}
use Rattle.fit.specs.declared.Course.TheVariants.{Going, Converged, Refused}
use Rattle.fit.specs.declared.Course.{Course}
use Rattle.fit.specs.declared.End.{End}
use Rattle.fit.specs.declared.State.{State}
use Rattle.fit.specs.declared.Fitted.{Fitted}
use Rattle.fit.specs.Fit.{passes_to, closed, ended_at, fitted_of}
use Rattle.fit.specs.Verdicts.{end_of}
use Rattle.fit.specs.Calls.{fit_check, table_at, fitted_table, fit_call}
use Rattle.fit.proofs.Going.{Kept, passes_kept}

-- ---- the closing pass

module _ (y : List Float) (q : MsarParams) (i : ℕ) (c : Bool) {a : Result Float Refusal} (answer : a ≡ run_answer One q y) where
  -- what is made of its answer
  pub closing_refused : {r : Refusal} → a ≡ Err r → Err r ≡ closed y q i c
  unfolding closed run_answer
  closing_refused d = rw (before_err (run_check One q y) (run_loglik One q y) (sym answer ∙ d))

  pub closing_answered : {loglik : Float} → a ≡ Ok loglik → Ok (record { params = tidy q; loglik = loglik; iterations = i; converged = c }) ≡ closed y q i c
  unfolding closed run_answer
  closing_answered d = let is = before_ok (run_check One q y) (sym answer ∙ d) in rw (is.0, is.1)

-- the table of the start's labels is that of theirs
pub table_fits : {q start : MsarParams} (n : ℕ) {room : ℕ} → Alike q start → n * k start ≤ room → n * k q ≤ room
table_fits n {room} a h = subst (λ (x : ℕ). n * x ≤ room) (sym a.labels) h

-- ---- where the passes ended

module _ (start : MsarParams) (i max : ℕ) (q : MsarParams) where
  good_unless : (c : Course) {E : End} → end_of max c ≡ Ok E → Kept start i c q → Good q start
  good_unless Going e h = h
  good_unless (Converged n) e h = h.0
  good_unless (Refused r) e h = absurd (never e)
    where
      never : {E : End} → Err r ≡ Ok E → ⊥
      never d = let z : ◌≡◌ {A = ℕ} 0 1 = cc in omega arith

module _ (y : List Float) (max : ℕ) (q : MsarParams) where
  at_end : (c : Course) {E : End} → end_of max c ≡ Ok E → closed y q E.iterations E.converged ≡ ended_at y max q c
  at_end Going e = ap (λ (x : End). closed y q x.iterations x.converged) cc
  at_end (Converged n) e = ap (λ (x : End). closed y q x.iterations x.converged) cc
  at_end (Refused r) e = cc

  at_refusal : (c : Course) {r : Refusal} → end_of max c ≡ Err r → Err r ≡ ended_at y max q c
  at_refusal Going e = cc
  at_refusal (Converged n) e = cc
  at_refusal (Refused r) e = ap (λ (x : Refusal). Err x) cc

  table_at_end : (c : Course) (found : List Float) {E : End} → end_of max c ≡ Ok E → smoothed_table One q y found ≡ table_at y q c found
  table_at_end Going found e = refl
  table_at_end (Converged n) found e = refl
  table_at_end (Refused r) found e = cc

  table_at_refusal : (c : Course) (found : List Float) {r : Refusal} → end_of max c ≡ Err r → found ≡ table_at y q c found
  table_at_refusal Going found e = cc
  table_at_refusal (Converged n) found e = cc
  table_at_refusal (Refused r) found e = refl

module _ (y : List Float) (tol : Float) (max : ℕ) (start : MsarParams) {s : State} (e : s ≡ passes_to y tol start max) where
  fitted_at : ended_at y max s.params s.course ≡ fitted_of y tol max start
  unfolding fitted_of
  fitted_at = ap (λ (x : State). ended_at y max x.params x.course) e

  table_at_lem : (found : List Float) → table_at y s.params s.course found ≡ fitted_table y tol max start found
  unfolding fitted_table
  table_at_lem found = ap (λ (x : State). table_at y x.params x.course found) e

  module _ {E : End} (end : end_of max s.course ≡ Ok E) where
    pub end_good : parameter_check start ≡ Passed → Good s.params start
    end_good checked = good_unless start max max s.params s.course end
        (subst (λ (x : State). Kept start max x.course x.params) (sym e) (passes_kept start y tol checked max))

    pub end_passed : {f : Result Fitted Refusal} → f ≡ closed y s.params E.iterations E.converged → f ≡ fitted_of y tol max start
    end_passed h = h ∙ at_end y max s.params s.course end ∙ fitted_at

    pub table_passed : (found : List Float) {t : List Float} → t ≡ smoothed_table One s.params y found → t ≡ fitted_table y tol max start found
    table_passed found h = h ∙ table_at_end y max s.params s.course found end ∙ table_at_lem found

  module _ {r : Refusal} (end : end_of max s.course ≡ Err r) where
    pub end_refused : Err r ≡ fitted_of y tol max start
    end_refused = at_refusal y max s.params s.course end ∙ fitted_at

    pub table_refused : (found : List Float) → found ≡ fitted_table y tol max start found
    table_refused found = table_at_refusal y max s.params s.course found end ∙ table_at_lem found

-- ---- 24 and 25

module _ (q : MsarParams) (y : List Float) {order : ℕ} {variance : Float} (o : p q ≡ order) (v : sample_variance y ≡ variance) where
  pub order_zero : (order =? 0) ≡ true → Failed OrderZero ≡ fit_check q y
  unfolding fit_check
  order_zero e = let z : (p q =? 0) ≡ true = ap (λ (x : ℕ). x =? 0) o ∙ e in rw z refl

  module _ (some : (order =? 0) ≡ false) where
    pub no_variance : usable variance ≡ false → Failed (SampleVariance variance) ≡ fit_check q y
    unfolding fit_check
    no_variance e = let z : (p q =? 0) ≡ false = ap (λ (x : ℕ). x =? 0) o ∙ some in rw (z, v, e) refl

    pub a_variance : usable variance ≡ true → Passed ≡ fit_check q y
    unfolding fit_check
    a_variance e = let z : (p q =? 0) ≡ false = ap (λ (x : ℕ). x =? 0) o ∙ some in rw (z, v, e) refl

pub has_lags : (q : MsarParams) (y : List Float) → fit_check q y ≡ Passed → 0 < p q
unfolding fit_check
has_lags q y e = go (p q) (eqb-false _ _ (untrue _ _ (both (OrderZero when p q =? 0) e).0))
  where
    go : (n : ℕ) → (n ≡ 0 → ⊥) → 0 < n
    go zero h = absurd (h refl)
    go (suc n) h = omega arith

-- what the passes are handed, by a call that was admitted and passed 24 and 25
module _ (S : MsarSpec) (y : List Float) (q : MsarParams) (passed : params_check S q ≡ Passed) where
  pub params_checked : parameter_check q ≡ Passed
  unfolding params_check
  params_checked = (both (parameter_check q) passed).0

  pub fit_ready : (sizes : Sizes) {floor : Float} → (sizes.k ≡ q.means_count) × (sizes.order ≡ q.order) → fit_check q y ≡ Passed → floor ≡ small ⊗ sample_variance y
      → Ready q sizes y floor
  fit_ready sizes e lags f =
      let w = within q params_checked in
      record { labels = e.0; order = e.1; floor_is = f; lagged = has_lags q y lags; blocks = w.blocks; variances = w.variances }

-- ---- the outcome of the call

module _ (S : MsarSpec) (y : List Float) (start : MsarParams) (max : ℕ) (tol : Float) (work smoothed : List Float) where
  -- what it checks of its own
  abbrev pub fit_own : Check
  fit_own = memory_check (length work) (smooth_need S y) before memory_check (length smoothed) (table_need S y)

  module _ {r : Refusal} where
    pub fit_refused : admitted_check S y fit_own start ≡ Failed r → record { answer = Err r; work = work; smoothed = smoothed } ≡ fit_call S y start max tol work smoothed
    unfolding fit_call
    fit_refused e = rw e

    pub fit_refused_later : admitted_check S y fit_own start ≡ Passed → fit_check start y ≡ Failed r
        → record { answer = Err r; work = work; smoothed = smoothed } ≡ fit_call S y start max tol work smoothed
    unfolding fit_call
    fit_refused_later e d = rw (e, d)

  pub fit_ran : {a : Result Fitted Refusal} {need : ℕ} {w t : List Float} → a ≡ fitted_of y tol max start → need ≡ smooth_need S y → w ≡ cleared need work
      → t ≡ fitted_table y tol max start smoothed → admitted_check S y fit_own start ≡ Passed → fit_check start y ≡ Passed
      → record { answer = a; work = w; smoothed = t } ≡ fit_call S y start max tol work smoothed
  unfolding fit_call
  fit_ran answer needed ran table e d = rw (e, d, answer, ran, needed, table)
