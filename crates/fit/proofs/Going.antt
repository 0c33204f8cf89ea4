-- What the passes keep: the parameters pass their checks and have the start's counts, and there are at most as many passes as asked for.
-- Assumes nothing.
use Rattle.std.specs.Prelude.{if◌then◌else◌, Result, Ok, Err}
use Prim.Native.Nat.{ℕ, zero, suc, ◌+◌, ◌-◌, ◌≤◌}
use mathlib.Core.Path.{◌≡◌, refl, sym, ap, subst, ◌∙◌}
use mathlib.Core.Bool.{Bool, true, false, not}
use mathlib.Core.List.{List}
use native.Mathlib.Omega.{arith}
use native.Mathlib.Numerals.{add-one}
use lib.Ieee.{Float}
use lib.Ieee.Scale.{finite}
use Rattle.number.specs.Number.{zero⁺}
use Rattle.refusal.specs.Checks.{Check, Passed, Failed, ◌when◌, ◌before◌}
use Rattle.refusal.specs.declared.Refusal.{Refusal}
use Rattle.refusal.specs.declared.Refusal.TheVariants.{Loglike}
use Rattle.params.specs.declared.MsarParams.{MsarParams}
use Rattle.params.specs.Checks.{parameter_check}
use Rattle.filter.specs.Filter.{row_count}
use Rattle.prediction.specs.declared.Rule.TheVariants.{One}
use Rattle.calls.specs.Calls.{run_check, run_loglik}
use Rattle.em_step.specs.Step.{step_of}
use Rattle.em_step.proofs.Kept.{Alike, alike_twice, Good, step_good}
use Rattle.fit.specs.declared.Course.{Course}
use Rattle.fit.specs.declared.Course.TheVariants.{Going, Converged, Refused}
use Rattle.fit.specs.declared.State.{State}
use Rattle.fit.specs.Fit.{reached, stepped, smoothed_rows, stops, pass_of, onward, passes_to}

-- ---- the loop

-- the state that the passes begin with
pub begins : (y : List Float) (tol : Float) (s : State) → s.course ≡ Going → s.loglik ≡ zero⁺ → s ≡ passes_to y tol s.params 0
unfolding passes_to
begins y tol s going nothing =
    ap (λ (c : Course). record { course = c; params = s.params; loglik = s.loglik }) going ∙ ap (λ (x : Float). record { course = Going; params = s.params; loglik = x }) nothing

module _ (y : List Float) (tol : Float) (start : MsarParams) where
  pub none : record { course = Going; params = start; loglik = zero⁺ } ≡ passes_to y tol start 0
  unfolding passes_to
  none = refl

  next_is : (i : ℕ) → passes_to y tol start (suc i) ≡ onward y tol i (passes_to y tol start i) (passes_to y tol start i).course
  unfolding passes_to
  next_is i = refl

  -- one more, from the state that the first i left
  pub one_more : (i : ℕ) {s t : State} → s ≡ passes_to y tol start i → s.course ≡ Going → t ≡ pass_of y tol i s.params s.loglik
      → t ≡ passes_to y tol start (i + 1)
  one_more i {s} e going d =
      d
      ∙ sym (ap (onward y tol i s) going)
      ∙ ap (λ (t : State). onward y tol i t t.course) e
      ∙ sym (next_is i)
      ∙ ap (passes_to y tol start) (sym (add-one i))

  -- passes that do not go on stay as they are
  module _ (i : ℕ) {s : State} (e : s ≡ passes_to y tol start i) where
    stay : (c : Course) → s.course ≡ c → ((t : State) (j : ℕ) → onward y tol j t c ≡ t) → (d : ℕ) → s ≡ passes_to y tol start (d + i)
    stay c g same zero = let z : i ≡ 0 + i = omega arith in e ∙ ap (passes_to y tol start) z
    stay c g same (suc d) =
        let z : suc (d + i) ≡ suc d + i = omega arith in
        sym (same s (d + i))
        ∙ sym (ap (onward y tol (d + i) s) g)
        ∙ ap (λ (t : State). onward y tol (d + i) t t.course) (stay c g same d)
        ∙ sym (next_is (d + i))
        ∙ ap (passes_to y tol start) z

    pub converged_stays : {n max : ℕ} → s.course ≡ Converged n → i ≤ max → s ≡ passes_to y tol start max
    converged_stays {n} {max} g h =
        let d : max - i + i ≡ max = omega arith in stay (Converged n) g (λ t j. refl) (max - i) ∙ ap (passes_to y tol start) d

    pub refused_stays : {r : Refusal} {max : ℕ} → s.course ≡ Refused r → i ≤ max → s ≡ passes_to y tol start max
    refused_stays {r} {max} g h =
        let d : max - i + i ≡ max = omega arith in stay (Refused r) g (λ t j. refl) (max - i) ∙ ap (passes_to y tol start) d

-- ---- what they keep

-- after i passes, unless they were refused: good parameters; converged in at most i passes
abbrev pub Kept : MsarParams → ℕ → Course → MsarParams → Type 0
Kept start i Going q = Good q start
Kept start i (Converged n) q = Good q start × (n ≤ i)
Kept start i (Refused r) q = Unit {0}

pub alike_self : (q : MsarParams) → Alike q q
alike_self q = record { labels = refl; order = refl; blocks = refl; variances = refl }

module _ (start : MsarParams) where
  reached_kept : (j : ℕ) (q : MsarParams) (last : Float) (c : Check) (s : State) → (c ≡ Passed → Kept start j s.course s.params)
      → Kept start j (reached q last c s).course (reached q last c s).params
  reached_kept j q last Passed s h = h refl
  reached_kept j q last (Failed r) s h = tt

  stepped_kept : (j : ℕ) (q : MsarParams) (last loglik : Float) (new : Result MsarParams Refusal) → ((q' : MsarParams) → new ≡ Ok q' → Good q' start)
      → Kept start j (stepped q last loglik new).course (stepped q last loglik new).params
  stepped_kept j q last loglik (Ok q') h = h q' refl
  stepped_kept j q last loglik (Err r) h = tt

  either_kept : (j : ℕ) (b : Bool) (s t : State) → Kept start j s.course s.params → Kept start j t.course t.params
      → Kept start j (if b then s else t).course (if b then s else t).params
  either_kept j true s t h g = h
  either_kept j false s t h g = g

  module _ (y : List Float) (tol : Float) where
    pass_kept : (i : ℕ) (q : MsarParams) (last : Float) → Good q start → Kept start (suc i) (pass_of y tol i q last).course (pass_of y tol i q last).params
    unfolding pass_of
    pass_kept i q last good =
        let new = step_of y (row_count q y) (smoothed_rows q y) q in
        reached_kept (suc i) q last (run_check One q y before Loglike when not (finite (run_loglik One q y))) _ (λ _.
        either_kept (suc i) (stops tol i last (run_loglik One q y)) _ _ (good, omega arith)
        (stepped_kept (suc i) q last (run_loglik One q y) new (λ q' d.
        let g = step_good y (row_count q y) (smoothed_rows q y) q d in
        record { alike = alike_twice g.alike good.alike; checked = g.checked })))

    onward_kept : (i : ℕ) (s : State) (c : Course) → s.course ≡ c → Kept start i c s.params → Kept start (suc i) (onward y tol i s c).course (onward y tol i s c).params
    onward_kept i s Going e good = pass_kept i s.params s.loglik good
    onward_kept i s (Converged n) e good = rw e (good.0, omega (arith, good.1))
    onward_kept i s (Refused r) e good = rw e tt

    pub passes_kept : parameter_check start ≡ Passed → (i : ℕ) → Kept start i (passes_to y tol start i).course (passes_to y tol start i).params
    unfolding passes_to
    passes_kept e zero = record { alike = alike_self start; checked = e }
    passes_kept e (suc i) = onward_kept i (passes_to y tol start i) (passes_to y tol start i).course refl (passes_kept e i)

    module _ (checked : parameter_check start ≡ Passed) (i : ℕ) {s : State} (e : s ≡ passes_to y tol start i) where
      kept_in : {c : Course} → s.course ≡ c → Kept start i c s.params
      kept_in {c} d =
          subst (λ (x : Course). Kept start i x s.params) d
          (subst (λ (x : State). Kept start i x.course x.params) (sym e) (passes_kept checked i))

      pub going_good : s.course ≡ Going → Good s.params start
      going_good d = kept_in d

      pub converged_good : {n : ℕ} → s.course ≡ Converged n → Good s.params start × (n ≤ i)
      converged_good d = kept_in d
