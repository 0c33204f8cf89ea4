-- A call that ran, and whose answer is spelled, leaves what its definition says. Assumes nothing.
use Rattle.std.specs.Prelude.{Result}
use Prim.Native.Nat.{ℕ}
use mathlib.Core.Path.{◌≡◌, ap, ◌∙◌}
use mathlib.Core.List.{List}
use lib.Ieee.{Float}
use Rattle.refusal.specs.declared.Refusal.{Refusal}
use Rattle.calls.specs.Calls.{Outcome}
use Rattle.fit.specs.declared.Fitted.{Fitted}
use Rattle.fit.specs.Calls.{FitOutcome}
use Rattle.c_layout.specs.Layout.{Spelled, loglik_spelled, fit_spelled, numbers_after}
use Rattle.c_interface.specs.Interface.{Left, left, FitLeft, fit_left}

-- a call on a series
pub leaves : {o : Outcome} {answer : Result Float Refusal} {work filtered smoothed : List Float} {whole : List ℕ} {real : List Float}
    → ◌≡◌ {A = Outcome} (record { answer = answer; work = work; filtered = filtered; smoothed = smoothed }) o
    → ◌≡◌ {A = Spelled} (record { whole = whole; real = real }) (loglik_spelled answer)
    → ◌≡◌ {A = Left} (record { whole = whole; real = real; work = work; filtered = filtered; smoothed = smoothed }) (left o)
unfolding left
leaves {work = work} {filtered = filtered} {smoothed = smoothed} ran told =
    ap (λ (s : Spelled). record { whole = s.whole; real = s.real; work = work; filtered = filtered; smoothed = smoothed }) told ∙ ap left ran

-- a fit
pub fit_leaves : (found : List Float) {o : FitOutcome} {f : Result Fitted Refusal} {work smoothed fitted : List Float} {whole : List ℕ} {real : List Float}
    → ◌≡◌ {A = FitOutcome} (record { answer = f; work = work; smoothed = smoothed }) o
    → fitted ≡ numbers_after f found
    → ◌≡◌ {A = Spelled} (record { whole = whole; real = real }) (fit_spelled f)
    → ◌≡◌ {A = FitLeft} (record { whole = whole; real = real; work = work; smoothed = smoothed; fitted = fitted }) (fit_left o found)
unfolding fit_left
fit_leaves found {f = f} {work} {smoothed} {fitted} ran laid told =
    let spoken = fit_spelled f in
    ap (λ (s : Spelled). record { whole = s.whole; real = s.real; work = work; smoothed = smoothed; fitted = fitted }) told
    ∙ ap (λ (l : List Float). record { whole = spoken.whole; real = spoken.real; work = work; smoothed = smoothed; fitted = l }) laid
    ∙ ap (λ (x : FitOutcome). fit_left x found) ran
