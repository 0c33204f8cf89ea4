-- The C interface: the spec that it is handed, and what each of its calls leaves in the arrays.
-- After include/msar.h, which says the same in C.
use Rattle.std.specs.Prelude.{ℕ, Bool, List, Float}
use Rattle.spec.specs.declared.MsarSpec.{MsarSpec}
use Rattle.calls.specs.Calls.{Outcome}
use Rattle.fit.specs.Calls.{FitOutcome}
use Rattle.c_layout.specs.Layout.{loglik_spelled, fit_spelled, numbers_after}

abbrev pub spec_of : ℕ → ℕ → Bool → Bool → MsarSpec
spec_of k p switchingAr switchingVariance =
    record { k_regimes = k; order = p; switching_ar = switchingAr; switching_variance = switchingVariance }

-- ---- a call on a series: its answer, and what it leaves in lent memory. A call that takes no such table is lent the empty one

pub record Left : Type 0 where
  pub whole : List ℕ
  pub real : List Float
  pub work : List Float
  pub filtered : List Float
  pub smoothed : List Float

unfoldable pub left : Outcome → Left
left o =
    let told = loglik_spelled o.answer in
    record { whole = told.whole; real = told.real; work = o.work; filtered = o.filtered; smoothed = o.smoothed }

-- ---- a fit: its parameters too, laid out as they are handed in

pub record FitLeft : Type 0 where
  pub whole : List ℕ
  pub real : List Float
  pub work : List Float
  pub smoothed : List Float
  pub fitted : List Float

unfoldable pub fit_left : FitOutcome → List Float → FitLeft
fit_left o found =
    let told = fit_spelled o.answer in
    record {
      whole = told.whole;
      real = told.real;
      work = o.work;
      smoothed = o.smoothed;
      fitted = numbers_after o.answer found;
    }
