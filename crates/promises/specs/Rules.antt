-- The two rules of a later prediction, beside each other: document 02, Q-5. "For the row (0.25, 0.75) and columns (0.5, 0.5) and (0.25, 0.75) this is
-- (0.3125, 0.6875)", where rule 1 gives document 01's P7; and "From order one up both rules give equal bits", of whole calls.
use Rattle.std.specs.Prelude.{◌≤◌, ◌≡◌, List, [], ◌∷◌, Float}
use Rattle.number.specs.Number.{float, half}
use Rattle.spec.specs.declared.MsarSpec.{MsarSpec}
use Rattle.params.specs.declared.MsarParams.{MsarParams}
use Rattle.rows.specs.Rows.{row_of}
use Rattle.prediction.specs.Prediction.{later_prediction}
use Rattle.prediction.specs.declared.Rule.{Rule}
use Rattle.prediction.specs.declared.Rule.TheVariants.{One, Two}
use Rattle.calls.specs.Calls.{loglike_call, filter_call, smooth_call}
use Rattle.promises.specs.Twelve.{quarter, three_quarters, columns}

-- ---- order zero, two labels: a row after the row (0.25, 0.75)

abbrev pub after : Rule → List Float
after rule = row_of 2 0 (later_prediction rule (columns 0 half half quarter three_quarters) (quarter ∷ three_quarters ∷ []))

pub record OrderZero : Type 0 where
  -- (0.5, 0.5), P7
  pub one : after One ≡ half ∷ half ∷ []
  -- (0.3125, 0.6875)
  pub two : after Two ≡ float 0x3FD4_0000_0000_0000 ∷ float 0x3FE6_0000_0000_0000 ∷ []

-- ---- from order one up: the whole outcome of each call, its answer and every place that it was lent, for every spec, series and parameters. What
-- the record's methods and C leave is made of these outcomes (EntryPoints.antt)

pub record Agree : Type 0 where
  pub loglike : (S : MsarSpec) (y : List Float) (q : MsarParams) (work : List Float)
      → 1 ≤ S.order → loglike_call S y q 1 work ≡ loglike_call S y q 2 work
  pub filter : (S : MsarSpec) (y : List Float) (q : MsarParams) (work filtered : List Float)
      → 1 ≤ S.order → filter_call S y q 1 work filtered ≡ filter_call S y q 2 work filtered
  pub smooth : (S : MsarSpec) (y : List Float) (q : MsarParams) (work filtered smoothed : List Float)
      → 1 ≤ S.order → smooth_call S y q 1 work filtered smoothed ≡ smooth_call S y q 2 work filtered smoothed
