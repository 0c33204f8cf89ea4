-- Document 01's twelve proved examples: one record, a field for each, in its order and under its own sentence. They are stated of the definitions
-- that the functions' contracts cite, and each refusal in document 01's numbers. After document 01, "The twelve proved examples".
use Rattle.std.specs.Prelude.{◌≡◌, false, List, [], ◌∷◌, ℕ, ◌-◌, ◌*◌, ◌^◌, replicate, Float, Result, Ok, Err}
use Rattle.std.specs.Float.{inf}
use Rattle.number.specs.Number.{◌⊘◌, pattern_of, float, zero⁺, half, one, two}
use Rattle.number.specs.Sums.{sum_up}
use Rattle.root.specs.Root.{root_of}
use Rattle.window.specs.Windows.{labels, successors, predecessors}
use Rattle.refusal.specs.Refusals.{saying, said}
use Rattle.refusal.specs.declared.Said.{Said}
use Rattle.refusal.specs.Checks.{Check, Passed, Failed, check_of}
use Rattle.refusal.specs.declared.Refusal.{Refusal}
use Rattle.refusal.specs.declared.Refusal.TheVariants.{SampleVariance}
use Rattle.spec.specs.Spec.{window_count}
use Rattle.spec.specs.declared.MsarSpec.{MsarSpec}
use Rattle.params.specs.declared.MsarParams.{MsarParams}
use Rattle.params.specs.Checks.{parameter_check}
use Rattle.params.specs.Durations.{durations_of}
use Rattle.stationary.specs.Stationary.{shares_of, start_shares, values_of}
use Rattle.rows.specs.Rows.{row_of, probability}
use Rattle.prediction.specs.Prediction.{later_prediction}
use Rattle.prediction.specs.declared.Rule.{Rule}
use Rattle.prediction.specs.declared.Rule.TheVariants.{One}
use Rattle.filter.specs.Filter.{predicted_row}
use Rattle.em_sample_variance.specs.Series.{sample_variance}
use Rattle.fit.specs.Calls.{FitOutcome, fit_call}
use Rattle.rounding.specs.NearOne.{exact_total, allowed, NearOne}

-- ---- a refusal in numbers: its number, place and value, all zero where nothing is refused

abbrev pub told : Check → Said
told Passed = saying 0 0 zero⁺
told (Failed r) = said r

-- of a window count
abbrev pub told_of : Result ℕ Refusal → Said
told_of (Ok m) = saying 0 0 zero⁺
told_of (Err r) = said r

-- ---- the examples' parameters

-- 0.25, 0.75 and 3
abbrev pub quarter : Float
quarter = float 0x3FD0_0000_0000_0000

abbrev pub three_quarters : Float
three_quarters = float 0x3FE8_0000_0000_0000

abbrev pub three : Float
three = float 0x4008_0000_0000_0000

-- two labels and order p, at most one: the transition has the columns (a, b) and (c, d), and is stored row by row. Means 0 and 1, one coefficient
-- 0.5 at order one, one variance 1
abbrev pub columns : ℕ → Float → Float → Float → Float → MsarParams
columns p a b c d =
    record {
      transition = a ∷ c ∷ b ∷ d ∷ replicate 252 zero⁺;
      means = zero⁺ ∷ one ∷ replicate 14 zero⁺;
      ar = half ∷ replicate 111 zero⁺;
      variances = one ∷ replicate 15 zero⁺;
      means_count = 2;
      transition_count = 4;
      ar_blocks = 1;
      order = p;
      ar_count = p;
      variances_count = 1;
    }

-- both columns (0.25, 0.75): P4's and P5's, and those that P9's fit starts from
abbrev pub alike : ℕ → MsarParams
alike p = columns p quarter three_quarters quarter three_quarters

-- ---- P8: the weights 1, 1, 1 of three labels at order 0, each divided by their sum; and the labels' probabilities in this row

abbrev pub thirds : List Float
thirds = row_of 3 0 (λ w. one ⊘ sum_up (λ a. one) 3)

abbrev pub third : ℕ → Float
third = probability 3 0 thirds

-- ---- P9: the fit at order 1 of the series 2, 2. It is lent what one row of four windows needs, 8 places of work memory and 2 of the table

abbrev pub order_one : MsarSpec
order_one = record { k_regimes = 2; order = 1; switching_ar = false; switching_variance = false }

abbrev pub constant_fit : ℕ → Float → FitOutcome
constant_fit maxIter tol = fit_call order_one (two ∷ two ∷ []) (alike 1) maxIter tol (replicate 8 zero⁺) (replicate 2 zero⁺)

-- refused with the variance +0; memory as lent
abbrev pub fit_refused : FitOutcome
fit_refused =
    record {
      answer = Err (SampleVariance zero⁺);
      work = replicate 8 zero⁺;
      smoothed = replicate 2 zero⁺;
    }

-- ---- the examples that say several things

-- P3. A refused spec carries k
pub record P3 : Type 0 where
  pub sixteen_one : window_count 16 1 ≡ Ok 256
  pub six_two : window_count 6 2 ≡ Ok 216
  pub two_eight : told_of (window_count 2 8) ≡ saying 2 2 zero⁺
  pub seven_two : told_of (window_count 7 2) ≡ saying 2 7 zero⁺
  pub seventeen_one : told_of (window_count 17 1) ≡ saying 2 17 zero⁺
  pub seventeen_zero : told_of (window_count 17 0) ≡ saying 3 17 zero⁺
  pub one_zero : told_of (window_count 1 0) ≡ saying 1 1 zero⁺

-- P8, in units of 2 ^ -1074: one is 2 ^ 1074, 2 ^ -54 is 2 ^ 1020, and 3 / 2 ^ 52 is 3 * 2 ^ 1022
pub record P8 : Type 0 where
  pub exact_total_lem : exact_total 3 third ≡ 2 ^ 1074 - 2 ^ 1020
  pub allowed_is : allowed 3 ≡ 3 * 2 ^ 1022
  pub within : NearOne 3 3 third

-- P9. The fit gives the same whatever passes and tolerance are allowed; 25 carries the variance
pub record P9 : Type 0 where
  pub spread : sample_variance (one ∷ three ∷ []) ≡ one
  pub constant : sample_variance (two ∷ two ∷ []) ≡ zero⁺
  pub fit : (maxIter : ℕ) (tol : Float) → constant_fit maxIter tol ≡ fit_refused
  pub gives : (maxIter : ℕ) (tol : Float) → told (check_of (constant_fit maxIter tol).answer) ≡ saying 25 0 zero⁺

-- ---- all twelve

pub record Twelve : Type 0 where
  -- k=3, p=2: window 14 has labels 2,1,1; successors 15,16,17; predecessors 4,13,22
  pub p1 : (labels 3 3 14 ≡ 2 ∷ 1 ∷ 1 ∷ []) × (successors 3 2 14 ≡ 15 ∷ 16 ∷ 17 ∷ []) × (predecessors 3 2 14 ≡ 4 ∷ 13 ∷ 22 ∷ [])
  -- k=2, p=1: window 1 has successors 2,3 and predecessors 0,2
  pub p2 : (successors 2 1 1 ≡ 2 ∷ 3 ∷ []) × (predecessors 2 1 1 ≡ 0 ∷ 2 ∷ [])
  -- k,p = 16,1 and 6,2 accepted (256, 216); 2,8 and 7,2 and 17,1 give 2; 17,0 gives 3; 1,0 gives 1
  pub p3 : P3
  -- both columns (0.25, 0.75): shares 0.25, 0.75
  pub p4 : shares_of (alike 0) ≡ Ok (quarter ∷ three_quarters ∷ replicate 14 zero⁺)
  -- same P, p=1, first prediction 0.0625, 0.1875, 0.1875, 0.5625 (the filter's own first row, whatever the rule and the series)
  pub p5 : (rule : Rule) (y : List Float) → predicted_row rule (alike 1) y (values_of (start_shares (alike 1))) 0
      ≡ float 0x3FB0_0000_0000_0000 ∷ float 0x3FC8_0000_0000_0000 ∷ float 0x3FC8_0000_0000_0000 ∷ float 0x3FE2_0000_0000_0000 ∷ []
  -- P the 2 by 2 identity: 21; it carries the column (document 02, Q-4), and column 1 is the first whose pivot is too small
  pub p6 : told (check_of (shares_of (columns 0 one zero⁺ zero⁺ one))) ≡ saying 21 0 one
  -- order 0, columns (0.5,0.5) and (0.25,0.75), previous row (0.25,0.75): prediction (0.5,0.5). This is rule 1; Rules.antt has rule 2's beside it
  pub p7 : row_of 2 0 (later_prediction One (columns 0 half half quarter three_quarters) (quarter ∷ three_quarters ∷ [])) ≡ half ∷ half ∷ []
  -- weights 1,1,1 normalised: exact total 1 - 2^-54, allowed 3/2^52
  pub p8 : P8
  -- series 1,3: variance 1; series 2,2: 0, and a fit at order 1 gives 25
  pub p9 : P9
  -- columns (1,0) and (0.5,0.49): 14, column 1 (it carries the column's sum, 0.99)
  pub p10 : told (parameter_check (columns 0 one zero⁺ half (float 0x3FDF_5C28_F5C2_8F5C))) ≡ saying 14 1 (float 0x3FEF_AE14_7AE1_47AE)
  -- stay probabilities 0.75 and 1: durations 4 and +infinity
  pub p11 : durations_of (columns 0 three_quarters quarter zero⁺ one) ≡ Ok (float 0x4010_0000_0000_0000 ∷ inf false ∷ replicate 14 zero⁺)
  -- root of 4 is 2; root of 2 has bits 3FF6A09E667F3BCD
  pub p12 : (root_of (float 0x4010_0000_0000_0000) ≡ two) × (pattern_of (root_of two) ≡ 0x3FF6_A09E_667F_3BCD)
