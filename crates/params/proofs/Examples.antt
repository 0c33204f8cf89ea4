-- Parameters for each refusal on themselves but 14, which is document 01's P10. Assumes nothing.
use mathlib.Core.Path.{◌≡◌, refl}
use mathlib.Core.Bool.{true}
use mathlib.Core.List.{List, [], ◌∷◌, ◌++◌}
use Prim.Native.Nat.{ℕ, ◌-◌}
use lib.ListN.{replicate, length}
use lib.Count.{count_trailing_zeros}
use lib.Ieee.{Float, inf, nan, lt, le, eq, of_bits, mul, add, sub, neg, sum, round, size, units, odd, span, climb, of_fields}
use Rattle.number.specs.Number.{float, zero⁺, half, one, magnitude_of, usable}
use Rattle.number.specs.Sums.{sum_up}
use Rattle.refusal.specs.Checks.{Failed, each}
use Rattle.refusal.specs.declared.Refusal.TheVariants.{FewMeans, Beyond, Mean, Length, Transition, NoAr, Ar, Variance}
use Rattle.params.specs.declared.MsarParams.{MsarParams}
use Rattle.params.specs.Checks.{is_probability, column_sum, mean_check, entry_check, column_check, ar_check, variance_check, parameter_check}

-- an array whose first places are these, the others zero
abbrev pub padded : ℕ → List Float → List Float
padded n l = l ++ replicate (n - length l) zero⁺

-- the counts of means, transition, AR blocks, order, AR, variances; then the lists, the transition row by row
abbrev pub params : ℕ → ℕ → ℕ → ℕ → ℕ → ℕ → List Float → List Float → List Float → List Float → MsarParams
params k t b p a v transition means ar variances =
    record {
      transition = padded 256 transition;
      means = padded 16 means;
      ar = padded 112 ar;
      variances = padded 16 variances;
      means_count = k;
      transition_count = t;
      ar_blocks = b;
      order = p;
      ar_count = a;
      variances_count = v;
    }

abbrev quarter : Float
quarter = float 0x3FD0_0000_0000_0000

abbrev three_quarters : Float
three_quarters = float 0x3FE8_0000_0000_0000

-- stay probabilities 0.75 and 1
abbrev steps : List Float
steps = three_quarters ∷ zero⁺ ∷ quarter ∷ one ∷ []

abbrev pub means : List Float
means = zero⁺ ∷ one ∷ []

abbrev pub variances : List Float
variances = one ∷ []

-- each refusal, by its number
pub record Refused : Type 0 where
  pub ten : parameter_check (params 1 4 1 0 0 1 steps means [] variances) ≡ Failed (FewMeans 1)
  pub eighteen_means : parameter_check (params 17 4 1 0 0 1 steps means [] variances) ≡ Failed (Beyond 17)
  pub eighteen_order : parameter_check (params 2 4 1 8 8 1 steps means [] variances) ≡ Failed (Beyond 8)
  pub eleven : parameter_check (params 2 4 1 0 0 1 steps (zero⁺ ∷ nan ∷ []) [] variances) ≡ Failed (Mean 1 nan)
  pub twelve_transition : parameter_check (params 2 3 1 0 0 1 steps means [] variances) ≡ Failed (Length 4)
  pub thirteen_below : parameter_check (params 2 4 1 0 0 1 (three_quarters ∷ zero⁺ ∷ float 0xBFD0_0000_0000_0000 ∷ one ∷ []) means [] variances) ≡ Failed (Transition 2 (float 0xBFD0_0000_0000_0000))
  pub thirteen_above : parameter_check (params 2 4 1 0 0 1 (three_quarters ∷ float 0x3FF0_0000_055E_63B9 ∷ quarter ∷ zero⁺ ∷ []) means [] variances) ≡ Failed (Transition 1 (float 0x3FF0_0000_055E_63B9))
  pub seventeen : parameter_check (params 2 4 0 0 0 1 steps means [] variances) ≡ Failed NoAr
  pub twelve_blocks : parameter_check (params 2 4 3 0 0 1 steps means [] variances) ≡ Failed (Length 2)
  pub twelve_ar : parameter_check (params 2 4 2 1 1 1 steps means [] variances) ≡ Failed (Length 2)
  pub fifteen : parameter_check (params 2 4 2 1 2 1 steps means (half ∷ inf true ∷ []) variances) ≡ Failed (Ar 1 (inf true))
  pub twelve_variances : parameter_check (params 2 4 1 0 0 3 steps means [] variances) ≡ Failed (Length 2)
  pub sixteen : parameter_check (params 2 4 1 0 0 2 steps means [] (one ∷ zero⁺ ∷ [])) ≡ Failed (Variance 1 zero⁺)

pub refused : Refused
unfolding parameter_check mean_check entry_check column_check ar_check variance_check column_sum sum_up is_probability usable each magnitude_of lt le eq of_bits mul add sub neg sum round size units odd span climb of_fields count_trailing_zeros
refused =
    record {
      ten = refl;
      eighteen_means = refl;
      eighteen_order = refl;
      eleven = refl;
      twelve_transition = refl;
      thirteen_below = refl;
      thirteen_above = refl;
      seventeen = refl;
      twelve_blocks = refl;
      twelve_ar = refl;
      fifteen = refl;
      twelve_variances = refl;
      sixteen = refl;
    }
