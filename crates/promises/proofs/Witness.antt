-- What demand 3 asks first can be met: a call of `filter` with two labels, order 0, rule 2 and one reading, computed. Assumes nothing.
use Rattle.std.specs.Prelude.{Result, Ok}
use mathlib.Core.Path.{◌≡◌, refl, sym, ap, subst, ◌∙◌}
use mathlib.Core.Bool.{Bool, true, false, not}
use mathlib.Core.List.{List, [], ◌∷◌}
use Prim.Native.Nat.{ℕ, zero, suc, ◌<◌}
use native.Mathlib.Nat.{le_of_suc-le-suc, not-suc-le-zero}
use lib.Count.{count_trailing_zeros}
use lib.ListN.{replicate}
use lib.Ieee.{Float, add, sub, mul, div, neg, lt, le, eq, sum, round, size, units, odd, span, climb, of_bits, to_bits, of_fields, of_int, to_unsigned}
use Rattle.number.specs.Number.{zero⁺, one, magnitude_of, usable}
use Rattle.number.specs.Sums.{sum_up}
use Rattle.number.specs.Table.{◌!◌, tab}
use Rattle.rounding.specs.Units.{in_units}
use Rattle.root.specs.Root.{root_of, root_pattern, whole_root, cut}
use Rattle.logarithm.specs.Log.{log_of, log_poly, log_close, log_mid, log_out, log_far, log_normal}
use Rattle.exp.specs.Exp.{exp_of, exp_poly, exp_zero, exp_part, exp_scale, signed, exp_whole, exp_far, exp_near, exp_reduce, exp_large}
use Rattle.normal.specs.Normal.{lnpdf_of}
use Rattle.window.specs.Windows.{labels, number}
use Rattle.refusal.specs.Checks.{Passed, ◌when◌, ◌before◌, each, check_of}
use Rattle.refusal.specs.declared.Refusal.TheVariants.{Likelihood}
use Rattle.spec.specs.Spec.{spec_check}
use Rattle.spec.specs.declared.MsarSpec.{MsarSpec}
use Rattle.params.specs.declared.MsarParams.{MsarParams}
use Rattle.params.specs.Parameters.{matches_spec}
use Rattle.params.specs.Checks.{is_probability, column_sum, mean_check, entry_check, column_check, ar_check, variance_check, parameter_check}
use Rattle.stationary.specs.Stationary.{solved_shares, start_shares, values_of}
use Rattle.refusal.specs.declared.Refusal.{Refusal}
use Rattle.stationary.proofs.Examples as shares
use Rattle.binding.specs.Binding.{reading_check, readings_check, length_check, bound_check, memory_check, rule_check, params_check, admitted_check}
use Rattle.rows.specs.Rows.{row_of}
use Rattle.density.specs.Density.{mean_to, normal_exponent, log_density, density}
use Rattle.prediction.specs.Prediction.{first_to, first_prediction, rule_of}
use Rattle.prediction.specs.declared.Rule.TheVariants.{Two}
use Rattle.filter.specs.Filter.{weight, total, predicted_row, likelihood, likelihood_check, filter_check}
use Rattle.calls.specs.Calls.{run_check, run_answer, filter_call}
use Rattle.promises.specs.Demand.{NotBelow, Asked}
use Rattle.promises.specs.Twelve.{quarter, three_quarters, alike}

abbrev spec : MsarSpec
spec = record { k_regimes = 2; order = 0; switching_ar = false; switching_variance = false }

abbrev params : MsarParams
params = alike 0

abbrev series : List Float
series = one ∷ []

abbrev start : List Float
start = quarter ∷ three_quarters ∷ replicate 14 zero⁺

admitted : admitted_check spec series ((memory_check 258 258 before memory_check 2 2) before rule_check 2) params ≡ Passed
unfolding admitted_check rule_check bound_check spec_check length_check readings_check reading_check params_check matches_spec parameter_check mean_check entry_check column_check ar_check variance_check column_sum sum_up is_probability usable each magnitude_of lt le eq of_bits mul div add sub neg sum round size units odd span climb of_fields count_trailing_zeros
admitted = refl

likely : usable (likelihood Two params series start 0) ≡ true
unfolding likelihood total weight predicted_row row_of tab labels number first_prediction first_to density log_density normal_exponent mean_to usable sum_up lnpdf_of root_of root_pattern whole_root cut in_units log_of log_poly log_close log_mid log_out log_far log_normal exp_of exp_poly exp_zero exp_part exp_scale signed exp_whole exp_far exp_near exp_reduce exp_large of_bits to_bits add sub mul div neg lt eq to_unsigned of_int size
likely = refl

-- the shares are P4's
from : solved_shares 2 params.transition ≡ Ok start
from = (shares.values).p4

passed : each 1 (likelihood_check Two params series start) ≡ Passed
unfolding likelihood_check each
passed = ap (λ (b : Bool). Likelihood 0 when not b) likely

ran : run_check Two params series ≡ Passed
unfolding run_check filter_check
ran = ap (λ (s : Result (List Float) Refusal). check_of s before each 1 (likelihood_check Two params series (values_of s))) from ∙ passed

shares_are : (s : ℕ) → s < 2 → NotBelow ((values_of (start_shares params)) ! s)
shares_are s h = subst (λ (x : Result (List Float) Refusal). NotBelow (values_of x ! s)) (sym from) (go s h)
  where
    go : (s : ℕ) → s < 2 → NotBelow (start ! s)
    go zero h = unfold lt of_bits in refl
    go (suc zero) h = unfold lt of_bits in refl
    go (suc (suc s)) h = absurd (not-suc-le-zero (le_of_suc-le-suc (le_of_suc-le-suc h)))

pub asked : Asked params (filter_call spec series params 2 (replicate 258 zero⁺) (replicate 2 zero⁺))
unfolding filter_call run_answer rule_of
asked = record { answers = rw (admitted, ran); shares = shares_are }
