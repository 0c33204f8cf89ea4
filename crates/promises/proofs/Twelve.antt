-- Document 01's twelve proved examples, computed of the definitions. Assumes nothing.
use mathlib.Core.Path.{◌≡◌, refl, sym, ap, subst, ◌∙◌}
use mathlib.Core.Bool.{false}
use Rattle.std.specs.Prelude.{Result, Ok}
use mathlib.Core.List.{List, [], ◌∷◌}
use Prim.Native.Nat.{ℕ, zero, suc, ◌+◌, ◌-◌, ◌^◌, ◌≤◌, ◌<◌}
use native.Mathlib.Nat.{le_of_suc-le-suc, not-suc-le-zero}
use lib.Count.{count_trailing_zeros}
use lib.Dec.{T, lit≤}
use lib.ListN.{replicate}
use lib.Ieee.{Float, inf, binary64, fits, add, sub, mul, div, neg, lt, le, eq, sum, round, size, units, odd, span, climb, of_bits, to_bits, of_int, of_fields}
use Rattle.number.specs.Number.{float, zero⁺, half, one, magnitude_of, usable}
use Rattle.number.specs.Sums.{sum_up}
use Rattle.number.specs.Table.{tab, fill_at}
use Rattle.rounding.specs.Units.{in_units}
use Rattle.rounding.specs.Sums.{good}
use Rattle.root.specs.Root.{root_of, root_pattern, whole_root, cut}
use Rattle.window.specs.Windows.{labels, number, successors, predecessors}
use Rattle.refusal.specs.Refusals.{saying}
use Rattle.refusal.specs.Checks.{Passed, check_of, each}
use Rattle.spec.specs.Spec.{spec_check, window_count}
use Rattle.params.specs.Checks.{is_probability, column_sum, mean_check, entry_check, column_check, ar_check, variance_check, parameter_check}
use Rattle.params.specs.Durations.{duration, durations_of}
use Rattle.stationary.specs.Stationary.{shares_of, values_of}
use Rattle.refusal.specs.declared.Refusal.{Refusal}
use Rattle.stationary.proofs.Examples as shares
use Rattle.rows.specs.Rows.{row_of, probability}
use Rattle.prediction.specs.Prediction.{first_to, first_prediction, mixes, later_prediction}
use Rattle.filter.specs.Filter.{predicted_row}
use Rattle.em_sample_variance.proofs.Examples as variances
use Rattle.fit.specs.Calls.{FitOutcome}
use Rattle.rounding.specs.NearOne.{exact_total, unity, allowed}
use Rattle.promises.specs.Twelve.{told, quarter, three_quarters, columns, alike, third, P3, P8, Twelve}
use Rattle.promises.proofs.ConstantSeries as constant

-- ---- P3

p3 : P3
unfolding window_count spec_check
p3 = record { sixteen_one = refl; six_two = refl; two_eight = refl; seven_two = refl; seventeen_one = refl; seventeen_zero = refl; one_zero = refl }

-- ---- the checks of P4, P6 and P10, and P11's durations

record Checked : Type 0 where
  pub p4 : parameter_check (alike 0) ≡ Passed
  pub p6 : parameter_check (columns 0 one zero⁺ zero⁺ one) ≡ Passed
  pub p10 : told (parameter_check (columns 0 one zero⁺ half (float 0x3FDF_5C28_F5C2_8F5C))) ≡ saying 14 1 (float 0x3FEF_AE14_7AE1_47AE)

checked : Checked
unfolding parameter_check mean_check entry_check column_check ar_check variance_check column_sum sum_up is_probability usable each magnitude_of lt le eq of_bits mul div add sub neg sum round size units odd span climb of_fields count_trailing_zeros
checked = record { p4 = refl; p6 = refl; p10 = refl }

durations : durations_of (columns 0 three_quarters quarter zero⁺ one) ≡ Ok (float 0x4010_0000_0000_0000 ∷ inf false ∷ replicate 14 zero⁺)
unfolding durations_of duration fill_at tab parameter_check mean_check entry_check column_check ar_check variance_check column_sum sum_up is_probability usable each magnitude_of lt le eq of_bits mul div add sub neg sum round size units odd span climb of_fields count_trailing_zeros
durations = refl

-- ---- P5, from the shares of P4

first : row_of 2 1 (first_prediction (alike 1) (quarter ∷ three_quarters ∷ replicate 14 zero⁺))
    ≡ float 0x3FB0_0000_0000_0000 ∷ float 0x3FC8_0000_0000_0000 ∷ float 0x3FC8_0000_0000_0000 ∷ float 0x3FE2_0000_0000_0000 ∷ []
unfolding row_of tab labels number first_prediction first_to mul of_bits
first = refl

-- ---- P8

total_is : exact_total 3 third ≡ 2 ^ 1074 - 2 ^ 1020
unfolding probability row_of tab labels number sum_up in_units add div of_bits
total_is = refl

each_good : (s : ℕ) → s < 3 → T (good binary64 (third s))
unfolding probability row_of tab labels number sum_up add div le fits of_bits
each_good zero h = tt
each_good (suc zero) h = tt
each_good (suc (suc zero)) h = tt
each_good (suc (suc (suc s))) h = absurd (not-suc-le-zero (le_of_suc-le-suc (le_of_suc-le-suc (le_of_suc-le-suc h))))

p8 : P8
p8 =
    record {
      exact_total_lem = total_is;
      allowed_is = refl;
      within =
          record {
            each = each_good;
            not_above = subst (λ (n : ℕ). n ≤ unity + allowed 3) (sym total_is) (lit≤ tt);
            not_below_lem = subst (λ (n : ℕ). unity ≤ n + allowed 3) (sym total_is) (lit≤ tt);
          };
    }

-- ---- all twelve

pub twelve : Twelve
unfolding predicted_row shares_of
twelve =
    record {
      p1 = unfold tab labels number successors predecessors in (refl, refl, refl);
      p2 = unfold tab labels number successors predecessors in (refl, refl);
      p3 = p3;
      p4 = rw checked.p4 (shares.values).p4;
      p5 = λ rule y. ap (λ (s : Result (List Float) Refusal). row_of 2 1 (first_prediction (alike 1) (values_of s))) (shares.values).p4 ∙ first;
      p6 = rw checked.p6 (ap (λ (s : Result (List Float) Refusal). told (check_of s)) (shares.values).p6 ∙ (unfold of_int of_bits in refl));
      p7 = unfold row_of tab labels number later_prediction mixes sum_up add mul of_bits in refl;
      p8 = p8;
      p9 = record { spread = (variances.values).p9_spread; constant = (variances.values).p9_constant; fit = constant.p9_fit; gives = λ maxIter tol. ap (λ (x : FitOutcome). told (check_of x.answer)) (constant.p9_fit maxIter tol) };
      p10 = checked.p10;
      p11 = durations;
      p12 = unfold root_of root_pattern whole_root cut size in_units of_bits to_bits in (refl, refl);
    }
