-- P9's fit: at order 1 of the series 2, 2 it is refused with 25, which carries the sample variance +0, and lent memory is as lent; whatever passes
-- and tolerance are allowed. The parameters pass their checks, and the memory is as long as needed, computed. Assumes nothing.
use mathlib.Core.Path.{◌≡◌, refl}
use mathlib.Core.List.{[], ◌∷◌}
use Prim.Native.Nat.{ℕ}
use lib.Count.{count_trailing_zeros}
use lib.Ieee.{Float, add, sub, mul, div, neg, lt, le, eq, sum, round, size, units, odd, span, climb, of_bits, of_fields}
use Rattle.number.specs.Number.{zero⁺, two, magnitude_of, usable}
use Rattle.number.specs.Sums.{sum_up}
use Rattle.refusal.specs.Checks.{Passed, Failed, ◌before◌, each}
use Rattle.refusal.specs.declared.Refusal.TheVariants.{SampleVariance}
use Rattle.spec.specs.Spec.{spec_check}
use Rattle.params.specs.Parameters.{matches_spec}
use Rattle.params.specs.Checks.{is_probability, column_sum, mean_check, entry_check, column_check, ar_check, variance_check, parameter_check}
use Rattle.binding.specs.Binding.{reading_check, readings_check, length_check, bound_check, memory_check, params_check, admitted_check}
use Rattle.em_sample_variance.proofs.Examples as variances
use Rattle.fit.specs.Calls.{fit_check, fit_call}
use Rattle.promises.specs.Twelve.{alike, order_one, constant_fit, fit_refused}

admitted : admitted_check order_one (two ∷ two ∷ []) (memory_check 8 8 before memory_check 2 2) (alike 1) ≡ Passed
unfolding admitted_check bound_check spec_check length_check readings_check reading_check params_check matches_spec parameter_check mean_check entry_check column_check ar_check variance_check column_sum sum_up is_probability usable each magnitude_of lt le eq of_bits mul div add sub neg sum round size units odd span climb of_fields count_trailing_zeros
admitted = refl

-- +0 is not above zero
checked : fit_check (alike 1) (two ∷ two ∷ []) ≡ Failed (SampleVariance zero⁺)
unfolding fit_check usable lt of_bits
checked = rw (variances.values).p9_constant

pub p9_fit : (maxIter : ℕ) (tol : Float) → constant_fit maxIter tol ≡ fit_refused
unfolding fit_call
p9_fit maxIter tol = rw (admitted, checked)
