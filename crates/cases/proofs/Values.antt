-- What the called functions answer for the examples, from the definitions that their contracts cite. Assumes nothing.
use Rattle.std.specs.Prelude.{Result, Ok, Err}
use mathlib.Core.Path.{◌≡◌, refl, ap, ap₂, ◌∙◌}
use mathlib.Core.Bool.{Bool, true, false, ◌&&◌}
use mathlib.Core.List.{List, ◌∷◌, []}
use Prim.Native.Nat.{ℕ, ◌+◌, ◌<◌}
use native.Mathlib.Omega.{arith}
use borrow.Author.Tests.{eq-eqb}
use lib.Dec.{lit≤}
use lib.Count.{count_trailing_zeros}
use lib.ListN.{replicate}
use lib.Ieee.{Float, inf, lt, le, eq, of_bits, to_bits, of_int, mul, div, add, sub, neg, sum, round, size, units, odd, span, climb, of_fields}
use Rattle.number.specs.Number.{◌≤?◌, ◌=?◌, ◌⊘◌, float, zero⁺, half, one, two, magnitude_of, usable}
use Rattle.number.specs.Sums.{sum_up}
use Rattle.number.specs.Table.{◌!◌, tab, fill_at}
use Rattle.number.proofs.Table.{fill_at_lem}
use Rattle.refusal.specs.Checks.{Passed, Failed, ◌before◌, each}
use Rattle.refusal.specs.declared.Refusal.{Refusal}
use Rattle.refusal.specs.declared.Refusal.TheVariants.{Singular, SampleVariance}
use Rattle.spec.specs.Spec.{spec_check}
use Rattle.spec.specs.declared.MsarSpec.{MsarSpec}
use Rattle.params.specs.declared.MsarParams.{MsarParams}
use Rattle.params.specs.Parameters.{matches_spec}
use Rattle.params.specs.Checks.{is_probability, column_sum, mean_check, entry_check, column_check, ar_check, variance_check, parameter_check}
use Rattle.params.specs.Durations.{duration, durations_of}
use Rattle.rounding.specs.Units.{in_units}
use Rattle.root.specs.Root.{root_of, root_pattern, whole_root, cut}
use Rattle.stationary.specs.Stationary.{shares_of}
use Rattle.stationary.proofs.Examples as shares
use Rattle.window.specs.Windows.{labels}
use Rattle.window.specs.Shape.{Shape}
use Rattle.rows.specs.Steps.{label_sum, label_sum_at}
use Rattle.prediction.specs.Prediction.{first_to, first_prediction, mixes}
use Rattle.prediction.specs.declared.Rule.TheVariants.{One}
use Rattle.prediction.specs.Steps.{first_at, step_at, stepped_at, later_at, sum_before}
use Rattle.binding.specs.Binding.{reading_check, readings_check, length_check, bound_check, memory_check, params_check, admitted_check}
use Rattle.em_sample_variance.proofs.Examples as variances
use Rattle.fit.specs.Calls.{fit_check, fit_call}
use Rattle.cases.specs.Cases.{same, fails, fails_with, two_regimes, units_of}

-- ---- comparisons

pub both : {a b : Bool} → a ≡ true → b ≡ true → (a && b) ≡ true
both e f = rw (e, f)

pub is_same : {b : Bool} {x y : Float} → b ≡ same x y → x ≡ y → b ≡ true
unfolding same
is_same {x = x} {y = y} e f = e ∙ eq-eqb _ _ (ap (to_bits lib.Ieee.binary64) f)

pub with_value : {a b c : Bool} {x z : Float} (value : Float) → a ≡ c → b ≡ same x value → x ≡ z → (a && b) ≡ (c && same z value)
with_value value e f g = rw (e, f, g)

-- an answer is no refusal
pub not_refused : {A : Type 0} {x : A} {r : Refusal} → Err r ≡ Ok x → ⊥
not_refused e = let z : ◌≡◌ {A = ℕ} 0 1 = cc in absurd_of z
  where
    absurd_of : ◌≡◌ {A = ℕ} 0 1 → ⊥
    absurd_of z = omega arith

-- what an answer has
abbrev pub values : Result (List Float) Refusal → List Float
values (Ok x) = x
values (Err r) = []

-- ---- parameters of two regimes

abbrev pub quarter : Float
quarter = float 0x3FD0_0000_0000_0000

abbrev pub most : Float
most = float 0x3FE8_0000_0000_0000

pub record Passes : Type 0 where
  pub p4 : parameter_check (two_regimes 0 quarter quarter most most) ≡ Passed
  pub p5 : parameter_check (two_regimes 1 quarter quarter most most) ≡ Passed
  pub p6 : parameter_check (two_regimes 0 one zero⁺ zero⁺ one) ≡ Passed

passes : Passes
unfolding parameter_check mean_check entry_check column_check ar_check variance_check column_sum sum_up is_probability usable each magnitude_of lt le eq of_bits mul div add sub neg sum round size units odd span climb of_fields count_trailing_zeros
passes = record { p4 = refl; p5 = refl; p6 = refl }

pub p4 : shares_of (two_regimes 0 quarter quarter most most) ≡ Ok (quarter ∷ most ∷ replicate 14 zero⁺)
unfolding shares_of
p4 = rw passes.p4 (shares.values).p4

pub p5 : shares_of (two_regimes 1 quarter quarter most most) ≡ Ok (quarter ∷ most ∷ replicate 14 zero⁺)
unfolding shares_of
p5 = rw passes.p5 (shares.values).p4

pub p6 : shares_of (two_regimes 0 one zero⁺ zero⁺ one) ≡ Err (Singular 0 1)
unfolding shares_of
p6 = rw passes.p6 (shares.values).p6

pub p6_told : fails_with (Failed (Singular 0 1)) 21 0 one ≡ true
unfolding same to_bits of_bits of_int
p6_told = refl

-- ---- the fit

-- two labels, order 1
abbrev pub spec : MsarSpec
spec = record { k_regimes = 2; order = 1; switching_ar = false; switching_variance = false }

abbrev pub constant : List Float
constant = two ∷ two ∷ []

admitted : admitted_check spec constant (memory_check 8 8 before memory_check 2 2) (two_regimes 1 quarter quarter most most) ≡ Passed
unfolding admitted_check bound_check spec_check length_check readings_check reading_check params_check matches_spec parameter_check mean_check entry_check column_check ar_check variance_check column_sum sum_up is_probability usable each magnitude_of lt le eq of_bits mul div add sub neg sum round size units odd span climb of_fields count_trailing_zeros
admitted = refl

checked : fit_check (two_regimes 1 quarter quarter most most) constant ≡ Failed (SampleVariance zero⁺)
unfolding fit_check usable lt of_bits
checked = rw (variances.values).p9_constant

pub p9 : (maxIter : ℕ) (tol : Float) → (fit_call spec constant (two_regimes 1 quarter quarter most most) maxIter tol (replicate 8 zero⁺) (replicate 2 zero⁺)).answer
    ≡ Err (SampleVariance zero⁺)
unfolding fit_call
p9 maxIter tol = rw (admitted, checked)

pub p9_told : fails_with (Failed (SampleVariance zero⁺)) 25 0 zero⁺ ≡ true
unfolding same to_bits of_bits
p9_told = refl

-- ---- the first row, and a later one

pub order_0 : Shape 2 0
order_0 = record { low = lit≤ tt; high = lit≤ tt; few = lit≤ tt }

pub order_1 : Shape 2 1
order_1 = record { low = lit≤ tt; high = lit≤ tt; few = lit≤ tt }

abbrev start : List Float
start = quarter ∷ most ∷ replicate 14 zero⁺

pub p5_row : {q : MsarParams} {s row : List Float} {windows : ℕ} → q ≡ two_regimes 1 quarter quarter most most → s ≡ start → windows ≡ 4
    → row ≡ fill_at 0 (first_at q s) windows (replicate 256 zero⁺) → (a : ℕ) → a < 4 → row ! a ≡ first_at (two_regimes 1 quarter quarter most most) start a
p5_row {q = q} {s = s} e f four g a h =
    fill_at_lem _ 4 _ (g ∙ ap (λ n. fill_at 0 (first_at q s) n (replicate 256 zero⁺)) four) a h ∙ ap₂ (λ (q : MsarParams) (s : List Float). first_at q s a) e f

pub record Predicted : Type 0 where
  pub at_0 : first_at (two_regimes 1 quarter quarter most most) start 0 ≡ float 0x3FB0_0000_0000_0000
  pub at_1 : first_at (two_regimes 1 quarter quarter most most) start 1 ≡ float 0x3FC8_0000_0000_0000
  pub at_2 : first_at (two_regimes 1 quarter quarter most most) start 2 ≡ float 0x3FC8_0000_0000_0000
  pub at_3 : first_at (two_regimes 1 quarter quarter most most) start 3 ≡ float 0x3FE2_0000_0000_0000

pub predicted : Predicted
unfolding first_at first_prediction first_to labels mul of_bits
predicted = record { at_0 = refl; at_1 = refl; at_2 = refl; at_3 = refl }

abbrev previous : List Float
previous = quarter ∷ most ∷ replicate 254 zero⁺

abbrev steps_of : MsarParams → List Float
steps_of q = fill_at 0 (step_at q) 2 (replicate 256 zero⁺)

pub p7_row : {q : MsarParams} {steps row : List Float} {windows : ℕ} → q ≡ two_regimes 0 half quarter half most → windows ≡ 2
    → steps ≡ fill_at 0 (step_at q) windows (replicate 256 zero⁺)
    → row ≡ fill_at 0 (later_at One 0 2 1 q.transition steps previous) 2 (replicate 256 zero⁺) → (a : ℕ) → a < 2
    → row ! a ≡ stepped_at 2 1 (steps_of (two_regimes 0 half quarter half most)) previous a
unfolding later_at mixes
p7_row {q = q} e two f g a h =
    fill_at_lem _ 2 _ g a h
    ∙ ap (λ (s : List Float). stepped_at 2 1 s previous a) (f ∙ ap (λ n. fill_at 0 (step_at q) n (replicate 256 zero⁺)) two ∙ ap steps_of e)

pub record Later : Type 0 where
  pub at_0 : stepped_at 2 1 (steps_of (two_regimes 0 half quarter half most)) previous 0 ≡ half
  pub at_1 : stepped_at 2 1 (steps_of (two_regimes 0 half quarter half most)) previous 1 ≡ half

pub later : Later
unfolding stepped_at sum_before sum_up step_at fill_at tab labels add mul of_bits
later = record { at_0 = refl; at_1 = refl }

-- ---- three ones divided by their sum

-- one label of three windows
pub sum_three : (row : List Float) {work table : List Float} → work ≡ fill_at 0 (λ a. row ! a) 3 (replicate 3 zero⁺) → table ≡ fill_at 0 (label_sum_at 1 3 3 work) 1 (replicate 1 zero⁺)
    → table ! 0 ≡ sum_up (λ a. row ! a) 3
unfolding label_sum_at label_sum sum_up fill_at tab
sum_three row g h = rw (h, g)

abbrev pub ones : List Float
ones = one ∷ one ∷ one ∷ replicate 253 zero⁺

pub p8 : {total : Float} {row work table : List Float} → total ≡ sum_up (λ a. ones ! a) 3 → row ≡ fill_at 0 (λ a. ones ! a ⊘ total) 3 ones
    → work ≡ fill_at 0 (λ a. row ! a) 3 (replicate 3 zero⁺) → table ≡ fill_at 0 (label_sum_at 3 1 3 work) 3 (replicate 3 zero⁺)
    → units_of (table ! 0) + units_of (table ! 1) + units_of (table ! 2) ≡ 0x3F_FFFF_FFFF_FFFF
unfolding units_of label_sum_at label_sum sum_up fill_at tab add div of_bits to_bits
p8 e f g h = rw (h, g, f, e)

-- the exact total, and that it is within 12 units of 2 ^ -54, which are 3 / 2 ^ 52, of one
pub within : {n : ℕ} → n ≡ 0x3F_FFFF_FFFF_FFFF → (n =? 0x3F_FFFF_FFFF_FFFF && n ≤? 0x40_0000_0000_0000 + 12 && 0x40_0000_0000_0000 ≤? n + 12) ≡ true
within e = rw e

-- ---- the root

pub p12_four : root_of (float 0x4010_0000_0000_0000) ≡ two
unfolding root_of root_pattern whole_root cut size in_units of_bits to_bits
p12_four = refl

pub p12_two : to_bits lib.Ieee.binary64 (root_of two) ≡ 0x3FF6_A09E_667F_3BCD
unfolding root_of root_pattern whole_root cut size in_units of_bits to_bits
p12_two = refl

-- ---- parameters

pub p10 : fails (parameter_check (two_regimes 0 one half zero⁺ (float 0x3FDF_5C28_F5C2_8F5C))) 14 1 ≡ true
unfolding parameter_check mean_check entry_check column_check ar_check variance_check column_sum sum_up is_probability usable each magnitude_of lt le eq of_bits mul div add sub neg sum round size units odd span climb of_fields count_trailing_zeros
p10 = refl

pub p11 : durations_of (two_regimes 0 most zero⁺ quarter one) ≡ Ok (float 0x4010_0000_0000_0000 ∷ inf false ∷ replicate 14 zero⁺)
unfolding durations_of duration fill_at tab parameter_check mean_check entry_check column_check ar_check variance_check column_sum sum_up is_probability usable each magnitude_of lt le eq of_bits mul div add sub neg sum round size units odd span climb of_fields count_trailing_zeros
p11 = refl

-- infinity by its pattern
pub infinity : float 0x7FF0_0000_0000_0000 ≡ inf false
unfolding of_bits
infinity = refl
