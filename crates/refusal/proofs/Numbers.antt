-- No refusal has the number 0, which stands for an answer where both are told by numbers. Assumes nothing.
use mathlib.Core.Path.{◌≡◌}
use native.Mathlib.Nat.{suc-ne-zero}
use Rattle.refusal.specs.Refusals.{said}
use Rattle.refusal.specs.declared.Refusal.{Refusal}
use Rattle.refusal.specs.declared.Refusal.TheVariants.{FewRegimes, ManyWindows, ManyRegimes, ShortSeries, LongSeries, Reading, Memory, FewMeans, Beyond, Mean, Length, Transition, Column, NoAr, Ar, Variance, Shape, Singular, Share, Likelihood, OrderZero, SampleVariance, Loglike, OtherRule}

pub number_above : (r : Refusal) → (said r).number ≡ 0 → ⊥
number_above (FewRegimes k) e = suc-ne-zero _ e
number_above (ManyWindows k) e = suc-ne-zero _ e
number_above (ManyRegimes k) e = suc-ne-zero _ e
number_above (ShortSeries needed) e = suc-ne-zero _ e
number_above (LongSeries T) e = suc-ne-zero _ e
number_above (Reading i) e = suc-ne-zero _ e
number_above (Memory needed) e = suc-ne-zero _ e
number_above (FewMeans count) e = suc-ne-zero _ e
number_above (Beyond count) e = suc-ne-zero _ e
number_above (Mean i v) e = suc-ne-zero _ e
number_above (Length expected) e = suc-ne-zero _ e
number_above (Transition ij v) e = suc-ne-zero _ e
number_above (Column j sum) e = suc-ne-zero _ e
number_above NoAr e = suc-ne-zero _ e
number_above (Ar i v) e = suc-ne-zero _ e
number_above (Variance i v) e = suc-ne-zero _ e
number_above Shape e = suc-ne-zero _ e
number_above (Singular which column) e = suc-ne-zero _ e
number_above (Share i v) e = suc-ne-zero _ e
number_above (Likelihood row) e = suc-ne-zero _ e
number_above OrderZero e = suc-ne-zero _ e
number_above (SampleVariance v) e = suc-ne-zero _ e
number_above Loglike e = suc-ne-zero _ e
number_above OtherRule e = suc-ne-zero _ e
