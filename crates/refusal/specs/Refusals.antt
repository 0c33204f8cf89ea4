-- What each refusal says: its number in document 01 or 02, the place and the value that it carries, zero where it names none.
-- After document 01, "Refusals by number", and document 02.
use Rattle.std.specs.Prelude.{ℕ, Float}
use Rattle.number.specs.Number.{of_whole, zero⁺}
use Rattle.refusal.specs.declared.Refusal.{Refusal}
use Rattle.refusal.specs.declared.Said.{Said}
use Rattle.refusal.specs.declared.Refusal.TheVariants.{FewRegimes, ManyWindows, ManyRegimes, ShortSeries, LongSeries, Reading, Memory, FewMeans, Beyond, Mean, Length, Transition, Column, NoAr, Ar, Variance, Shape, Singular, Share, Likelihood, OrderZero, SampleVariance, Loglike, OtherRule}

abbrev pub saying : ℕ → ℕ → Float → Said
saying n i v = record { number = n; place = i; value = v }

abbrev pub said : Refusal → Said
said (FewRegimes k) = saying 1 k zero⁺
said (ManyWindows k) = saying 2 k zero⁺
said (ManyRegimes k) = saying 3 k zero⁺
-- 4 carries p + 1, 5 the length T, 6 the first index, 7 the length needed
said (ShortSeries needed) = saying 4 needed zero⁺
said (LongSeries T) = saying 5 T zero⁺
said (Reading i) = saying 6 i zero⁺
said (Memory needed) = saying 7 needed zero⁺
said (FewMeans count) = saying 10 count zero⁺
-- the count of means, else the order
said (Beyond count) = saying 18 count zero⁺
said (Mean i v) = saying 11 i v
said (Length expected) = saying 12 expected zero⁺
-- the place of an entry is i·k + j
said (Transition e v) = saying 13 e v
said (Column j sum) = saying 14 j sum
said NoAr = saying 17 0 zero⁺
said (Ar i v) = saying 15 i v
said (Variance i v) = saying 16 i v
said Shape = saying 20 0 zero⁺
-- the place is 0 stationary, 1 means, 2 AR; the value is the column at which the solver stopped (document 02, Q-4)
said (Singular which column) = saying 21 which (of_whole column)
said (Share i v) = saying 22 i v
said (Likelihood row) = saying 23 row zero⁺
said OrderZero = saying 24 0 zero⁺
said (SampleVariance v) = saying 25 0 v
said Loglike = saying 26 0 zero⁺
-- a rule number that is neither 1 nor 2 (document 02, Q-5)
said OtherRule = saying 29 0 zero⁺
