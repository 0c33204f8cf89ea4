-- The parameters of document 01's examples with two regimes, and the comparisons that the program makes.
use Rattle.std.specs.Prelude.{ℕ, ◌+◌, ◌/◌, ◌%◌, ◌^◌, Bool, false, ◌&&◌, List, ◌∷◌, replicate, Float, if◌then◌else◌, Result, Ok, Err}
use Rattle.number.specs.Number.{◌=?◌, pattern_of, zero⁺, half, one}
use Rattle.refusal.specs.Refusals.{said}
use Rattle.refusal.specs.Checks.{Check, Passed, Failed}
use Rattle.refusal.specs.declared.Refusal.{Refusal}
use Rattle.params.specs.declared.MsarParams.{MsarParams}

-- the same bit pattern
unfoldable pub same : Float → Float → Bool
same x y = pattern_of x =? pattern_of y

-- a refusal of this number, with this place
abbrev pub tells : Refusal → ℕ → ℕ → Bool
tells r number place = (said r).number =? number && (said r).place =? place

abbrev pub fails : Check → ℕ → ℕ → Bool
fails Passed number place = false
fails (Failed r) number place = tells r number place

-- which carries this value too
abbrev pub fails_with : Check → ℕ → ℕ → Float → Bool
fails_with Passed number place value = false
fails_with (Failed r) number place value = tells r number place && same (said r).value value

-- so many windows; a spec refused by this number, which carries k
abbrev pub has_windows : Result ℕ Refusal → ℕ → Bool
has_windows (Ok n) m = n =? m
has_windows (Err r) m = false

abbrev pub is_refused : Result ℕ Refusal → ℕ → ℕ → Bool
is_refused (Ok n) number k = false
is_refused (Err r) number k = tells r number k

-- an array whose first two places are these
abbrev pub pair_of : Float → Float → List Float
pair_of a b = a ∷ b ∷ replicate 14 zero⁺

-- means 0 and 1, one coefficient 0.5 where the order is one, one variance 1; the columns of the transition are (a, c) and (b, d)
abbrev pub two_regimes : ℕ → Float → Float → Float → Float → MsarParams
two_regimes order a b c d =
    record {
      transition = a ∷ b ∷ c ∷ d ∷ replicate 252 zero⁺;
      means = pair_of zero⁺ one;
      ar = half ∷ replicate 111 zero⁺;
      variances = pair_of one zero⁺;
      means_count = 2;
      transition_count = 4;
      ar_blocks = 1;
      order = order;
      ar_count = order;
      variances_count = 1;
    }

-- the significand of a number from a quarter up to a half, in units of 2 ^ -54; 0 of any other
unfoldable pub units_of : Float → ℕ
units_of x = if pattern_of x / 2 ^ 52 =? 0x3FD then pattern_of x % 2 ^ 52 + 2 ^ 52 else 0
