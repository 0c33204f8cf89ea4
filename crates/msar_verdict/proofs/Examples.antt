-- How many readings a run needs, of some durations, computed: three of a regime that lasts one reading, six of two, thirty of ten, of one that
-- never ends, and of a NaN. And the finding of a small table: of four rows the last two are above one half, the one before them is one half.
-- Assumes nothing.
use mathlib.Core.Path.{◌≡◌, refl}
use mathlib.Core.Bool.{false}
use mathlib.Core.List.{List, [], ◌∷◌}
use lib.Ieee.{Float, nan, inf, mul, lt, le, of_int, of_bits}
use Rattle.number.specs.Number.{float, half, one, two, of_whole}
use Rattle.msar_verdict.specs.Verdict.{share_of, is_above, run_of, last_of, is_enough, least_from, needed_of, verdict_of, finding_of}
use Rattle.msar_verdict.specs.declared.Verdict.TheVariants.{NotSettled}

abbrev quarter : Float
quarter = float 0x3FD0_0000_0000_0000

abbrev three_quarters : Float
three_quarters = float 0x3FE8_0000_0000_0000

-- two labels; of label 1 three quarters, one half, three quarters, three quarters
abbrev four_rows : List Float
four_rows = quarter ∷ three_quarters ∷ half ∷ half ∷ quarter ∷ three_quarters ∷ quarter ∷ three_quarters ∷ []

pub record Values : Type 0 where
  pub of_one : needed_of one ≡ 3
  pub of_two : needed_of two ≡ 6
  pub of_ten : needed_of (of_whole 10) ≡ 30
  pub of_endless : needed_of (inf false) ≡ 30
  pub of_nan : needed_of nan ≡ 30
  pub of_four_rows : finding_of four_rows 4 2 1 one ≡ record { verdict = NotSettled; run = 2; needed = 3; since = 2; share = three_quarters }

pub values : Values
unfolding finding_of verdict_of needed_of least_from is_enough run_of last_of is_above share_of mul lt le of_int of_bits
values = record { of_one = refl; of_two = refl; of_ten = refl; of_endless = refl; of_nan = refl; of_four_rows = refl }
