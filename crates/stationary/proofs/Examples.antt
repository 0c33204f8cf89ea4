-- The solved shares of document 01's P4 and P6, which the proofs of crates/promises and crates/cases cite. Assumes nothing.
use Rattle.std.specs.Prelude.{Ok, Err}
use mathlib.Core.Path.{◌≡◌, refl}
use mathlib.Core.List.{List, ◌∷◌}
use lib.ListN.{replicate}
use lib.Ieee.{Float, add, sub, mul, div, neg, lt, le, eq, ne, of_bits}
use Rattle.number.specs.Number.{zero⁺, one, float, magnitude_of}
use Rattle.number.specs.Table.{tab, fill_at}
use Rattle.refusal.specs.Checks.{each}
use Rattle.refusal.specs.declared.Refusal.TheVariants.{Singular}
use Rattle.linsolve.specs.Solver.{better, pivot_to, swap_rows, placed, less, less_row, clear_row, clear_to, is_small, column, eliminate_to, less_known, unknown, back_to, answer, solve_of}
use Rattle.stationary.specs.Stationary.{coefficient, entry, side, share_table, share_sides, share_check, solved_shares}

-- 0.25 and 0.75
abbrev pub quarter : Float
quarter = float 0x3FD0_0000_0000_0000

abbrev pub most : Float
most = float 0x3FE8_0000_0000_0000

-- row by row: P[0][0], P[0][1], P[1][0], P[1][1]
abbrev pub two_by_two : Float → Float → Float → Float → List Float
two_by_two a b c d = a ∷ b ∷ c ∷ d ∷ replicate 252 zero⁺

pub record Values : Type 0 where
  pub p4 : solved_shares 2 (two_by_two quarter quarter most most) ≡ Ok (quarter ∷ most ∷ replicate 14 zero⁺)
  pub p6 : solved_shares 2 (two_by_two one zero⁺ zero⁺ one) ≡ Err (Singular 0 1)

pub values : Values
unfolding solved_shares share_table share_sides entry coefficient side share_check each solve_of answer eliminate_to column is_small clear_to clear_row less_row less placed swap_rows pivot_to better back_to unknown less_known fill_at tab magnitude_of add sub mul div neg lt le eq ne of_bits
values = record { p4 = refl; p6 = refl }
