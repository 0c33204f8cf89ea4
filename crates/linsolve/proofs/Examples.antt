-- Values of `solve_of`, computed: one for each rule of document 01's "Solver" and for each outcome. Assumes nothing.
use Rattle.std.specs.Prelude.{Result, Ok, Err}
use Prim.Native.Nat.{ℕ}
use mathlib.Core.Path.{◌≡◌, refl}
use mathlib.Core.Bool.{false, true}
use mathlib.Core.List.{List, ◌∷◌}
use lib.ListN.{replicate}
use lib.Ieee.{Float, nan, inf, of_bits, sub, mul, div, lt, ne}
use Rattle.number.specs.Number.{◌⊖◌, float, zero⁺, one, two, magnitude_of}
use Rattle.number.specs.Table.{tab, fill_at}
use Rattle.linsolve.specs.Solver.{better, pivot_to, swap_rows, placed, less, less_row, clear_row, clear_to, tiny, is_small, column, eliminate_to, less_known, unknown, zeros, back_to, answer, solve_of}
use Rattle.linsolve.specs.declared.Unsolved.{Unsolved}
use Rattle.linsolve.specs.declared.Unsolved.TheVariants.{Singular, TooLarge}

-- two rows of two columns, and two places
abbrev table : Float → Float → Float → Float → List Float
table p q r s = p ∷ q ∷ r ∷ s ∷ replicate 252 zero⁺

abbrev side : Float → Float → List Float
side u v = u ∷ v ∷ replicate 14 zero⁺

abbrev solved : List Float → Result (List Float) Unsolved
solved x = Ok x

abbrev singular : ℕ → Result (List Float) Unsolved
singular c = Err (Singular c)

abbrev minus_one : Float
minus_one = float 0xBFF0_0000_0000_0000

abbrev four : Float
four = float 0x4010_0000_0000_0000

abbrev ¼ : Float
¼ = float 0x3FD0_0000_0000_0000

abbrev -¼ : Float
-¼ = float 0xBFD0_0000_0000_0000

abbrev ¾ : Float
¾ = float 0x3FE8_0000_0000_0000

pub record Values : Type 0 where
  -- y = 2 and 2x + y = 4: the rows are exchanged
  pub exchanged : solve_of 2 (table zero⁺ one two one) (side two four) ≡ solved (side one two)
  -- P4: 0.75 x - 0.25 y = 0 and x + y = 1
  pub shares : solve_of 2 (table ¾ -¼ one one) (side zero⁺ one) ≡ solved (side ¼ ¾)
  -- P6: the first row of the identity less the identity, and x + y = 1
  pub identity : solve_of 2 (table (one ⊖ one) (zero⁺ ⊖ zero⁺) one one) (side zero⁺ one) ≡ singular 1
  -- of equal magnitudes the first is the pivot: the other's would give x = -1
  pub first_of_equals : solve_of 2 (table one (inf false) minus_one one) (side one one) ≡ solved (side nan zero⁺)
  -- a NaN on the diagonal stays and passes: the zero below it would be refused
  pub nan_stays : solve_of 2 (table nan one zero⁺ one) (side one one) ≡ solved (side nan nan)
  -- a NaN below the diagonal is passed over, so that the zero is refused
  pub nan_below : solve_of 2 (table zero⁺ one nan one) (side one one) ≡ singular 0
  -- a pivot of exactly 1e-300 passes, the next number below it does not
  pub just_passes : solve_of 1 (table tiny zero⁺ zero⁺ zero⁺) (side tiny zero⁺) ≡ solved (side one zero⁺)
  pub just_fails : solve_of 1 (table (float 0x01A5_6E1F_C2F8_F358) zero⁺ zero⁺ zero⁺) (side tiny zero⁺) ≡ singular 0
  -- a factor of zero is skipped: zero times infinity would make y a NaN
  pub skipped : solve_of 2 (table one (inf false) zero⁺ one) (side one one) ≡ solved (side (inf true) one)
  pub no_rows : solve_of 0 (table nan nan nan nan) (side nan nan) ≡ solved zeros
  pub too_many : solve_of 17 (table one zero⁺ zero⁺ one) (side one one) ≡ Err TooLarge

pub values : Values
unfolding tab fill_at magnitude_of better pivot_to swap_rows placed less less_row clear_row clear_to is_small column eliminate_to less_known unknown back_to answer solve_of of_bits sub mul div lt ne
values =
    record {
      exchanged = refl;
      shares = refl;
      identity = refl;
      first_of_equals = refl;
      nan_stays = refl;
      nan_below = refl;
      just_passes = refl;
      just_fails = refl;
      skipped = refl;
      no_rows = refl;
      too_many = refl;
    }
