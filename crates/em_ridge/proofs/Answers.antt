-- The two ways to an answer: the incumbent, or what the solver says of the table with the ridge. Assumes nothing.
use Rattle.std.specs.Prelude.{Result, Ok}
use Prim.Native.Nat.{ℕ, ◌*◌}
use mathlib.Core.Path.{◌≡◌}
use mathlib.Core.Bool.{Bool, true, false}
use mathlib.Core.List.{List}
use lib.Ieee.{Float}
use Rattle.number.specs.Number.{usable}
use Rattle.number.specs.Table.{fill_at}
use Rattle.linsolve.specs.Solver.{solve_of}
use Rattle.linsolve.specs.declared.Unsolved.{Unsolved}
use Rattle.em_ridge.specs.Ridge.{largest_to, ridged, updated_by, solve_or_keep}

module _ (which n : ℕ) (a b incumbent : List Float) {scale : Float} {u : Bool} (s : scale ≡ largest_to n a n) (e : u ≡ usable scale) where
  pub kept_is : u ≡ false → Ok incumbent ≡ solve_or_keep which n a b incumbent
  unfolding solve_or_keep
  kept_is h = rw (← s, ← e, h)

  pub solved_is : u ≡ true → {t : List Float} → t ≡ fill_at 0 (ridged n a scale) (n * n) a → {S : Result (List Float) Unsolved} → S ≡ solve_of n t b
      → updated_by S which ≡ solve_or_keep which n a b incumbent
  unfolding solve_or_keep
  solved_is h d d' = rw (← s, ← e, h, ← d, ← d')
