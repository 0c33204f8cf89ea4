-- What the private functions promise: how a part of a table changes, how far the pivot was sought, what elimination leaves in the arrays.
use Rattle.std.specs.Prelude.{ℕ, suc, ◌-◌, ◌<◌, ◌≤◌, ◌≡◌, List, Float, Result, Ok, Err, ⊤}
use Rattle.number.specs.Number.{magnitude_of}
use Rattle.number.specs.Table.{cell}
use Rattle.linsolve.specs.Solver.{System, pivot_to, Elimination}
use Rattle.linsolve.specs.declared.Unsolved.{Unsolved}

-- of the rows c, .., r - 1 the pivot stands in row i and has the magnitude `best`
pub record Best (n : ℕ) (a : List Float) (c r i : ℕ) (best : Float) : Type 0 where
  pub row : i ≡ pivot_to n a c (r - suc c)
  pub magnitude : best ≡ magnitude_of (cell n a i c)
  pub low : c ≤ i
  pub high : i < n

-- what elimination comes to where the arrays hold S at its end
abbrev pub leaves : Result ⊤ Unsolved → System → Elimination
leaves (Ok _) S = Ok S
leaves (Err e) S = Err e
