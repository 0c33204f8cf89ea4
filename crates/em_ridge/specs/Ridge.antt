-- Normal equations solved with a ridge: 1e-12 times the largest place of the diagonal, added to the diagonal. Where the largest is not finite or not
-- above zero, the incumbent stays. After document 01, "EM step"; model.rs, `max_diagonal`, `M_STEP_RIDGE_REL`.
use Rattle.std.specs.Prelude.{ℕ, zero, suc, ◌*◌, ◌/◌, ◌%◌, List, Float, if◌then◌else◌, Result, Ok, Err}
use Rattle.number.specs.Number.{◌=?◌, ◌⊕◌, ◌⊗◌, float, zero⁺, usable, max_of}
use Rattle.number.specs.Table.{◌!◌, cell, fill_at}
use Rattle.refusal.specs.declared.Refusal.{Refusal}
use Rattle.refusal.specs.declared.Refusal.TheVariants.{Singular}
use Rattle.linsolve.specs.Solver.{column_of, solve_of}
use Rattle.linsolve.specs.declared.Unsolved.{Unsolved}

-- 1e-12
abbrev pub small : Float
small = float 0x3D71_9799_812D_EA11

-- the largest of positive zero and the first i places of the diagonal; a NaN is passed over, as Rust's `max` does
unfoldable pub largest_to : ℕ → List Float → ℕ → Float
largest_to n a zero = zero⁺
largest_to n a (suc i) = max_of (largest_to n a i) (cell n a i i)

-- place e of the table with the ridge
unfoldable pub ridged : ℕ → List Float → Float → ℕ → Float
ridged n a scale e = if e / n =? e % n then (a ! e ⊕ small ⊗ scale) else (a ! e)

-- the solution, in the first n of 16 places, or 21 with its place and the solver's column; n is at most 16, so nothing is too large
abbrev pub updated_by : Result (List Float) Unsolved → ℕ → Result (List Float) Refusal
updated_by (Ok x) which = Ok x
updated_by (Err why) which = Err (Singular which (column_of why))

-- n equations a x = b with the ridge; `incumbent` is what stays
unfoldable pub solve_or_keep : ℕ → ℕ → List Float → List Float → List Float → Result (List Float) Refusal
solve_or_keep which n a b incumbent =
    let scale = largest_to n a n in
    if usable scale then updated_by (solve_of n (fill_at 0 (ridged n a scale) (n * n) a) b) which else Ok incumbent
