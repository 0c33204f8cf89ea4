-- The stationary shares π of the regimes: P π = π with sum 1, solved as (I - P) π = 0 with the last equation replaced by the sum.
-- After Hamilton (1994), 22.2, and document 01, "Stationary shares", refusals 21 and 22.
use Rattle.std.specs.Prelude.{ℕ, suc, ◌*◌, ◌/◌, ◌%◌, Bool, not, ◌&&◌, List, replicate, Float, if◌then◌else◌, Result, Ok, Err}
use Rattle.std.specs.Float.Ieee.{le}
use Rattle.std.specs.Float.Ieee.Scale.{finite}
use Rattle.number.specs.Number.{◌=?◌, ◌⊖◌, float, zero⁺, one}
use Rattle.number.specs.Table.{◌!◌, cell, fill_at}
use Rattle.refusal.specs.Checks.{Check, ◌when◌, ◌before◌, each}
use Rattle.refusal.specs.declared.Refusal.{Refusal}
use Rattle.refusal.specs.declared.Refusal.TheVariants.{Singular, Share}
use Rattle.linsolve.specs.Solver.{solve_of, column_of}
use Rattle.linsolve.specs.declared.Unsolved.{Unsolved}
use Rattle.params.specs.Parameters.{k}
use Rattle.params.specs.Checks.{parameter_check}
use Rattle.params.specs.declared.MsarParams.{MsarParams}

-- ---- the system, of n regimes with transition table T

abbrev pub is_last : ℕ → ℕ → Bool
is_last n i = suc i =? n

-- row i and column j: I - P, and ones in the last row. Off the diagonal it is 0 - P, which is not -P where P is zero
unfoldable pub coefficient : ℕ → List Float → ℕ → ℕ → Float
coefficient n T i j = if is_last n i then one else ((if i =? j then one else zero⁺) ⊖ cell n T i j)

-- the same at place e of the table
unfoldable pub entry : ℕ → List Float → ℕ → Float
entry n T e = coefficient n T (e / n) (e % n)

unfoldable pub side : ℕ → ℕ → Float
side n i = if is_last n i then one else zero⁺

-- arrays of 256 and 16 places of which the first are used, the others positive zero
unfoldable pub share_table : ℕ → List Float → List Float
share_table n T = fill_at 0 (entry n T) (n * n) (replicate 256 zero⁺)

unfoldable pub share_sides : ℕ → List Float
share_sides n = fill_at 0 (side n) n (replicate 16 zero⁺)

-- ---- the shares

-- -1e-9
abbrev pub hair : Float
hair = float 0xBE11_2E0B_E826_D695

-- a share below zero by no more than 1e-9 is kept as it is
unfoldable pub share_check : List Float → ℕ → Check
share_check x i = Share i (x ! i) when not (finite (x ! i) && le hair (x ! i))

-- 21 with place 0 and the solver's column, where the system is singular; then 22
abbrev pub after : ℕ → Result (List Float) Unsolved → Result (List Float) Refusal
after n (Ok x) = each n (share_check x) before Ok x
after n (Err why) = Err (Singular 0 (column_of why))

unfoldable pub solved_shares : ℕ → List Float → Result (List Float) Refusal
solved_shares n T = after n (solve_of n (share_table n T) (share_sides n))

-- the shares of the labels before the first reading, or their refusal: what every call starts from
abbrev pub start_shares : MsarParams → Result (List Float) Refusal
start_shares q = solved_shares (k q) q.transition

-- the shares themselves, positive zeros where there are none
abbrev pub values_of : Result (List Float) Refusal → List Float
values_of (Ok x) = x
values_of (Err r) = replicate 16 zero⁺

-- the parameter checks first
unfoldable pub shares_of : MsarParams → Result (List Float) Refusal
shares_of q = parameter_check q before start_shares q
