-- The solver: Gaussian elimination of n equations with partial pivoting, then back-substitution. The table stands row by row in a list.
-- After Golub and Van Loan, Matrix Computations, 4th edition: algorithm 3.4.1 (elimination with partial pivoting) and 3.1.2 (back-substitution by
-- rows); the order of operations is that of `solve` in linsolve.rs, and document 01, "Solver" and refusal 21, and document 02, Q-4.
-- c is the column that is cleared and the row its pivot goes to, i the row where the pivot is found, r any other row; d counts those done.
use Rattle.std.specs.Prelude.{ℕ, zero, suc, ◌+◌, ◌-◌, ◌*◌, ◌<◌, ◌≡◌, Bool, true, List, set, replicate, Float, if◌then◌else◌, Result, Ok, Err}
use Rattle.std.specs.Float.Ieee.{lt, ne}
use Rattle.number.specs.Number.{◌<?◌, ◌=?◌, ◌⊖◌, ◌⊗◌, ◌⊘◌, float, zero⁺, magnitude_of}
use Rattle.number.specs.Table.{◌!◌, cell, fill_at}
use Rattle.linsolve.specs.declared.Unsolved.{Unsolved}
use Rattle.linsolve.specs.declared.Unsolved.TheVariants.{Singular, TooLarge}

-- the table and the right-hand side
pub record System : Type 0 where
  pub a : List Float
  pub b : List Float

abbrev pub system : List Float → List Float → System
system a b = record { a = a; b = b }

-- ---- the pivot of column c

-- of the rows i and r the larger: r only where it is strictly larger. So a NaN in row i stays, and one in row r is passed over
unfoldable pub better : ℕ → List Float → ℕ → ℕ → ℕ → ℕ
better n a c i r = if lt (magnitude_of (cell n a i c)) (magnitude_of (cell n a r c)) then r else i

-- the first largest of the rows c, c + 1, .., c + d
unfoldable pub pivot_to : ℕ → List Float → ℕ → ℕ → ℕ
pivot_to n a c zero = c
pivot_to n a c (suc d) = better n a c (pivot_to n a c d) (c + suc d)

abbrev pub pivot_of : ℕ → List Float → ℕ → ℕ
pivot_of n a c = pivot_to n a c (n - suc c)

-- ---- the pivot's row brought to the diagonal

-- rows c and i exchanged
unfoldable pub swap_rows : ℕ → ℕ → ℕ → System → System
swap_rows n c i S =
    system
    (fill_at (i * n) (cell n S.a c) n (fill_at (c * n) (cell n S.a i) n S.a))
    (set (set S.b i (S.b ! c)) c (S.b ! i))

unfoldable pub placed : ℕ → ℕ → System → System
placed n c S = if pivot_of n S.a c =? c then S else swap_rows n c (pivot_of n S.a c) S

-- ---- column c cleared below the diagonal

abbrev pub factor : ℕ → ℕ → ℕ → System → Float
factor n c r S = cell n S.a r c ⊘ cell n S.a c c

-- column c + j of row r, less f times that of row c
unfoldable pub less : ℕ → List Float → ℕ → ℕ → Float → ℕ → Float
less n a c r f j = cell n a r (c + j) ⊖ f ⊗ cell n a c (c + j)

-- row r less f times row c, from column c on
unfoldable pub less_row : ℕ → ℕ → ℕ → Float → System → System
less_row n c r f S = system (fill_at (r * n + c) (less n S.a c r f) (n - c) S.a) (set S.b r (S.b ! r ⊖ f ⊗ S.b ! c))

-- a factor equal to zero is skipped
unfoldable pub clear_row : ℕ → ℕ → ℕ → System → System
clear_row n c r S = if ne (factor n c r S) zero⁺ then less_row n c r (factor n c r S) S else S

-- the rows c + 1, .., c + d
unfoldable pub clear_to : ℕ → ℕ → System → ℕ → System
clear_to n c S zero = S
clear_to n c S (suc d) = clear_row n c (c + suc d) (clear_to n c S d)

-- ---- elimination

-- 1e-300
abbrev pub tiny : Float
tiny = float 0x01A5_6E1F_C2F8_F359

-- what elimination comes to: the system with its columns cleared, or the column at which it stopped
abbrev pub Elimination : Type 0
Elimination = Result System Unsolved

pattern abbrev pub cleared : System → Elimination
cleared S = Ok S

pattern abbrev pub stopped_at : ℕ → Elimination
stopped_at c = Err (Singular c)

-- whether the pivot of column c has a magnitude below tiny: a NaN's is not, and passes
unfoldable pub is_small : ℕ → ℕ → System → Bool
is_small n c S = lt (magnitude_of (cell n S.a (pivot_of n S.a c) c)) tiny

-- column c cleared, or the stop where its pivot is too small
unfoldable pub column : ℕ → ℕ → System → Elimination
column n c S = if is_small n c S then stopped_at c else cleared (clear_to n c (placed n c S) (n - suc c))

-- once stopped, no other column is looked at
abbrev pub and_then : Elimination → (System → Elimination) → Elimination
and_then (Ok S) next = next S
and_then (Err e) next = Err e

-- the first c columns, one after the other: so the first whose pivot is too small is the one that is named
unfoldable pub eliminate_to : ℕ → System → ℕ → Elimination
eliminate_to n S zero = cleared S
eliminate_to n S (suc c) = and_then (eliminate_to n S c) (column n c)

-- ---- back-substitution, the last unknown first

-- b[r] less the columns r + 1, .., r + d of row r, each times its unknown
unfoldable pub less_known : ℕ → System → List Float → ℕ → ℕ → Float
less_known n S x r zero = S.b ! r
less_known n S x r (suc d) = less_known n S x r d ⊖ cell n S.a r (r + suc d) ⊗ x ! (r + suc d)

unfoldable pub unknown : ℕ → System → List Float → ℕ → Float
unknown n S x r = less_known n S x r (n - suc r) ⊘ cell n S.a r r

-- an answer has 16 places; those that no unknown takes are positive zero
abbrev pub zeros : List Float
zeros = replicate 16 zero⁺

-- the last d unknowns
unfoldable pub back_to : ℕ → System → ℕ → List Float
back_to n S zero = zeros
back_to n S (suc d) = set (back_to n S d) (n - suc d) (unknown n S (back_to n S d) (n - suc d))

-- ---- the whole

unfoldable pub answer : ℕ → Elimination → Result (List Float) Unsolved
answer n (Ok S) = Ok (back_to n S n)
answer n (Err e) = Err e

-- a x = b, for n equations. A table of 256 places holds no more than 16 rows and columns
unfoldable pub solve_of : ℕ → List Float → List Float → Result (List Float) Unsolved
solve_of n a b = if 16 <? n then Err TooLarge else answer n (eliminate_to n (system a b) n)

-- the column that a refusal names: a table too large has none, and 0 stands for it
abbrev pub column_of : Unsolved → ℕ
column_of (Singular c) = c
column_of TooLarge = 0

-- ---- what the column of a `Singular` says

-- of the first d columns, c is the first whose pivot has a magnitude below 1e-300: each before it passed and was cleared, and in the system that was
-- left the pivot of column c is too small
pub record FirstSmall (n : ℕ) (S : System) (d c : ℕ) : Type 0 where
  pub within : c < d
  pub left : System
  pub before : eliminate_to n S c ≡ cleared left
  pub small : is_small n c left ≡ true
