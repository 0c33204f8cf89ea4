-- Rows and tables of numbers: a row lists f 0, f 1, ..; a table stands row by row in one list, as document 01 has it ("Forms to alter").
-- A part of a list that is written anew is `fill_at`.
use Rattle.std.specs.Prelude.{ℕ, zero, suc, ◌+◌, ◌*◌, List, [], ◌∷◌, ◌++◌, get_or, take, drop, Float}
use Rattle.std.specs.Float.{nan}

infixl 90 ◌!◌
-- the number at place i of a list, a NaN past its end
abbrev pub ◌!◌ : List Float → ℕ → Float
◌!◌ l i = get_or l i nan

-- the number at row i and column j of a table of n columns
abbrev pub cell : ℕ → List Float → ℕ → ℕ → Float
cell n a i j = a ! (i * n + j)

-- the row f 0, f 1, .., f (n - 1)
unfoldable pub tab : {A : Type 0} → (ℕ → A) → ℕ → List A
tab f zero = []
tab f (suc n) = tab f n ++ (f n ∷ [])

-- the n places from s on become f 0, .., f (n - 1), the others stay
unfoldable pub fill_at : ℕ → (ℕ → Float) → ℕ → List Float → List Float
fill_at s f n l = take s l ++ tab f n ++ drop (s + n) l
