-- Weights divided by their sum, and what each label has of them.
-- After document 01, "Update": "each weight is divided by it", "A filtered probability sums the weights of windows with that label now"; the label now of window a is a % k.
use Rattle.std.specs.Prelude.{cond, List, [], ◌∷◌, map, ℕ, suc, ◌%◌, eqb, Float}
use Rattle.std.specs.Float.{Format}
use Rattle.std.specs.Float.Ieee.{div}
use Rattle.rounding.specs.Sums.{total}

-- each number divided by d
abbrev pub divided : Format → List Float → Float → List Float
divided f xs d = map (λ x. div f x d) xs

-- each weight divided by the float sum of all
abbrev pub shares : Format → List Float → List Float
shares f ws = divided f ws (total f ws)

-- of a list whose places are numbered from j on, the numbers that label i of k has: those at the places that are i modulo k
abbrev pub part : ℕ → ℕ → ℕ → List Float → List Float
part k i j [] = []
part k i j (x ∷ xs) = cond (eqb (j % k) i) (x ∷ part k i (suc j) xs) (part k i (suc j) xs)

-- the float sum of the shares that label i of k has
abbrev pub label_share : Format → ℕ → List Float → ℕ → Float
label_share f k ws i = total f (part k i 0 (shares f ws))
