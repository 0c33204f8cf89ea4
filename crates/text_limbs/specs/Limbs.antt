-- Whole numbers as limbs of 32 binary digits, the lowest first.
use Rattle.std.specs.Prelude.{◌≡◌, List, [], ◌∷◌, ℕ, ◌+◌, ◌*◌, ◌^◌, ◌<◌, length, get_or}

unfoldable pub value : List ℕ → ℕ
value [] = 0
value (x ∷ l) = x + 2 ^ 32 * value l

-- 72 limbs, of 32 digits at most
pub record Limbs (l : List ℕ) : Type 0 where
  pub count : length l ≡ 72
  pub small : (i : ℕ) → get_or l i 0 < 2 ^ 32
