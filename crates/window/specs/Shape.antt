-- The shape of a model, document 01, "Bounds set by the port", and the numbers that its windows have.
use Rattle.std.specs.Prelude.{ℕ, suc, ◌^◌, ◌<◌, ◌≤◌}

-- k labels, order p and at most 256 windows; so p is at most 7
pub record Shape (k p : ℕ) : Type 0 where
  pub low : 2 ≤ k
  pub high : k ≤ 16
  pub few : k ^ suc p ≤ 256

-- a is the number of a window of that shape: of p + 1 labels, each below k
pub record WindowNumber (k p a : ℕ) : Type 0 where
  pub shape : Shape k p
  pub below : a < k ^ suc p
