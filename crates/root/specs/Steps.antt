-- What the functions of this crate hand to each other. No other crate's contract cites it.
use Rattle.std.specs.Prelude.{ℕ, ◌+◌, ◌*◌, ◌<◌, ◌≤◌}

-- the root of n rounds to r, the nearest whole number: (r - 1/2) ^ 2 < n < (r + 1/2) ^ 2, in whole numbers
abbrev pub RoundsTo : ℕ → ℕ → Type 0
RoundsTo n r = (r * r < n + r) × (n ≤ r * r + r)
