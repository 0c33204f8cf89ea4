-- What the functions of this crate hand to each other. No other crate's contract cites it.
use Rattle.std.specs.Prelude.{ℕ, ◌≤◌, ◌<◌, ◌^◌, Bool, cond}

-- q has 53 binary digits at most, and all of them where k are dropped; or it is 2 ^ 53
pub record Normal (q k : ℕ) : Type 0 where
  pub most : q ≤ 2 ^ 53
  pub full : 0 < k → 2 ^ 52 ≤ q

-- the sign's part of a pattern
abbrev pub sign_part : Bool → ℕ
sign_part s = cond s (2 ^ 63) 0
