-- What the functions below `exp` ask of x: which high word and sign it has, and how large it is.
use Rattle.std.specs.Prelude.{◌≡◌, Bool, ℕ, ◌/◌, ◌%◌, ◌^◌, Float}
use Rattle.number.specs.Number.{pattern_of}
use Rattle.rounding.specs.Bounds.{Within}
use Rattle.rounding.specs.Signed.{Signed}

-- hx is the high word of |x|, and s the sign bit of x
pub record Split (x : Float) (hx s : ℕ) : Type 0 where
  pub word : hx ≡ pattern_of x % 2 ^ 63 / 2 ^ 32
  pub sign : s ≡ pattern_of x / 2 ^ 63

-- finite, with the sign s, and at most 746 in size
abbrev pub Sized : Bool → Float → Type 0
Sized s x = Signed s x × Within x 746 1
