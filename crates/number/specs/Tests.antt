-- What each number of a row must be, and the first place of a row that fails it.
-- After document 01, "Refusals by number", which names the first place.
use Rattle.std.specs.Prelude.{ℕ, zero, suc, Bool, ◌&&◌, Float, if◌then◌else◌}
use Rattle.std.specs.Float.Ieee.{le}
use Rattle.std.specs.Float.Ieee.Scale.{finite}
use Rattle.number.specs.Number.{◌=?◌, usable}
use Rattle.number.specs.declared.Test.{Test}
use Rattle.number.specs.declared.Test.TheVariants.{Finite, Usable, Between}

unfoldable pub holds : Test → Float → Bool
holds Finite x = finite x
holds Usable x = usable x
holds (Between low high) x = finite x && le low x && le x high

-- the first i below n of which t is false, n where there is none
unfoldable pub first_not : (ℕ → Bool) → ℕ → ℕ
first_not t zero = zero
first_not t (suc n) = if first_not t n =? n && t n then suc n else first_not t n
