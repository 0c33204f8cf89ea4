-- What is left of a whole number where its end is cut off: the number, whether something was cut off, and the nearest half.
use Rattle.std.specs.Prelude.{ℕ, ◌+◌, ◌/◌, ◌%◌, ◌≡◌, Bool, not, eqb, if◌then◌else◌}
use Rattle.number.specs.Number.{◌=?◌}

-- w / 2 to the nearest whole number, where `rest` says that something was cut off w; at a tie the even one
unfoldable pub halved_of : ℕ → Bool → ℕ
halved_of w rest = if w % 2 =? 0 then w / 2 else (if rest then w / 2 + 1 else w / 2 + w / 2 % 2)

-- w is v / x cut to a whole number, and rest says whether something was cut off
pub record CutBy (v x w : ℕ) (rest : Bool) : Type 0 where
  pub whole : w ≡ v / x
  pub left : rest ≡ not (eqb (v % x) 0)
