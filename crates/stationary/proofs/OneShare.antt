-- What the check of one share finds, by the code's tests. Assumes nothing.
use mathlib.Core.Path.{◌≡◌, refl, sym, ◌∙◌}
use mathlib.Core.Bool.{Bool, true, false, not}
use mathlib.Core.List.{List}
use Prim.Native.Nat.{ℕ}
use lib.Ieee.{Float, le}
use lib.Ieee.Scale.{finite}
use Rattle.number.specs.Table.{◌!◌}
use Rattle.refusal.specs.Checks.{Passed, Failed}
use Rattle.refusal.specs.declared.Refusal.TheVariants.{Share}
use Rattle.stationary.specs.Stationary.{hair, share_check}

was_false : (b : Bool) → not b ≡ true → b ≡ false
was_false true h = sym h
was_false false h = refl

was_true : (b : Bool) → not b ≡ false → b ≡ true
was_true true h = refl
was_true false h = sym h

-- the share at place i, as the loop has it
module _ (x : List Float) (i : ℕ) {v : Float} (at : v ≡ x ! i) {b : Bool} (e : b ≡ finite v) where
  pub share_not_finite : not b ≡ true → share_check x i ≡ Failed (Share i v)
  unfolding share_check
  share_not_finite h = rw (← at, sym e ∙ was_false b h)

  pub share_below : not b ≡ false → not (le hair v) ≡ true → share_check x i ≡ Failed (Share i v)
  unfolding share_check
  share_below h l = rw (← at, sym e ∙ was_true b h, was_false (le hair v) l)

  pub share_passes : not b ≡ false → not (le hair v) ≡ false → share_check x i ≡ Passed
  unfolding share_check
  share_passes h l = rw (← at, sym e ∙ was_true b h, was_true (le hair v) l)
