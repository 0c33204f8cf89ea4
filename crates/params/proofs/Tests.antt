-- What a test on a count says of it. Assumes nothing.
use mathlib.Core.Path.{◌≡◌, refl, sym, ◌∙◌}
use mathlib.Core.Bool.{Bool, true, false, not, ◌||◌}
use mathlib.Core.Logic.{◌⊎◌, inl, inr, ⊎_elim}
use Prim.Native.Nat.{ℕ, ◌≤◌}
use native.Mathlib.Omega.{arith}
use borrow.Author.Tests.{eqb-true, not-false}
use Rattle.number.specs.Number.{◌=?◌}

-- one or one for each of at most 16 regimes: at most 16
pub at_most : (a k : ℕ) {b : Bool} → b ≡ (a =? 1 || a =? k) → not b ≡ false → k ≤ 16 → a ≤ 16
at_most a k e h l = ⊎_elim (λ w. rw (eqb-true a 1 w) (omega arith)) (λ w. rw (eqb-true a k w) l) (either (a =? 1) (a =? k) (sym e ∙ not-false _ h))
  where
    either : (x y : Bool) → (x || y) ≡ true → (x ≡ true) ⊎ (y ≡ true)
    either true y h = inl refl
    either false y h = inr h
