-- The two rules: which of them mixes at which order, and that a later row of the code is the rule's. Assumes nothing.
use Prim.Native.Nat.{ℕ, ◌*◌, ◌^◌, ◌≤◌}
use mathlib.Core.Path.{◌≡◌, refl, sym, ap, ◌∙◌}
use mathlib.Core.Bool.{Bool, true, false}
use mathlib.Core.List.{List}
use native.Mathlib.Nat.{pow-zero, mul-one}
use native.Mathlib.Omega.{arith}
use borrow.Author.Tests.{ne_eqb, eqb-true}
use lib.Ieee.{Float}
use Rattle.number.specs.Table.{fill_at}
use Rattle.number.proofs.Table.{fill_at_ext}
use Rattle.prediction.specs.Prediction.{mixes}
use Rattle.prediction.specs.Steps.{stepped_at, mixed_at, later_at}
use Rattle.prediction.specs.declared.Rule.{Rule}
use Rattle.prediction.specs.declared.Rule.TheVariants.{One, Two}

-- a statement that follows from a test and from its contrary
pub by_test : (b : Bool) {A : Type 0} → (b ≡ true → A) → (b ≡ false → A) → A
by_test true f g = f refl
by_test false f g = g refl

-- only order zero mixes
pub mixes_at_zero : (rule : Rule) (p : ℕ) → mixes rule p ≡ true → p ≡ 0
unfolding mixes
mixes_at_zero One p e = cc
mixes_at_zero Two p e = eqb-true _ _ e

pub mixes_none : (rule : Rule) (p : ℕ) → 1 ≤ p → mixes rule p ≡ false
unfolding mixes
mixes_none One p h = refl
mixes_none Two p h = ne_eqb p 0 (λ e. absurd (omega (arith, e)))

-- ---- a later row of the code is that of the rule

module _ (rule : Rule) (order k power : ℕ) (transition steps previous found : List Float) {row : List Float} where
  -- at order zero it has k places
  pub row_mixed : mixes rule order ≡ true → power ≡ k ^ order → row ≡ fill_at 0 (mixed_at k transition previous) k found
      → row ≡ fill_at 0 (later_at rule order k power transition steps previous) (k * power) found
  unfolding later_at
  row_mixed m e d =
      let all : k * power ≡ k = ap (λ (n : ℕ). k * n) e ∙ ap (λ (n : ℕ). k * k ^ n) (mixes_at_zero rule order m) ∙ rw (pow-zero, mul-one) in
      d
      ∙ fill_at_ext 0 _ k found (later_at rule order k power transition steps previous) (λ s _. rw m)
      ∙ ap (λ (n : ℕ). fill_at 0 (later_at rule order k power transition steps previous) n found) (sym all)

  pub row_stepped : mixes rule order ≡ false → row ≡ fill_at 0 (stepped_at k power steps previous) (k * power) found
      → row ≡ fill_at 0 (later_at rule order k power transition steps previous) (k * power) found
  unfolding later_at
  row_stepped m d = d ∙ fill_at_ext 0 _ (k * power) found (later_at rule order k power transition steps previous) (λ a _. rw m)
