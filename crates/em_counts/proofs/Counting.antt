-- Counting, one place more: the labels and the weight of a place, and the two arrays after it. Assumes nothing.
use Prim.Native.Nat.{ℕ, ◌+◌, ◌*◌, ◌/◌, ◌%◌, ◌<◌, ◌≤◌}
use mathlib.Core.Path.{◌≡◌, refl, sym, ◌∙◌}
use mathlib.Core.Logic.{◌≢◌}
use mathlib.Core.Bool.{true, false}
use mathlib.Core.List.{List}
use native.Mathlib.Nat.{mul-le-mul, div-add-mod'}
use native.Mathlib.Decide.{ℕ_discrete}
use borrow.Author.Tests.{eq-eqb, ne_eqb}
use lib.Arith.{digits_lt, digits_div, digits_mod}
use lib.ListN.{set, replicate}
use lib.Ieee.{Float}
use Rattle.number.specs.Number.{◌⊕◌, zero⁺}
use Rattle.number.specs.Table.{◌!◌}
use Rattle.rows.proofs.Cells.{cells_none, cells_one}
use Rattle.em_counts.specs.Steps.{is_step, is_before, Counted}

-- ---- what a place counts for: the cell of its two labels, and the column of its label before

module _ (k e s j : ℕ) (h : s < k) (h' : j < k) (now : e % k ≡ s) (before : e / k % k ≡ j) where
  step_there : is_step k (s * k + j) e ≡ true
  unfolding is_step
  step_there = rw (now, before, digits_div s h', digits_mod s h', eq-eqb s s refl, eq-eqb j j refl)

  step_elsewhere : (c : ℕ) → c ≢ s * k + j → is_step k c e ≡ false
  unfolding is_step
  step_elsewhere c other =
      elim (ℕ_discrete s (c / k)) [
        | yes z ↦
            (let w : j ≢ c % k = λ v. other (sym (div-add-mod' c k) ∙ rw (← z, ← v)) in
            rw (now, before, eq-eqb s (c / k) z, ne_eqb j (c % k) w))
        | no z ↦ rw (now, ne_eqb s (c / k) z)
      ]

  before_there : is_before k j e ≡ true
  unfolding is_before
  before_there = rw (before, eq-eqb j j refl)

  before_elsewhere : (j' : ℕ) → j' ≢ j → is_before k j' e ≡ false
  unfolding is_before
  before_elsewhere j' other = rw (before, ne_eqb j j' (λ v. other (sym v)))

-- ---- the arrays

pub square_within : (k : ℕ) → k ≤ 16 → k * k ≤ 256
square_within k h = mul-le-mul h h

module _ (k : ℕ) (work : List Float) (few : k ≤ 16) where
  pub counted_none : Counted k work 0 (replicate 256 zero⁺) (replicate 16 zero⁺)
  counted_none = record { cells = cells_none _ _ (k * k) 256 (square_within k few); sums = cells_none _ _ k 16 few }

  module _ {e : ℕ} {counts columns : List Float} (C : Counted k work e counts columns) where
    counted_more : (s j : ℕ) → s < k → j < k → e % k ≡ s → e / k % k ≡ j
        → Counted k work (e + 1) (set counts (s * k + j) (counts ! (s * k + j) ⊕ work ! e)) (set columns j (columns ! j ⊕ work ! e))
    counted_more s j h h' now before =
        let here = step_there k e s j h h' now before in
        let other = step_elsewhere k e s j h h' now before in
        let there = before_there k e s j h h' now before in
        let elsewhere = before_elsewhere k e s j h h' now before in
        record {
          cells = cells_one (is_step k) _ (k * k) e (replicate 256 zero⁺) C.cells (square_within k few) (s * k + j) (digits_lt h h') here (λ c _. other c) refl;
          sums = cells_one (is_before k) _ k e (replicate 16 zero⁺) C.sums few j h' there (λ c _. elsewhere c) refl;
        }

  -- place s of block c
  pub block_more : (c s : ℕ) {j : ℕ} {counts columns : List Float} → s < k → j < k → j ≡ c % k → Counted k work (c * k + s) counts columns
      → (let w = work ! (c * k + s) in
      Counted k work (c * k + s + 1) (set counts (s * k + j) (counts ! (s * k + j) ⊕ w)) (set columns j (columns ! j ⊕ w)))
  block_more c s h h' e C = counted_more C s _ h h' (digits_mod c h) (rw (digits_div c h) (sym e))
