-- One lag more, block by block from the last: what the blocks done so far hold. Assumes nothing.
use Prim.Native.Nat.{ℕ, zero, suc, ◌+◌, ◌-◌, ◌*◌, ◌/◌, ◌%◌, ◌<◌, ◌≤◌}
use mathlib.Core.Path.{◌≡◌, ◌∙◌}
use mathlib.Core.Logic.{◌⊎◌, inl, inr}
use mathlib.Core.List.{List}
use native.Mathlib.Nat.{zero-add, zero-mul, sub-zero, sub_self, suc-mul, mul_assoc, mul-le-mul_right, mul-add-mod_self_right, div-add-mod'}
use native.Mathlib.Omega.{arith}
use lib.Arith.{digits_div, digits_mod}
use lib.ListN.{length}
use lib.Ieee.{Float}
use Rattle.number.specs.Number.{◌⊕◌, ◌⊖◌, ◌⊗◌}
use Rattle.number.specs.Table.{◌!◌, fill_at}
use Rattle.number.proofs.Table.{fill_at_none, fill_at_ext, fill_at_before}
use Rattle.density.specs.Steps.{lagged_at}
use Rattle.density.proofs.Rows.{fill_at_front}

-- whole blocks leave the label now as it is
pub block_label : (k step s b : ℕ) → step % k ≡ 0 → (s * step + b) % k ≡ b % k
block_label k step s b z =
    let w : step / k * k ≡ step = omega (arith, div-add-mod' step k, z) in
    let v : s * step + b ≡ s * (step / k) * k + b = rw (mul_assoc, w) in
    rw v (mul-add-mod_self_right (s * (step / k)) k b)

-- block s ends where the next one starts, and within the row
pub block_end : (k step s : ℕ) → s < k → s * step + step ≤ k * step
block_end k step s h = omega (arith, mul-le-mul_right step h, suc-mul s step)

-- and it starts at 0 or past block 0
pub block_apart : (step s : ℕ) → (s * step ≡ 0) ⊎ (step ≤ s * step)
block_apart step zero = inl (zero-mul step)
block_apart step (suc s) = inr (omega (arith, suc-mul s step))

module _ (row phis means : List Float) (reading : Float) (k step : ℕ) where
  -- the block from `at` on
  abbrev block_from : ℕ → ℕ → Float
  block_from at i = lagged_at row phis means reading k step (at + i)

  -- the row with blocks s, .., k - 1 done
  abbrev pub lagged_from : ℕ → List Float
  lagged_from s = fill_at (s * step) (block_from (s * step)) (k * step - s * step) row

  pub lagged_none : row ≡ lagged_from k
  lagged_none = rw (sub_self (k * step)) (fill_at_none (k * step) _ row)

  pub lagged_all : {m : List Float} → m ≡ lagged_from 0 → m ≡ fill_at 0 (lagged_at row phis means reading k step) (k * step) row
  lagged_all e = e ∙ rw (zero-mul step, sub-zero) (fill_at_ext 0 _ (k * step) row _ (λ i h. rw (zero-add i)))

  -- place b of block s
  lagged_at_lem : (s b : ℕ) → step % k ≡ 0 → b < step
      → row ! b ⊕ phis ! (b % k) ⊗ (reading ⊖ means ! s) ≡ lagged_at row phis means reading k step (s * step + b)
  unfolding lagged_at
  lagged_at_lem s b z h = rw (digits_mod s h, digits_div s h, block_label k step s b z)

  pub lagged_more : (s u : ℕ) → suc s ≡ u → {m r : List Float} → m ≡ lagged_from u
      → r ≡ fill_at (s * step) (λ b. m ! b ⊕ phis ! (b % k) ⊗ (reading ⊖ means ! s)) step m
      → s < k → step % k ≡ 0 → k * step ≤ length row → r ≡ lagged_from s
  lagged_more s u n' {m} {r} e e' h z l =
      let a : u * step ≡ s * step + step = rw (← n') (suc-mul s step) in
      let b : s * step + step ≤ k * step = block_end k step s h in
      let n : step + (k * step - (s * step + step)) ≡ k * step - s * step = omega arith in
      let done = rw a at e in
      let read : (i : ℕ) → i < step → m ! i ≡ row ! i = λ i j. fill_at_before _ _ _ _ done i (omega arith) (omega arith) in
      e'
      ∙ fill_at_ext _ _ step m (block_from (s * step)) (λ i j. rw (read i j) (lagged_at_lem s i z j))
      ∙ rw n at (fill_at_front _ (block_from (s * step)) (block_from (s * step + step)) step _ row done (omega arith) (λ i j. let g : s * step + step + i ≡ s * step + (step + i) = omega arith in rw g))
