-- A row of weights times its sums, place by place and block by block, where the row stands in memory. Assumes nothing.
use Prim.Native.Nat.{ℕ, ◌+◌, ◌*◌, ◌%◌, ◌≤◌}
use mathlib.Core.Path.{◌≡◌, sym, ap, ◌∙◌}
use mathlib.Core.List.{List}
use native.Mathlib.Numerals.{add-one}
use native.Mathlib.Nat.{suc-mul, zero-add, mod-lt}
use native.Mathlib.Omega.{arith}
use lib.Arith.{digits_mod}
use lib.ListN.{length, drop}
use lib.Seq.{get_or-drop}
use lib.Ieee.{Float, nan}
use Rattle.number.specs.Number.{◌⊗◌}
use Rattle.number.specs.Table.{◌!◌, fill_at}
use Rattle.number.proofs.Table.{fill_at_past, fill_at_join, fill_at_at, fill_at_ext}
use Rattle.smoother.specs.Steps.{Sharing, shared_sum, scaled_at, blockwise, smoothed_in}

-- a place that is not written yet holds what it held
pub still : (at : ℕ) (f : ℕ → Float) (n c : ℕ) (l : List Float) {m : List Float} → m ≡ fill_at at f n l → n ≤ c → at ≤ length l → m ! (at + c) ≡ drop at l ! c
still at f n c l e h b = fill_at_past at f n l e (at + c) (omega arith) b ∙ sym (get_or-drop at l c nan)

pub scaled_here : (sums : List Float) (at c : ℕ) (l : List Float) {m : List Float} → m ≡ fill_at at (scaled_at sums (drop at l)) c l → at ≤ length l
    → m ! (at + c) ⊗ sums ! c ≡ scaled_at sums (drop at l) c
unfolding scaled_at
scaled_here sums at c l e h = rw (still at _ c c l e (omega arith) h)

-- the next block of count places
pub block_more : (sums : List Float) (count at x : ℕ) (l : List Float) {m m' : List Float}
    → m ≡ fill_at at (blockwise count sums (drop at l)) (x * count) l
    → m' ≡ fill_at (at + x * count) (scaled_at sums (drop (at + x * count) m)) count m
    → at + (x * count + count) ≤ length l
    → m' ≡ fill_at at (blockwise count sums (drop at l)) ((x + 1) * count) l
unfolding scaled_at blockwise
block_more sums count at x l {m} e e' h =
    e'
    ∙ fill_at_join at _ _ (x * count) count l e (omega arith)
    (λ c b.
    let q : at + x * count + c ≡ at + (x * count + c) = omega arith in
    rw (get_or-drop (at + x * count) m c nan, digits_mod x b, ← still at _ (x * count) (x * count + c) l e (omega arith) (omega arith), q))
    ∙ rw (add-one, suc-mul)

-- a row times the sums that its windows share is the smoothed row
pub row_done : {k power count stride blocks : ℕ} (w : Sharing k power count stride blocks) (m : ℕ) (T : List Float) (at ahead : ℕ) (l sums₀ : List Float)
    {l' sums : List Float}
    → sums ≡ fill_at 0 (shared_sum k stride T (drop (at + m) l) (drop ahead l)) count sums₀
    → l' ≡ fill_at at (blockwise count sums (drop at l)) m l
    → l' ≡ fill_at at (smoothed_in k m count stride T at ahead l) m l
unfolding blockwise smoothed_in
row_done {count = count} w m T at ahead l sums₀ e e' =
    e'
    ∙ fill_at_ext at _ _ l _
    (λ a b. ap (λ x. drop at l ! a ⊗ x) (rw zero-add at (fill_at_at 0 _ count sums₀ e (a % count) (mod-lt a w.some) (omega arith))))
