-- Places of a row that stands in memory. Assumes nothing.
use Prim.Native.Nat.{ℕ, ◌+◌, ◌-◌, ◌*◌, ◌<◌, ◌≤◌}
use mathlib.Core.Path.{◌≡◌, ◌∙◌}
use mathlib.Core.List.{List, ◌++◌}
use native.Mathlib.Omega.{arith}
use lib.Arith.{digits_div, digits_mod}
use lib.ListN.{length, drop, replicate, length-append, length-drop, length-replicate, get_or-append, get_or-replicate}
use lib.Seq.{get_or-drop, get_or-append-add}
use lib.Ieee.{Float, nan}
use Rattle.number.specs.Table.{◌!◌, fill_at}
use Rattle.number.proofs.Table.{fill_is}
use Rattle.rows.specs.Memory.{filtered_from}
use Rattle.rows.specs.Steps.{label_sum, label_sum_at}

-- place i of the row that stands from `from` on
pub place : (l : List Float) (from i : ℕ) → drop from l ! i ≡ l ! (from + i)
place l from i = get_or-drop from l i nan

-- n places with one number, in front of what stood behind them
pub fill_same : (x : Float) (n : ℕ) (l : List Float) → n ≤ length l → replicate n x ++ drop n l ≡ fill_at 0 (λ _. x) n l
fill_same x n l h =
    fill_is (λ _. x) n l h (simp (length-append, length-replicate, length-drop) (omega arith))
    (λ i b. get_or-append (replicate n x) (drop n l) nan i (rw length-replicate b) ∙ get_or-replicate n i x nan b)
    (λ i b. let w : n + (i - n) ≡ i = omega arith in rw (length-replicate, w) at (get_or-append-add (replicate n x) (drop n l) (i - n) nan ∙ get_or-drop n l (i - n) nan))

-- ---- the table of results, a row at a time

pub results_of_row : (k power m : ℕ) (work : List Float) (i s : ℕ) → s < k → label_sum k power (drop (filtered_from m i) work) s ≡ label_sum_at k power m work (i * k + s)
unfolding label_sum_at
results_of_row k power m work i s h = rw (digits_div i h, digits_mod i h)
