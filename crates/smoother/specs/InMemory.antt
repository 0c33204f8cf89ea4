-- The smoother's work on memory: where predicted and filtered rows stood, smoothed rows stand in the place of the filtered ones.
use Rattle.std.specs.Prelude.{ℕ, suc, ◌-◌, ◌*◌, ◌^◌, ◌<◌, ◌≡◌, List, length, drop, Float}
use Rattle.params.specs.declared.MsarParams.{MsarParams}
use Rattle.params.specs.Parameters.{k, p}
use Rattle.rows.specs.Rows.{Same}
use Rattle.rows.specs.Memory.{predicted_from, filtered_from}
use Rattle.smoother.specs.Smoother.{smoothed_row}

-- n rows of m weights stand in memory, row i from place `from i` on
abbrev pub Stand : ℕ → ℕ → (ℕ → ℕ) → List Float → (ℕ → List Float) → Type 0
Stand n m from work rows = (i : ℕ) → i < n → Same m (drop (from i) work) (rows i)

-- memory with n rows, before and after. What lies behind the filtered rows is as it was
pub record SmoothedRows (q : MsarParams) (n : ℕ) (before after : List Float) : Type 0 where
  pub long : length after ≡ length before
  pub rest : drop (n * k q ^ suc (p q)) after ≡ drop (n * k q ^ suc (p q)) before
  pub rows : (predicted filtered : ℕ → List Float)
      → Stand n (k q ^ suc (p q)) (predicted_from n (k q ^ suc (p q))) before predicted
      → Stand n (k q ^ suc (p q)) (filtered_from (k q ^ suc (p q))) before filtered
      → Stand n (k q ^ suc (p q)) (filtered_from (k q ^ suc (p q))) after (λ i. smoothed_row q predicted filtered (n - 1 - i) i)
