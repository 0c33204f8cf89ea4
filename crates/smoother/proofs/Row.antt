-- The weights that the code makes of a row, with shared sums and by window number, are those of the smoother. Assumes nothing.
use Prim.Native.Nat.{ℕ, suc, ◌+◌, ◌*◌, ◌%◌, ◌^◌, ◌<◌}
use mathlib.Core.Path.{◌≡◌, refl}
use mathlib.Core.List.{List}
use native.Mathlib.Omega.{arith}
use lib.Ieee.{Float, nan}
use Rattle.number.specs.Number.{◌⊗◌}
use Rattle.number.specs.Table.{◌!◌}
use Rattle.number.proofs.Sums.{where_ext}
use Rattle.number.proofs.Table.{get_d_tab}
use Rattle.window.specs.Windows.{label, labels, number, successor}
use Rattle.window.proofs.Windows.{number_labels}
use Rattle.window.proofs.Neighbours.{number_successor, successor_below}
use Rattle.params.specs.declared.MsarParams.{MsarParams}
use Rattle.params.specs.Parameters.{k, p}
use Rattle.rows.specs.Rows.{Same, row_of}
use Rattle.smoother.specs.Smoother.{through, foreseen, smoothed_weight}
use Rattle.smoother.specs.Steps.{term_at, seen_at, sum_after, Sharing, shared_sum}

module _ (q : MsarParams) (pos : 0 < k q) {count stride blocks : ℕ} (shared : Sharing (k q) (k q ^ p q) count stride blocks) (a : ℕ) where
  -- a successor's place
  place : (r : ℕ) → a % count * stride + r ≡ number (k q) (successor (p q) (labels (k q) (suc (p q)) a) r)
  place r = omega (arith, number_successor (k q) (p q) pos a r, shared.bases a)

  label_now : label (labels (k q) (suc (p q)) a) 0 ≡ a % k q
  unfolding labels
  label_now = refl

  -- ---- the next row, as it stands in memory and as the definition has it

  module _ (next next' : List Float) (smoothed predicted : List Float) (es : Same (k q ^ suc (p q)) next smoothed)
      (ep : Same (k q ^ suc (p q)) next' predicted) where
    seen_same : (r : ℕ) → r < k q
        → seen_at next' (a % count * stride) r ≡ foreseen q smoothed predicted (labels (k q) (suc (p q)) a) r
    unfolding seen_at foreseen
    seen_same r h = rw (place r, ep _ (successor_below (k q) (p q) pos a r h))

    term_same : (r : ℕ) → r < k q
        → term_at (k q) q.transition next next' (a % count * stride) (a % count % k q) r
        ≡ through q smoothed predicted (labels (k q) (suc (p q)) a) r
    unfolding term_at through
    term_same r h =
        let b = successor_below (k q) (p q) pos a r h in
        rw (place r, shared.labels a, ep _ b, es _ b, label_now)

    pub weight_same : (row filtered : List Float) → Same (k q ^ suc (p q)) row filtered → a < k q ^ suc (p q)
        → row ! a ⊗ shared_sum (k q) stride q.transition next next' (a % count)
        ≡ row_of (k q) (p q) (λ w. smoothed_weight q smoothed predicted w filtered) ! a
    unfolding shared_sum sum_after smoothed_weight row_of
    weight_same row filtered ef h =
        rw (
          where_ext _ _ _ _ (k q) seen_same term_same,
          ef a h,
          get_d_tab (λ b. smoothed_weight q smoothed predicted (labels (k q) (suc (p q)) b) filtered) (k q ^ suc (p q)) a nan h,
          number_labels (k q) pos (suc (p q)) a h,
        )
