-- What the steps of the code give, by window number, with the sum over successors made once for the windows that share it. A row's weights stand
-- in a list that may go on behind them. The proofs show that this is the smoother's; a reader of the calls need not know it.
use Rattle.std.specs.Prelude.{ℕ, ◌+◌, ◌*◌, ◌%◌, ◌<◌, ◌≡◌, Bool, List, drop, Float}
use Rattle.std.specs.Float.Ieee.{lt}
use Rattle.number.specs.Number.{◌⊗◌, ◌⊘◌, zero⁺}
use Rattle.number.specs.Sums.{sum_where}
use Rattle.number.specs.Table.{◌!◌, cell}

-- ---- the sum over the successors base, .., base + k - 1 of a window whose label now is s

unfoldable pub term_at : ℕ → List Float → List Float → List Float → ℕ → ℕ → ℕ → Float
term_at k T smoothed predicted base s r = smoothed ! (base + r) ⊗ cell k T r s ⊘ predicted ! (base + r)

unfoldable pub seen_at : List Float → ℕ → ℕ → Bool
seen_at predicted base r = lt zero⁺ (predicted ! (base + r))

unfoldable pub sum_after : ℕ → List Float → List Float → List Float → ℕ → ℕ → Float
sum_after k T smoothed predicted base s = sum_where (seen_at predicted base) (term_at k T smoothed predicted base s) k

-- ---- windows that share a sum

-- window a takes the sum a % count: it has the same label now, and the same successors. A row has `blocks` times `count` windows
pub record Sharing (k power count stride blocks : ℕ) : Type 0 where
  pub some : 0 < count
  pub bases : (a : ℕ) → a % count * stride ≡ a % power * k
  pub labels : (a : ℕ) → a % count % k ≡ a % k
  pub whole : blocks * count ≡ power * k

unfoldable pub shared_sum : ℕ → ℕ → List Float → List Float → List Float → ℕ → Float
shared_sum k stride T smoothed predicted c = sum_after k T smoothed predicted (c * stride) (c % k)

-- ---- a row of weights times its sums

unfoldable pub scaled_at : List Float → List Float → ℕ → Float
scaled_at sums row a = row ! a ⊗ sums ! a

unfoldable pub blockwise : ℕ → List Float → List Float → ℕ → Float
blockwise count sums row a = row ! a ⊗ sums ! (a % count)

-- the smoothed weight of window a, whose row stands from `from` on; the next row's smoothed weights follow it, its predicted ones stand from `ahead` on
unfoldable pub smoothed_in : ℕ → ℕ → ℕ → ℕ → List Float → ℕ → ℕ → List Float → ℕ → Float
smoothed_in k m count stride T from ahead work a =
    drop from work ! a ⊗ shared_sum k stride T (drop (from + m) work) (drop ahead work) (a % count)
