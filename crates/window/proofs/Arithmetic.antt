-- The code's arithmetic on a window's number is that of the lists of labels, and stays small. Assumes nothing.
use Prim.Native.Nat.{ℕ, suc, ◌+◌, ◌*◌, ◌/◌, ◌%◌, ◌^◌, ◌<◌}
use mathlib.Core.Path.{◌≡◌, sym}
use native.Mathlib.Nat.{pow-suc, pow-zero, div-one, div-div-eq-div-mul, one-le-pow}
use native.Mathlib.Numerals.{add-one}
use native.Mathlib.Omega.{arith}
use Rattle.number.proofs.Table.{cell_below}
use Rattle.window.specs.Windows.{label, labels, number, successor, predecessor}
use Rattle.window.specs.Shape.{WindowNumber}
use Rattle.window.proofs.Windows.{label_labels_any}
use Rattle.window.proofs.Neighbours.{number_successor, number_predecessor, successor_below, predecessor_below}

-- ---- dividing by k: not yet, and once more

pub divided_none : (k a : ℕ) → a ≡ a / k ^ 0
divided_none k a = rw (pow-zero, div-one)

pub divided_more : (k a i : ℕ) {rest : ℕ} → rest ≡ a / k ^ i → rest / k ≡ a / k ^ (i + 1)
divided_more k a i e = rw (e, add-one, pow-suc, div-div-eq-div-mul)

module _ {k p a : ℕ} (w : WindowNumber k p a) where
  pub k_positive : 0 < k
  k_positive = omega (arith, w.shape.low)

  pub label_is : (l : ℕ) {rest : ℕ} → rest ≡ a / k ^ l → rest % k ≡ label (labels k (suc p) a) l
  label_is l e = rw e (sym (label_labels_any k k_positive (suc p) a l w.below))

  -- ---- the windows before and after, by k^p

  module _ {power : ℕ} (e : power ≡ k ^ p) where
    pub power_positive : 0 < power
    power_positive = rw e (one-le-pow p k k_positive)

    pub predecessor_is : (x : ℕ) → a / k + x * power ≡ number k (predecessor (labels k (suc p) a) x)
    predecessor_is x = rw e (sym (number_predecessor k p k_positive a x w.below))

    pub successor_is : (r : ℕ) → r + a % power * k ≡ number k (successor p (labels k (suc p) a) r)
    successor_is r = rw e (sym (number_successor k p k_positive a r))

    -- also with k for k^p, so that this slip is refused for its value and not for its size
    pub predecessor_small : (x : ℕ) → x < k → (a / k + x * power < 256) × (x * k < 256)
    predecessor_small x h = (
      rw (predecessor_is x) (omega (arith, predecessor_below k p k_positive a x h, w.shape.few)),
      omega (arith, cell_below k x 0 w.shape.high h k_positive),
    )

    pub successor_small : (r : ℕ) → r < k → r + a % power * k < 256
    successor_small r h = rw (successor_is r) (omega (arith, successor_below k p k_positive a r h, w.shape.few))
