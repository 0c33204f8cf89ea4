-- Sums followed by a loop: none so far, and one more; and that equal terms have equal sums. Assumes nothing.
use Prim.Native.Nat.{ℕ, zero, suc, ◌+◌, ◌<◌}
use mathlib.Core.Path.{◌≡◌, refl}
use mathlib.Core.Bool.{Bool, true, false}
use native.Mathlib.Numerals.{add-one}
use native.Mathlib.Omega.{arith}
use lib.Ieee.{Float}
use Rattle.number.specs.Number.{◌⊕◌, zero⁺}
use Rattle.number.specs.Sums.{sum_up, sum_where}

pub sum_none : (f : ℕ → Float) → zero⁺ ≡ sum_up f 0
unfolding sum_up
sum_none f = refl

pub sum_more : (f : ℕ → Float) (n : ℕ) {s : Float} → s ≡ sum_up f n → s ⊕ f n ≡ sum_up f (n + 1)
unfolding sum_up
sum_more f n e = rw (add-one, e)

-- the same where what is added is known to be the next term
pub sum_next : (f : ℕ → Float) (n : ℕ) {s v : Float} → s ≡ sum_up f n → v ≡ f n → s ⊕ v ≡ sum_up f (n + 1)
unfolding sum_up
sum_next f n e d = rw (add-one, e, d)

pub sum_ext : (f g : ℕ → Float) (n : ℕ) → ((i : ℕ) → i < n → f i ≡ g i) → sum_up f n ≡ sum_up g n
unfolding sum_up
sum_ext f g zero h = refl
sum_ext f g (suc n) h = rw (sum_ext f g n (λ i l. h i (omega arith)), h n (omega arith))

-- ---- sums that pass over some

pub where_none : (t : ℕ → Bool) (f : ℕ → Float) → zero⁺ ≡ sum_where t f 0
unfolding sum_where
where_none t f = refl

pub where_more : (t : ℕ → Bool) (f : ℕ → Float) (n : ℕ) {s : Float} → s ≡ sum_where t f n → t n ≡ true → s ⊕ f n ≡ sum_where t f (n + 1)
unfolding sum_where
where_more t f n e h = rw (add-one, e, h)

pub where_same : (t : ℕ → Bool) (f : ℕ → Float) (n : ℕ) {s : Float} → s ≡ sum_where t f n → t n ≡ false → s ≡ sum_where t f (n + 1)
unfolding sum_where
where_same t f n e h = rw (add-one, e, h)

pub where_ext : (t u : ℕ → Bool) (f g : ℕ → Float) (n : ℕ) → ((i : ℕ) → i < n → t i ≡ u i) → ((i : ℕ) → i < n → f i ≡ g i)
    → sum_where t f n ≡ sum_where u g n
unfolding sum_where
where_ext t u f g zero h k = refl
where_ext t u f g (suc n) h k = rw (where_ext t u f g n (λ i l. h i (omega arith)) (λ i l. k i (omega arith)), h n (omega arith), k n (omega arith))
