-- Sums: they start at positive zero and run upward. After document 01, "The steps".
use Rattle.std.specs.Prelude.{ℕ, zero, suc, Bool, Float, if◌then◌else◌}
use Rattle.number.specs.Number.{◌⊕◌, zero⁺}

-- f 0 + f 1 + .. + f (n - 1)
unfoldable pub sum_up : (ℕ → Float) → ℕ → Float
sum_up f zero = zero⁺
sum_up f (suc n) = sum_up f n ⊕ f n

-- the same over those i below n for which the test holds
unfoldable pub sum_where : (ℕ → Bool) → (ℕ → Float) → ℕ → Float
sum_where holds f zero = zero⁺
sum_where holds f (suc n) = if holds n then sum_where holds f n ⊕ f n else sum_where holds f n
