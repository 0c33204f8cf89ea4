-- How many binary digits limbs have, and what is left without the lowest of them. Assumes nothing.
use mathlib.Core.Path.{◌≡◌, refl, sym, ap, ◌∙◌, subst}
use mathlib.Core.List.{List}
use Prim.Native.Nat.{ℕ, suc, ◌+◌, ◌-◌, ◌*◌, ◌^◌, ◌≤◌, ◌<◌}
use native.Mathlib.Nat.{le_antisymm, le_trans, le_of_lt, not-le_of_lt, lt_of_not-le, mul-le-mul_left}
use native.Mathlib.Omega.{arith}
use lib.Pow.{pow-add, pow_mono}
use lib.Count.{count_leading_zeros, leading_top}
use lib.Ieee.{size}
use lib.Ieee.Digits.{size-le, size-lt}
use lib.ListN.{length, get_or, take, drop}
use Rattle.text_limbs.specs.Limbs.{value, Limbs}
use Rattle.text_limbs.proofs.Value.{weight, split_value, drop_value, take_below}

-- n has z + 1 digits
pub size_is : (n z : ℕ) → 2 ^ z ≤ n → n < 2 ^ suc z → size n ≡ suc z
size_is n z a b = le_antisymm (size-le n (suc z) b) (lt_of_not-le (λ (h : size n ≤ z). not-le_of_lt (size-lt n) (le_trans (pow_mono h) a)))

-- the highest limb that is not zero is limb i
top_size : (l : List ℕ) (i : ℕ) → Limbs l → i < 72 → value (drop (suc i) l) ≡ 0 → 0 < get_or l i 0 → size (value l) + count_leading_zeros 64 (get_or l i 0) ≡ 32 * suc i + 32
top_size l i h k e p =
    let t = leading_top 64 (get_or l i 0) p (wide (get_or l i 0) (h.small i)) in
    let j : ℕ = t.0 in
    let il : i < length l = subst (λ (n : ℕ). i < n) (sym h.count) k in
    let s : value l ≡ value (take i l) + weight i * get_or l i 0 =
    split_value l i (le_of_lt il) ∙ ap (λ (z : ℕ). value (take i l) + weight i * z) (drop_value l i il ∙ none (get_or l i 0) (value (drop (suc i) l)) e) in
    let z : size (value l) ≡ suc (32 * i + j) =
    size_is (value l) (32 * i + j)
    (subst (λ (n : ℕ). n ≤ value l) (sym (pow-add 2 (32 * i) j)) (subst (λ (n : ℕ). weight i * 2 ^ j ≤ n) (sym s) (above (weight i) (2 ^ j) (get_or l i 0) (value (take i l)) t.2)))
    (subst (λ (n : ℕ). value l < n) (sym (ap (λ (x : ℕ). 2 ^ x) (later i j) ∙ pow-add 2 (32 * i) (suc j)))
    (subst (λ (n : ℕ). n < weight i * 2 ^ suc j) (sym s) (below (weight i) (2 ^ suc j) (get_or l i 0) (value (take i l)) (take_below l i h.small (le_of_lt il)) t.3))) in
    last (size (value l)) (count_leading_zeros 64 (get_or l i 0)) i j z t.1
  where
    wide : (x : ℕ) → x < 2 ^ 32 → x < 2 ^ 64
    wide x h = omega arith

    none : (x v : ℕ) → v ≡ 0 → x + 2 ^ 32 * v ≡ x
    none x v e = omega arith

    later : (i j : ℕ) → suc (32 * i + j) ≡ 32 * i + suc j
    later i j = omega arith

    above : (w q x v : ℕ) → q ≤ x → w * q ≤ v + w * x
    above w q x v h = omega (arith, mul-le-mul_left w h)

    below : (w q x v : ℕ) → v < w → x < q → v + w * x < w * q
    below w q x v a b = let m : w * suc x ≤ w * q = mul-le-mul_left w b in omega (arith, m)

    last : (z g i j : ℕ) → z ≡ suc (32 * i + j) → g + suc j ≡ 64 → z + g ≡ 32 * suc i + 32
    last z g i j a b = omega arith

pub digits_are : (l : List ℕ) (i : ℕ) → Limbs l → (i < 72) × (value (drop (i + 1) l) ≡ 0) × (0 < get_or l i 0)
    → (count_leading_zeros 64 (get_or l i 0) ≤ 32 * i + 64) × (32 * i + 64 - count_leading_zeros 64 (get_or l i 0) ≡ size (value l))
digits_are l i h p =
    go (size (value l)) (count_leading_zeros 64 (get_or l i 0)) i
    (top_size l i h p.0 (subst (λ (j : ℕ). value (drop j l) ≡ 0) (next i) p.1) p.2)
  where
    next : (i : ℕ) → i + 1 ≡ suc i
    next i = omega arith

    go : (z g i : ℕ) → z + g ≡ 32 * suc i + 32 → (g ≤ 32 * i + 64) × (32 * i + 64 - g ≡ z)
    go z g i e = (omega arith, omega arith)

pub size_zero : size 0 ≡ 0
unfolding size
size_zero = refl
