-- The whole numbers of `excess` and `settled`: the square of q in two parts (`two_parts`), what m * 2 ^ 52 is above it (`above`), and which number is
-- then nearest to the root (`settled_same`, `settled_next`). Nothing here is about floats. Assumes nothing.
use Rattle.std.proofs.Common.{◌≡◌, ℕ, ◌+◌, ◌-◌, ◌*◌, ◌/◌, ◌%◌, ◌^◌, ◌<◌, ◌≤◌, sym, ap, ◌∙◌, add_assoc, mul_assoc, mul_comm, add-mul, mul-le-mul, add_comm, mul-add, mul_left_comm, arith}
use native.Mathlib.Nat.{add_left_comm}
use Rattle.root.specs.Steps.{RoundsTo}
use Rattle.root.proofs.WholeRoot.{next_square}

-- the products that `excess` works out are small
pub record Small (h l : ℕ) : Type 0 where
  pub upper : h * h ≤ 2 ^ 56
  pub cross : 2 * h * l ≤ 2 ^ 55
  pub lower : l * l ≤ 2 ^ 52

pub small : (q : ℕ) → q < 2 ^ 54 → Small (q / 2 ^ 26) (q % 2 ^ 26)
small q k = record { upper = mul-le-mul high high; cross = mul-le-mul twice low; lower = mul-le-mul low low }
  where
    high : q / 2 ^ 26 ≤ 2 ^ 28
    high = omega arith

    twice : 2 * (q / 2 ^ 26) ≤ 2 ^ 29
    twice = omega arith

    low : q % 2 ^ 26 ≤ 2 ^ 26
    low = omega arith

square_of : (h l : ℕ) → (h * 2 ^ 26 + l) * (h * 2 ^ 26 + l) ≡ h * h * 2 ^ 52 + 2 * h * l * 2 ^ 26 + l * l
square_of h l = simp (mul-add, add-mul, mul_comm, mul_left_comm, mul_assoc, add_assoc, add_comm, add_left_comm) (omega arith)

-- q * q is high * 2 ^ 52 + low
pub two_parts : (q : ℕ)
    → (q / 2 ^ 26 * (q / 2 ^ 26) + 2 * (q / 2 ^ 26) * (q % 2 ^ 26) / 2 ^ 26) * 2 ^ 52 + (2 * (q / 2 ^ 26) * (q % 2 ^ 26) % 2 ^ 26 * 2 ^ 26 + q % 2 ^ 26 * (q % 2 ^ 26)) ≡ q * q
two_parts q =
    carried (q / 2 ^ 26 * (q / 2 ^ 26)) (2 * (q / 2 ^ 26) * (q % 2 ^ 26)) (q % 2 ^ 26 * (q % 2 ^ 26)) ∙ sym (square_of (q / 2 ^ 26) (q % 2 ^ 26)) ∙ ap (λ (z : ℕ). z * z) whole
  where
    carried : (P c L : ℕ) → (P + c / 2 ^ 26) * 2 ^ 52 + (c % 2 ^ 26 * 2 ^ 26 + L) ≡ P * 2 ^ 52 + c * 2 ^ 26 + L
    carried P c L = omega arith

    whole : q / 2 ^ 26 * 2 ^ 26 + q % 2 ^ 26 ≡ q
    whole = omega arith

-- what m * 2 ^ 52 is above the square Q, plus 2 ^ 54
pub above : (m e high low Q : ℕ) → (e + high) % 2 ^ 64 ≡ m + 2 → e ≤ 8 → high < 2 ^ 60 → high * 2 ^ 52 + low ≡ Q → low < 2 ^ 53 → (e + 2) * 2 ^ 52 - low + Q ≡ m * 2 ^ 52 + 2 ^ 54
above m e high low Q w h u p l = go (no_wrap w)
  where
    no_wrap : (e + high) % 2 ^ 64 ≡ m + 2 → e + high ≡ m + 2
    no_wrap w = omega arith

    go : e + high ≡ m + 2 → (e + 2) * 2 ^ 52 - low + Q ≡ m * 2 ^ 52 + 2 ^ 54
    go w = omega (arith, p, l)

-- ---- which number is nearest, by the excess s

pub settled_same : (n q s : ℕ) → s + q * q ≡ n + 2 ^ 54 → 2 ^ 54 < s + q → s ≤ 2 ^ 54 + q → RoundsTo n q
settled_same n q s = go (q * q)
  where
    go : (S : ℕ) → s + S ≡ n + 2 ^ 54 → 2 ^ 54 < s + q → s ≤ 2 ^ 54 + q → (S < n + q) × (n ≤ S + q)
    go S e h k = omega arith

pub settled_next : (n q s : ℕ) → s + q * q ≡ n + 2 ^ 54 → 2 ^ 54 + q < s → s ≤ 2 ^ 54 + 3 * q + 2 → RoundsTo n (q + 1)
settled_next n q s e h k = go (q * q) ((q + 1) * (q + 1)) e (next_square q)
  where
    go : (S S' : ℕ) → s + S ≡ n + 2 ^ 54 → S' ≡ S + (2 * q + 1) → (S' < n + (q + 1)) × (n ≤ S' + (q + 1))
    go S S' e f = omega arith
