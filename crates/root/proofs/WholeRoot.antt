-- `whole_root` of m * 2 ^ 52 is nearest to its root (`whole_root_near`), and no other whole number is (`is_whole_root`). Nothing here is about
-- floats. Assumes nothing.
use Rattle.std.proofs.Common.{◌≡◌, ℕ, zero, suc, ◌+◌, ◌-◌, ◌*◌, ◌/◌, ◌^◌, ◌<◌, ◌≤◌, sym, inl, inr, le_trans, le_of_eq, add_assoc, mul-le-mul_right, suc-mul, mul_comm, add-mul, add_comm, mul-le-mul_left, one-mul, mul-one, mul-suc, mul-add, mul_left_comm, arith, le-leb}
use native.Mathlib.Nat.{add_left_comm, pow-succ'}
use borrow.Author.Tests.{lt-leb}
use Rattle.rounding.proofs.Choose.{le_or_lt}
use Rattle.root.specs.Root.{digit, cut, rounded, whole_root}
use Rattle.root.specs.Steps.{RoundsTo}

-- ---- squares

pub next_square : (q : ℕ) → (q + 1) * (q + 1) ≡ q * q + (2 * q + 1)
next_square q = simp (mul-add, add-mul, mul-one, one-mul) (omega arith)

pub odd_square : (q : ℕ) → (q * 2 + 1) * (q * 2 + 1) ≡ 4 * (q * q) + (4 * q + 1)
odd_square q = simp (mul-add, add-mul, mul_comm, mul_left_comm, add_assoc, add_comm, add_left_comm) (omega arith)

pub even_square : (q : ℕ) → q * 2 * (q * 2) ≡ 4 * (q * q)
even_square q = simp (mul_comm, mul_left_comm) (omega arith)

-- ---- a q whose square is at most n, by what n is above it

pub near_next : (n q rest : ℕ) → q * q + rest ≡ n → rest ≤ 3 * q + 2 → q < rest → RoundsTo n (q + 1)
near_next n q rest e l k = go (q * q) ((q + 1) * (q + 1)) e (next_square q)
  where
    go : (S S' : ℕ) → S + rest ≡ n → S' ≡ S + (2 * q + 1) → (S' < n + (q + 1)) × (n ≤ S' + (q + 1))
    go S S' e f = omega arith

pub near_same : (n q rest : ℕ) → 0 < n → q * q + rest ≡ n → rest ≤ q → RoundsTo n q
near_same n zero rest p e l = absurd (no e)
  where
    no : 0 * 0 + rest ≡ n → ⊥
    no e = omega arith
near_same n (suc q) rest p e l = go (suc q * suc q) e
  where
    go : (S : ℕ) → S + rest ≡ n → (S < n + suc q) × (n ≤ S + suc q)
    go S e = omega arith

-- ---- `whole_root` is nearest

abbrev Cut : ℕ → ℕ → Type 0
Cut n q = (q * q ≤ n) × (n < (q + 1) * (q + 1))

cut_one : (n q : ℕ) → Cut (n / 4) q → (q * 2 + 1) * (q * 2 + 1) ≤ n → Cut n (q * 2 + 1)
cut_one n q h k = (k, go ((q + 1) * (q + 1)) ((q * 2 + 1 + 1) * (q * 2 + 1 + 1)) h.1 (more q))
  where
    more : (q : ℕ) → (q * 2 + 1 + 1) * (q * 2 + 1 + 1) ≡ 4 * ((q + 1) * (q + 1))
    more q = simp (mul-add, add-mul, mul_comm, mul_left_comm, add_assoc, add_comm, add_left_comm) (omega arith)

    go : (S S' : ℕ) → n / 4 < S → S' ≡ 4 * S → n < S'
    go S S' h e = omega arith

cut_zero : (n q : ℕ) → Cut (n / 4) q → n < (q * 2 + 1) * (q * 2 + 1) → Cut n (q * 2)
cut_zero n q h k = (go (q * q) (q * 2 * (q * 2)) h.0 (even_square q), k)
  where
    go : (S S' : ℕ) → S ≤ n / 4 → S' ≡ 4 * S → S' ≤ n
    go S S' h e = omega arith

digit_cut : (n q : ℕ) → Cut (n / 4) q → Cut n (digit n q)
digit_cut n q h = elim (le_or_lt ((q * 2 + 1) * (q * 2 + 1)) n) [
  | inl k ↦ rw (le-leb _ _ k) (cut_one n q h k)
  | inr k ↦ rw (lt-leb _ _ k) (cut_zero n q h k)
]

quarter : (k n : ℕ) → n < 4 ^ suc k → n / 4 < 4 ^ k
quarter k n h = go (4 ^ k) (4 ^ suc k) (pow-succ' 4 k) h
  where
    go : (p p' : ℕ) → p' ≡ 4 * p → n < p' → n / 4 < p
    go p p' e h = omega arith

cut_is : (k n : ℕ) → n < 4 ^ k → Cut n (cut k n)
unfolding cut
cut_is zero n h = omega arith
cut_is (suc k) n h = digit_cut n (cut k (n / 4)) (cut_is k (n / 4) (quarter k n h))

rounded_near : (n q : ℕ) → 0 < n → Cut n q → RoundsTo n (rounded n q)
rounded_near n q p h = elim (le_or_lt n (q * q + q)) [
  | inl k ↦ rw (le-leb _ _ k) (near_same n q (n - q * q) p (whole (q * q) h.0) (at_most (q * q) k))
  | inr k ↦ rw (lt-leb _ _ k) (near_next n q (n - q * q) (whole (q * q) h.0) (below (q * q) ((q + 1) * (q + 1)) h.1 (next_square q)) (more (q * q) k))
]
  where
    whole : (S : ℕ) → S ≤ n → S + (n - S) ≡ n
    whole S h = omega arith

    at_most : (S : ℕ) → n ≤ S + q → n - S ≤ q
    at_most S h = omega arith

    below : (S S' : ℕ) → n < S' → S' ≡ S + (2 * q + 1) → n - S ≤ 3 * q + 2
    below S S' h e = omega arith

    more : (S : ℕ) → S + q < n → q < n - S
    more S h = omega arith

-- n is m * 2 ^ 52 from here on
pub above_zero : (m : ℕ) → 0 < m → 0 < m * 2 ^ 52
above_zero m h = omega arith

pub whole_root_near : (m : ℕ) → 0 < m → m < 2 ^ 54 → RoundsTo (m * 2 ^ 52) (whole_root (m * 2 ^ 52))
unfolding whole_root
whole_root_near m p h = rounded_near (m * 2 ^ 52) (cut 53 (m * 2 ^ 52)) (above_zero m p) (cut_is 53 (m * 2 ^ 52) (in_106 m h))
  where
    in_106 : (m : ℕ) → m < 2 ^ 54 → m * 2 ^ 52 < 4 ^ 53
    in_106 m h = omega arith

-- ---- no other is

not_below_lem : (n r s : ℕ) → RoundsTo n r → RoundsTo n s → r < s → ⊥
not_below_lem n r s h k l =
    go (r * r) (s * r) (s * s) h.1 k.0 (le_trans (le_of_eq (sym (suc-mul r r))) (mul-le-mul_right r l)) (le_trans (le_of_eq (sym (mul-suc s r))) (mul-le-mul_left s l))
  where
    go : (R P S : ℕ) → n ≤ R + r → S < n + s → R + r ≤ P → P + s ≤ S → ⊥
    go R P S a b c d = omega arith

near_unique : (n r s : ℕ) → RoundsTo n r → RoundsTo n s → r ≡ s
near_unique n r s h k = go (not_below_lem n r s h k) (not_below_lem n s r k h)
  where
    go : (r < s → ⊥) → (s < r → ⊥) → r ≡ s
    go a b = omega arith

pub is_whole_root : (m r : ℕ) → 0 < m → m < 2 ^ 54 → RoundsTo (m * 2 ^ 52) r → r ≡ whole_root (m * 2 ^ 52)
is_whole_root m r p h k = near_unique (m * 2 ^ 52) r (whole_root (m * 2 ^ 52)) k (whole_root_near m p h)
