-- A number above zero as 53 binary digits times a power of two (`normal`, `subnormal`), and what `root_pattern` is of it (`pattern_of_lem`). Assumes nothing.
use Rattle.std.proofs.Common.{◌≡◌, ℕ, zero, suc, ◌+◌, ◌-◌, ◌*◌, ◌/◌, ◌%◌, ◌^◌, ◌<◌, ◌≤◌, sym, refl, ap, ◌∙◌, subst, le_trans, le_of_eq, lt_of_lt_of_le, lt_of_le_of_lt, mul-le-mul_right, mod-eq_of_lt, mul_assoc, mul-le-mul, lt_of_not-le, not-le_of_lt, mul-div_cancel, arith, lit<, lit≤, pow_pos, pow_mono, pow-add, shl_lt}
use native.Mathlib.Nat.{mul-mul-mul_comm, pow-succ', one-le-pow}
use lib.Count.{count_leading_zeros, leading_top}
use lib.Ieee.{binary64, size, of_bits}
use lib.Ieee.Digits.{size-lt, size-le}
use Rattle.number.specs.Number.{float}
use Rattle.rounding.proofs.Pattern.{units_at, pattern_units, subnormal_units, bits_value, units_of_lem}
use Rattle.root.specs.Root.{root_square, dropped, whole_root, root_pattern}

-- n is sig * 2 ^ (50 + ex), and sig has 53 digits
pub record Scaled (n sig ex : ℕ) : Type 0 where
  pub from : 2 ^ 52 ≤ sig
  pub below : sig < 2 ^ 53
  pub some : 2 ≤ ex
  pub most : ex < 4000
  pub is : n ≡ sig * 2 ^ (50 + ex)

power : (m i j k : ℕ) → i + j ≡ k → m * 2 ^ i * 2 ^ j ≡ m * 2 ^ k
power m i j k e = mul_assoc m (2 ^ i) (2 ^ j) ∙ ap (λ (z : ℕ). m * z) (sym (pow-add 2 i j) ∙ ap (λ (z : ℕ). 2 ^ z) e)

-- ---- the number with the pattern b, squared for its root

square_at_lem : (b : ℕ) → b < 0x7ff0_0000_0000_0000 → root_square (float b) ≡ pattern_units b * 2 ^ 1074
square_at_lem b h = ap (λ (z : ℕ). z * 2 ^ 1074) (units_of_lem (of_bits binary64 b) (pattern_units b) (bits_value b h))

-- from 2 ^ -1022 on
pub normal : (b : ℕ) → 2 ^ 52 ≤ b → b < 0x7ff0_0000_0000_0000 → Scaled (root_square (float b)) (2 ^ 52 + b % 2 ^ 52) (b / 2 ^ 52 + 1023)
normal b h k = record {
  from = omega arith;
  below = omega arith;
  some = omega arith;
  most = omega arith;
  is = square_at_lem b k ∙ ap (λ (i : ℕ). units_at i (b % 2 ^ 52) * 2 ^ 1074) field ∙ power (2 ^ 52 + b % 2 ^ 52) (b / 2 ^ 52 - 1) 1074 (50 + (b / 2 ^ 52 + 1023)) (omega arith);
}
  where
    field : b / 2 ^ 52 ≡ suc (b / 2 ^ 52 - 1)
    field = omega arith

-- below 2 ^ -1022, where the first digit is moved up to place 52
abbrev pub shift_of : ℕ → ℕ
shift_of b = count_leading_zeros 64 b - 11

pub record Moved (b s : ℕ) : Type 0 where
  pub zeros : count_leading_zeros 64 b ≡ s + 11
  pub some : 1 ≤ s
  pub most : s ≤ 52
  pub from : 2 ^ 52 ≤ b * 2 ^ s
  pub below : b * 2 ^ s < 2 ^ 53
  pub kept : b * 2 ^ s % 2 ^ 64 ≡ b * 2 ^ s

under_52 : (j b : ℕ) → 2 ^ j ≤ b → b < 2 ^ 52 → j < 52
under_52 j b h k = lt_of_not-le (λ (g : 52 ≤ j). not-le_of_lt k (le_trans (pow_mono g) h))

pub moved : (b : ℕ) → 0 < b → b < 2 ^ 52 → Moved b (shift_of b)
moved b p h =
    let t = leading_top 64 b p (taller b h) in
    let j = t.0 in
    let l : j < 52 = under_52 j b t.2 h in
    let e : count_leading_zeros 64 b + suc j ≡ 64 = t.1 in
    let u : b * 2 ^ shift_of b < 2 ^ 53 = subst (λ (i : ℕ). b * 2 ^ shift_of b < 2 ^ i) (at_53 (count_leading_zeros 64 b) j e l) (shl_lt (suc j) (shift_of b) t.3) in
    record {
      zeros = omega arith;
      some = omega arith;
      most = omega arith;
      from = le_trans (le_of_eq (ap (λ (i : ℕ). 2 ^ i) (sym (at_52 (count_leading_zeros 64 b) j e l)) ∙ pow-add 2 j (shift_of b))) (mul-le-mul_right (2 ^ shift_of b) t.2);
      below = u;
      kept = mod-eq_of_lt (lt_of_lt_of_le u (lit≤ tt));
    }
  where
    taller : (b : ℕ) → b < 2 ^ 52 → b < 2 ^ 64
    taller b h = omega arith

    at_53 : (z j : ℕ) → z + suc j ≡ 64 → j < 52 → suc j + (z - 11) ≡ 53
    at_53 z j e l = omega arith

    at_52 : (z j : ℕ) → z + suc j ≡ 64 → j < 52 → j + (z - 11) ≡ 52
    at_52 z j e l = omega arith

pub subnormal : (b : ℕ) → 0 < b → b < 2 ^ 52 → Scaled (root_square (float b)) (b * 2 ^ shift_of b) (1024 - shift_of b)
subnormal b p h =
    let w = moved b p h in
    record {
      from = w.from;
      below = w.below;
      some = omega (arith, w.most);
      most = omega arith;
      is = square_at_lem b (small b h) ∙ ap (λ (z : ℕ). z * 2 ^ 1074) (subnormal_units b h) ∙ sym (power b (shift_of b) (50 + (1024 - shift_of b)) 1074 (omega (arith, w.most)));
    }
  where
    small : (b : ℕ) → b < 2 ^ 52 → b < 0x7ff0_0000_0000_0000
    small b h = omega arith

-- ---- the exponent halved: n is m * 2 ^ 52 times 4 ^ k

pub four_pow : (k : ℕ) → 4 ^ k ≡ 2 ^ k * 2 ^ k
four_pow zero = refl
four_pow (suc k) =
    pow-succ' 4 k ∙ ap (λ (z : ℕ). 4 * z) (four_pow k) ∙ mul-mul-mul_comm 2 2 (2 ^ k) (2 ^ k) ∙ ap (λ (z : ℕ). z * (2 * 2 ^ k)) (sym (pow-succ' 2 k)) ∙ ap (λ (z : ℕ). 2 ^ suc k * z) (sym (pow-succ' 2 k))

size_is : (n i j : ℕ) → 2 ^ i ≤ n → n < 2 ^ j → j ≡ suc i → size n ≡ j
size_is n i j h k e = go (size n) (size-le n j k) (lt_of_not-le (λ (g : size n ≤ i). not-le_of_lt (size-lt n) (le_trans (pow_mono g) h)))
  where
    go : (z : ℕ) → z ≤ j → i < z → z ≡ j
    go z a b = omega arith

module _ (sig ex : ℕ) (from : 2 ^ 52 ≤ sig) (below : sig < 2 ^ 53) (some : 2 ≤ ex) where
  pub m_from : 2 ^ 52 ≤ sig * 2 ^ (ex % 2)
  m_from = mul-le-mul from (pow_pos (ex % 2))

  -- below the largest of 54 digits, so that the root has 53
  pub m_most : sig * 2 ^ (ex % 2) ≤ (2 ^ 53 - 1) * 2 ^ 1
  m_most =
      let a : sig ≤ 2 ^ 53 - 1 = omega arith in
      let b : 2 ^ (ex % 2) ≤ 2 ^ 1 = pow_mono {j = 1} (omega arith) in
      mul-le-mul a b

  pub m_kept : sig * 2 ^ (ex % 2) % 2 ^ 64 ≡ sig * 2 ^ (ex % 2)
  m_kept = mod-eq_of_lt (lt_of_le_of_lt m_most (lit< tt))

  pub split : sig * 2 ^ (ex % 2) * 2 ^ 52 * 4 ^ (ex / 2 - 1) ≡ sig * 2 ^ (50 + ex)
  split =
      let k = ex / 2 - 1 in
      ap (λ (z : ℕ). z * 4 ^ k) (power sig (ex % 2) 52 (ex % 2 + 52) refl)
      ∙ ap (λ (z : ℕ). sig * 2 ^ (ex % 2 + 52) * z) (four_pow k ∙ sym (pow-add 2 k k))
      ∙ power sig (ex % 2 + 52) (k + k) (50 + ex) (omega arith)

  drops : dropped (sig * 2 ^ (50 + ex)) ≡ ex / 2 - 1
  drops = halved (size (sig * 2 ^ (50 + ex))) (size_is (sig * 2 ^ (50 + ex)) (52 + (50 + ex)) (53 + (50 + ex)) (le_trans (le_of_eq (pow-add 2 52 (50 + ex))) (mul-le-mul_right (2 ^ (50 + ex)) from)) (shl_lt 53 (50 + ex) below) (omega arith))
    where
      halved : (z : ℕ) → z ≡ 53 + (50 + ex) → (z - 105) / 2 ≡ ex / 2 - 1
      halved z e = omega arith

  pub pattern_of_lem : root_pattern (sig * 2 ^ (50 + ex)) ≡ (ex / 2 - 1) * 2 ^ 52 + whole_root (sig * 2 ^ (ex % 2) * 2 ^ 52)
  unfolding root_pattern
  pattern_of_lem =
      let k = ex / 2 - 1 in
      ap (λ (z : ℕ). z * 2 ^ 52 + whole_root (sig * 2 ^ (50 + ex) / 4 ^ z)) drops
      ∙ ap (λ (z : ℕ). k * 2 ^ 52 + whole_root (z / 4 ^ k)) (sym split)
      ∙ ap (λ (z : ℕ). k * 2 ^ 52 + whole_root z) (mul-div_cancel (sig * 2 ^ (ex % 2) * 2 ^ 52) (one-le-pow k 4 (lit< tt)))
