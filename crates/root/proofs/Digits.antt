-- The loop of `by_digits`: the root of m * 2 ^ 52, a binary digit at a step. Nothing here is about floats. Assumes nothing.
use Rattle.std.proofs.Common.{◌≡◌, ℕ, suc, ◌+◌, ◌-◌, ◌*◌, ◌/◌, ◌%◌, ◌^◌, ◌<◌, ◌≤◌, sym, ap, ◌∙◌, lt_of_lt_of_le, mul_assoc, add-one, arith, pow_mono}
use native.Mathlib.Nat.{pow-succ'}
use Rattle.root.proofs.WholeRoot.{odd_square, even_square}

-- after j steps: q is the root so far, rest what is above its square, low the digits to come at the top of 64 bits
pub record Step (m q rest low j : ℕ) : Type 0 where
  pub rest_le : rest ≤ 2 * q
  pub q_lt : q < 2 ^ j
  pub j_le : j ≤ 53
  pub low_lt : low < 2 ^ 64
  pub whole : ((q * q + rest) * 2 ^ 64 + low) * 4 ^ (53 - j) ≡ m * 2 ^ 116

pub small : {m q rest low j : ℕ} → Step m q rest low j → q < 2 ^ 53
small s = lt_of_lt_of_le s.q_lt (pow_mono s.j_le)

next_pow : (j : ℕ) → 2 ^ (j + 1) ≡ 2 * 2 ^ j
next_pow j = ap (λ (i : ℕ). 2 ^ i) (add-one j) ∙ pow-succ' 2 j

left : (j : ℕ) → j < 53 → 53 - j ≡ suc (53 - (j + 1))
left j h = omega arith

less_pow : (j : ℕ) → j < 53 → 4 ^ (53 - j) ≡ 4 * 4 ^ (53 - (j + 1))
less_pow j h = ap (λ (i : ℕ). 4 ^ i) (left j h) ∙ pow-succ' 4 (53 - (j + 1))

-- two digits go from the top of low to the end of W
two_digits : (W low : ℕ) → (4 * W + low / 2 ^ 62) * 2 ^ 64 + low % 2 ^ 62 * 4 ≡ (W * 2 ^ 64 + low) * 4
two_digits W low = omega arith

carry : (W low j : ℕ) → j < 53 → ((4 * W + low / 2 ^ 62) * 2 ^ 64 + low % 2 ^ 62 * 4) * 4 ^ (53 - (j + 1)) ≡ (W * 2 ^ 64 + low) * 4 ^ (53 - j)
carry W low j h =
    ap (λ (x : ℕ). x * 4 ^ (53 - (j + 1))) (two_digits W low)
    ∙ mul_assoc (W * 2 ^ 64 + low) 4 (4 ^ (53 - (j + 1)))
    ∙ ap (λ (x : ℕ). (W * 2 ^ 64 + low) * x) (sym (less_pow j h))

odd_rest : (q S rest d : ℕ) → q * 4 + 1 ≤ rest * 4 + d → 4 * S + (4 * q + 1) + (rest * 4 + d - (q * 4 + 1)) ≡ 4 * (S + rest) + d
odd_rest q S rest d h = omega arith

even_rest : (S rest d : ℕ) → 4 * S + (rest * 4 + d) ≡ 4 * (S + rest) + d
even_rest S rest d = omega arith

again : (m W W' low j : ℕ) → j < 53 → W' ≡ 4 * W + low / 2 ^ 62 → (W * 2 ^ 64 + low) * 4 ^ (53 - j) ≡ m * 2 ^ 116 → (W' * 2 ^ 64 + low % 2 ^ 62 * 4) * 4 ^ (53 - (j + 1)) ≡ m * 2 ^ 116
again m W W' low j h e w = ap (λ (x : ℕ). (x * 2 ^ 64 + low % 2 ^ 62 * 4) * 4 ^ (53 - (j + 1))) e ∙ carry W low j h ∙ w

pub one_digit : {m q rest low j : ℕ} → Step m q rest low j → j < 53 → q * 4 + 1 ≤ rest * 4 + low / 2 ^ 62
    → Step m (q * 2 + 1) (rest * 4 + low / 2 ^ 62 - (q * 4 + 1)) (low % 2 ^ 62 * 4) (j + 1)
one_digit {m} {q} {rest} {low} {j} s h k = record {
  rest_le = omega arith;
  q_lt = omega (arith, next_pow j);
  j_le = omega arith;
  low_lt = omega arith;
  whole = again m (q * q + rest) ((q * 2 + 1) * (q * 2 + 1) + (rest * 4 + low / 2 ^ 62 - (q * 4 + 1))) low j h
      (ap (λ (x : ℕ). x + (rest * 4 + low / 2 ^ 62 - (q * 4 + 1))) (odd_square q) ∙ odd_rest q (q * q) rest (low / 2 ^ 62) k)
      s.whole;
}

pub zero_digit : {m q rest low j : ℕ} → Step m q rest low j → j < 53 → rest * 4 + low / 2 ^ 62 < q * 4 + 1
    → Step m (q * 2) (rest * 4 + low / 2 ^ 62) (low % 2 ^ 62 * 4) (j + 1)
zero_digit {m} {q} {rest} {low} {j} s h k = record {
  rest_le = omega arith;
  q_lt = omega (arith, next_pow j);
  j_le = omega arith;
  low_lt = omega arith;
  whole = again m (q * q + rest) (q * 2 * (q * 2) + (rest * 4 + low / 2 ^ 62)) low j h
      (ap (λ (x : ℕ). x + (rest * 4 + low / 2 ^ 62)) (even_square q) ∙ even_rest (q * q) rest (low / 2 ^ 62))
      s.whole;
}

-- before the first step
pub first : (m : ℕ) → m < 2 ^ 54 → Step m 0 0 (m * 1024) 0
first m h = record { rest_le = omega arith; q_lt = omega arith; j_le = omega arith; low_lt = omega arith; whole = omega arith }

-- after the last
pub last : {m q rest low j : ℕ} → Step m q rest low j → 53 ≤ j → q * q + rest ≡ m * 2 ^ 52
last {m} {q} {rest} {low} {j} s h =
    ended (q * q + rest) (ap (λ (i : ℕ). ((q * q + rest) * 2 ^ 64 + low) * 4 ^ i) (sym none_left) ∙ s.whole)
  where
    ended : (W : ℕ) → (W * 2 ^ 64 + low) * 1 ≡ m * 2 ^ 116 → W ≡ m * 2 ^ 52
    ended W h = omega (arith, s.low_lt)

    none_left : 53 - j ≡ 0
    none_left = omega (arith, s.j_le)
