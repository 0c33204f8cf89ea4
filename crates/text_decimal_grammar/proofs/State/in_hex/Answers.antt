-- `State::in_hex` meets its contract: 16 hexadecimal digits fit 64 bits.
use Rattle.std.proofs.Common.{ℕ, ◌*◌, ◌^◌, ◌<◌, ◌≤◌, arith}
use native.Mathlib.Nat.{lt_of_lt_of_le}
use lib.Pow.{pow_mono}
use Rattle.text_decimal_grammar.proofs.State.in_hex.Goals as goal

-- fewer than 16 digits
bound : (d n : ℕ) → d < 2 ^ (4 * n) → n < 16 → d < 2 ^ 60
bound d n h k = lt_of_lt_of_le h (pow_mono (less n k))
  where
    less : (n : ℕ) → n < 16 → 4 * n ≤ 60
    less n k = omega arith

pub overflow_mul-result : goal.overflow_mul-result
overflow_mul-result c =
    let h = bound c.args.self.digits c.args.n c.requires c.if-n-ge16.false in
    omega arith

pub overflow_add-result-2 : goal.overflow_add-result-2
overflow_add-result-2 c =
    let h = bound c.args.self.digits c.args.n c.requires c.if-n-ge16.false in
    omega (arith, c.in_ok-d.ensures.below)
