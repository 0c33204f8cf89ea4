-- Rounding read backwards: where n / d rounds to p / e, what is at most, or at least, a value of binary64 stays so. And which
-- fractions are values of binary64: a / 2 ^ k for an a below 2 ^ 53. Assumes nothing.
use mathlib.Core.Path.{◌≡◌, refl, sym, ap, ◌∙◌, subst}
use mathlib.Core.Bool.{Bool, true, false, true≢false}
use Prim.Native.Nat.{ℕ, ◌+◌, ◌-◌, ◌*◌, ◌^◌, ◌≤◌, ◌<◌}
use native.Mathlib.Nat.{lt_of_lt_of_le, mul_assoc}
use native.Mathlib.Omega.{arith}
use lib.Pow.{pow_pos, pow_mono, pow-add, shl_lt}
use lib.IntN.{ℤ}
use lib.Ieee.{Float, nan, inf, fin, binary64, up, down, neg, round}
use lib.Ieee.Fits.{down_pos}
use lib.Ieee.Exact.{HasValue, round_exact}
use Rattle.rounding.specs.Bounds.{Within, From}
use Rattle.rounding.specs.Signed.{Signed}
use Rattle.rounding.proofs.Negate.{neg_round}
use Rattle.rounding.proofs.Round.{round_signed}
use Rattle.rounding.proofs.Intervals.{Exact, within_round, from_round, within_back}

pub exact_signed : (s : Bool) (a k : ℕ) → a < 2 ^ 53 → k ≤ 1074 → HasValue (round binary64 s a (2 ^ k)) s a (2 ^ k)
exact_signed s a k h l =
    round_exact binary64 s a (2 ^ k) a (1074 - k) (pow_pos k) h (lt_of_lt_of_le (shl_lt 53 (1074 - k) h) (pow_mono (sums k)))
    (ap (λ (z : ℕ). a * z) (ap (λ (i : ℕ). 2 ^ i) (sym (back k l)) ∙ pow-add 2 (1074 - k) k) ∙ sym (mul_assoc a (2 ^ (1074 - k)) (2 ^ k)))
  where
    sums : (k : ℕ) → 53 + (1074 - k) ≤ 1074 + 1024
    sums k = omega arith

    back : (k : ℕ) → k ≤ 1074 → 1074 - k + k ≡ 1074
    back k l = omega arith

pub exact_small : (a k : ℕ) → a < 2 ^ 53 → k ≤ 1074 → Exact a (2 ^ k)
exact_small a k h l = exact_signed false a k h l

-- n / d rounded is p / e: what is at most, or at least, a value of the format stays so
pub record Rounded (n d p e : ℕ) : Type 0 where
  pub above_zero : 0 < e
  pub at_most : (a c : ℕ) → 0 < c → Exact a c → n * c ≤ a * d → p * c ≤ a * e
  pub at_least : (a c : ℕ) → 0 < c → Exact a c → a * d ≤ n * c → a * e ≤ p * c

Named : Bool → Float → Type 0
Named s x = (m : ℕ) × (e : ℤ) × (x ≡ fin s m e)

named : (x : Float) (a c : ℕ) → Signed false x → Within x a c → Named false x
unfolding Named
named nan a c p w = absurd w
named (inf s) a c p w = absurd w
named (fin true m e) a c p w = absurd (true≢false p)
named (fin false m e) a c p w = (m, e, refl)

named_round : (s : Bool) (n d a c : ℕ) → Within (round binary64 s n d) a c → Named s (round binary64 s n d)
unfolding Named neg
named_round false n d a c w = named (round binary64 false n d) a c (round_signed binary64 false n d) w
named_round true n d a c w =
    let q = named (round binary64 false n d) a c (round_signed binary64 false n d) (within_back (round binary64 false n d) a c (subst (λ (z : Float). Within z a c) (sym (neg_round binary64 false n d)) w)) in
    (q.0, q.1, sym (neg_round binary64 false n d) ∙ ap neg q.2)

pub rounded : (s : Bool) (n d b k : ℕ) → 0 < d → Within (round binary64 s n d) b k → (m : ℕ) × (e : ℤ) × (round binary64 s n d ≡ fin s m e) × Rounded n d (m * up e) (down e)
unfolding Named
rounded s n d b k D w =
    let q = named_round s n d b k w in (
      q.0,
      q.1,
      q.2,
      record {
        above_zero = down_pos q.1;
        at_most = λ a c C x h. subst (λ (z : Float). Within z a c) q.2 (within_round s n d a c D C h x);
        at_least = λ a c C x h. (subst (λ (z : Float). From s z a c) q.2 (from_round s n d a c b k D C h x w)).1;
      },
    )
