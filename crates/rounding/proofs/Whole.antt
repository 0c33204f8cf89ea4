-- Whole numbers up to 2 ^ 53 are numbers of binary64, and their difference is that of their numbers, sign included: no rounding. Assumes nothing.
use mathlib.Core.Path.{◌≡◌, sym, ap, ◌∙◌}
use mathlib.Core.Bool.{true, false, true≢false}
use mathlib.Core.Logic.{inl, inr}
use Prim.Native.Nat.{ℕ, suc, ◌-◌, ◌*◌, ◌^◌, ◌≤◌, ◌<◌}
use native.Mathlib.Nat.{mul-one, mul_comm, mul-sub, mul_assoc, mul-pos, mul-le-mul_right, mul-lt-mul_of_pos_right}
use native.Mathlib.Omega.{arith}
use borrow.Author.Tests.{lt-ltb, le-ltb, le-leb, lt-leb}
use lib.Dec.{lit<}
use lib.IntN.{pos}
use lib.Ieee.{Float, nan, inf, fin, binary64, up, down, neg, sum, add, sub, round, of_int, minus}
use lib.Ieee.Fits.{down_pos}
use lib.Ieee.Exact.{HasValue}
use lib.Ieee.Back.{round_whole}
use lib.Ieee.Scale.{round_same}
use Rattle.rounding.proofs.Choose.{le_or_lt}

apart : (a b D : ℕ) → (a * D - b * D) * 1 ≡ (a - b) * D
apart a b D = mul-one (a * D - b * D) ∙ ap (λ (z : ℕ). z - b * D) (mul_comm a D) ∙ ap (λ (z : ℕ). D * a - z) (mul_comm b D) ∙ sym (mul-sub D a b) ∙ mul_comm D (a - b)

-- a and b over one denominator
difference : (a b D : ℕ) → 0 < D → sum binary64 false (a * D) true (b * D) D ≡ of_int binary64 (minus a b)
unfolding sum of_int
difference a b D P = elim (le_or_lt b a) [
  | inl l ↦ rw (le-leb b a l, le-ltb (a * D) (b * D) (mul-le-mul_right D l)) (round_same binary64 false (a * D - b * D) D (a - b) 1 P (lit< tt) (apart a b D))
  | inr l ↦
      rw (lt-leb b a l, lt-ltb (a * D) (b * D) (mul-lt-mul_of_pos_right l P))
      (round_same binary64 true (b * D - a * D) D (suc (b - suc a)) 1 P (lit< tt) (apart b a D ∙ ap (λ (z : ℕ). z * D) (step a b l)))
]
  where
    step : (a b : ℕ) → a < b → b - a ≡ suc (b - suc a)
    step a b h = omega arith

values : (x y : Float) (a b : ℕ) → HasValue x false a 1 → HasValue y false b 1 → sub binary64 x y ≡ of_int binary64 (minus a b)
unfolding sub add neg
values nan y a b v w = absurd v
values (inf s) y a b v w = absurd v
values (fin true m e) y a b v w = absurd (true≢false v.0)
values (fin false m e) nan a b v w = absurd w
values (fin false m e) (inf t) a b v w = absurd w
values (fin false m e) (fin true n g) a b v w = absurd (true≢false w.0)
values (fin false m e) (fin false n g) a b v w =
    rw (size (m * up e) (down e) (down g) a v.1, size (n * up g) (down g) (down e) b w.1 ∙ ap (λ (z : ℕ). b * z) (mul_comm (down g) (down e)))
    (difference a b (down e * down g) (mul-pos (down_pos e) (down_pos g)))
  where
    size : (M E G a : ℕ) → M * 1 ≡ a * E → M * G ≡ a * (E * G)
    size M E G a h = ap (λ (z : ℕ). z * G) (sym (mul-one M) ∙ h) ∙ mul_assoc a E G

pub sub_whole : (a b : ℕ) → a ≤ 2 ^ 53 → b ≤ 2 ^ 53 → sub binary64 (of_int binary64 (pos a)) (of_int binary64 (pos b)) ≡ of_int binary64 (minus a b)
unfolding of_int
sub_whole a b h k = values (round binary64 false a 1) (round binary64 false b 1) a b (round_whole binary64 false a h) (round_whole binary64 false b k)
