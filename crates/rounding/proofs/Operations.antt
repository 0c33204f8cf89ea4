-- The operations on finite numbers, as the fractions that they hand to `round`. Assumes nothing.
use mathlib.Core.Path.{◌≡◌, refl}
use mathlib.Core.Bool.{Bool, true, false, not, ◌&&◌, cond}
use Prim.Native.Nat.{ℕ, ◌+◌, ◌-◌, ◌*◌, ◌≤◌, ◌<◌}
use native.Mathlib.Nat.{ne_of_gt}
use native.Mathlib.Omega.{arith}
use borrow.Author.Tests.{ne_eqb}
use lib.IntN.{ℤ}
use lib.Dec.{T, ltb, ltb→lt, nltb→le}
use lib.Ieee.{Float, fin, Format, unlike, up, down, round, sum, add, mul, div}
use Rattle.rounding.specs.Signed.{plus_part, minus_part}

-- x + y over the common denominator
pub add_finite : (f : Format) (s : Bool) (m : ℕ) (e : ℤ) (t : Bool) (n : ℕ) (d : ℤ) → add f (fin s m e) (fin t n d) ≡ sum f s (m * up e * down d) t (n * up d * down e) (down e * down d)
unfolding add
add_finite f s m e t n d = refl

-- x y
pub mul_finite : (f : Format) (s : Bool) (m : ℕ) (e : ℤ) (t : Bool) (n : ℕ) (d : ℤ) → mul f (fin s m e) (fin t n d) ≡ round f (unlike s t) (m * up e * (n * up d)) (down e * down d)
unfolding mul
mul_finite f s m e t n d = refl

-- x / y, y being no zero
pub div_finite : (f : Format) (s : Bool) (m : ℕ) (e : ℤ) (t : Bool) (n : ℕ) (d : ℤ) → 0 < n → div f (fin s m e) (fin t n d) ≡ round f (unlike s t) (m * up e * down d) (n * up d * down e)
unfolding div
div_finite f s m e t n d N = rw (ne_eqb n 0 (ne_of_gt N))

-- a quotient by a number with the sign clear has the dividend's sign
pub unlike_clear : (s : Bool) → unlike s false ≡ s
unlike_clear true = refl
unlike_clear false = refl

-- z is ±a / c + ±b / c rounded: round (±size / c), where ±size = ±a + ±b
pub record Summed (f : Format) (z : Float) (s : Bool) (a : ℕ) (t : Bool) (b c : ℕ) : Type 0 where
  pub sign : Bool
  pub size : ℕ
  pub is_round : z ≡ round f sign size c
  pub is_sum : plus_part sign size + (minus_part s a + minus_part t b) ≡ minus_part sign size + (plus_part s a + plus_part t b)

-- so is every sum
pub summed : (f : Format) (s : Bool) (a : ℕ) (t : Bool) (b c : ℕ) → Summed f (sum f s a t b c) s a t b c
unfolding sum
summed f true a true b c = record { sign = true; size = a + b; is_round = refl; is_sum = omega arith }
summed f false a false b c = record { sign = false; size = a + b; is_round = refl; is_sum = omega arith }
summed f true a false b c = go (ltb a b) (ltb→lt a b) (nltb→le a b) (ltb b a) (nltb→le b a)
  where
    go : (x : Bool) → (T x → a < b) → (T (not x) → b ≤ a) → (y : Bool) → (T (not y) → a ≤ b) → Summed f (cond x (round f false (b - a) c) (round f (true && y) (a - b) c)) true a false b c
    go true h k y l = record { sign = false; size = b - a; is_round = refl; is_sum = omega (arith, h tt) }
    go false h k true l = record { sign = true; size = a - b; is_round = refl; is_sum = omega (arith, k tt) }
    go false h k false l = record { sign = false; size = a - b; is_round = refl; is_sum = omega (arith, k tt, l tt) }
summed f false a true b c = go (ltb a b) (ltb→lt a b) (nltb→le a b)
  where
    go : (x : Bool) → (T x → a < b) → (T (not x) → b ≤ a) → Summed f (cond x (round f true (b - a) c) (round f false (a - b) c)) false a true b c
    go true h k = record { sign = true; size = b - a; is_round = refl; is_sum = omega (arith, h tt) }
    go false h k = record { sign = false; size = a - b; is_round = refl; is_sum = omega (arith, k tt) }
