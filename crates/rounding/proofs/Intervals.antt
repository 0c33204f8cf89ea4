-- Bounds on the size of a number through the operations of binary64, either sign. Where a / c is itself a value of the format (`Exact a c`), rounding keeps the bound.
-- First with every argument written, then (`Up`, `Lo`) with the arguments found by antt. Assumes nothing.
use mathlib.Core.Path.{◌≡◌, refl, sym, ap, ◌∙◌, subst}
use mathlib.Core.Bool.{Bool, true, false, not, ◌&&◌, beq, cond, true≢false}
use Prim.Native.Nat.{ℕ, zero, suc, ◌+◌, ◌-◌, ◌*◌, ◌≤◌, ◌<◌}
use native.Mathlib.Nat.{le_refl, le_trans, le_of_eq, le_of_lt, lt_irrefl, lt_of_lt_of_le, lt_of_le_of_lt, zero-lt-suc, add-le-add, add-mul, zero-mul, mul_comm, mul_assoc, mul_right_comm, mul-mul-mul_comm, mul-sub, mul-le-mul, mul-le-mul_right, mul-pos, mul-lt-mul_of_pos_right, lt_of_mul-lt-mul_right}
use native.Mathlib.Omega.{arith}
use lib.Dec.{T, ltb, leb, eqb, eqb→eq, ltb→lt, leb→le}
use borrow.Author.Tests.{le-ltb, lt-ltb}
use lib.Ieee.{Float, nan, inf, fin, binary64, unlike, up, down, round, neg, sum, add, sub, mul, div, le, is_nan}
use lib.Ieee.Fits.{up_pos, down_pos, and_l, and_r}
use lib.Ieee.Exact.{HasValue}
use lib.Ieee.Order.{round_mono}
use lib.Ieee.Positive.{through}
use lib.Ieee.Scale.{finite}
use Rattle.rounding.specs.Bounds.{Within, From}
use Rattle.rounding.specs.Signed.{Signed}
use Rattle.rounding.proofs.Negate.{neg_round}
use Rattle.rounding.proofs.Signed.{plain_tests}
use Rattle.rounding.proofs.Round.{round_signed}
use Rattle.rounding.proofs.Operations.{div_finite}

-- a / c is a value of binary64
abbrev pub Exact : ℕ → ℕ → Type 0
Exact a c = HasValue (round binary64 false a c) false a c

-- |x| ≤ a / c ≤ b / d gives |x| ≤ b / d
pub weaken : (x : Float) (a c b d : ℕ) → 0 < c → a * d ≤ b * c → Within x a c → Within x b d
weaken nan a c b d C h w = w
weaken (inf s) a c b d C h w = w
weaken (fin s m e) a c b d C h w = through (m * up e) a b (down e) c d C w h

-- |x| ≤ a / c gives |-x| ≤ a / c
pub within_neg : (x : Float) (a c : ℕ) → Within x a c → Within (neg x) a c
unfolding neg
within_neg nan a c w = w
within_neg (inf s) a c w = w
within_neg (fin s m e) a c w = w

-- a number with a bound is finite, and no NaN
pub within_finite : (x : Float) (a c : ℕ) → Within x a c → T (finite x)
within_finite nan a c w = w
within_finite (inf s) a c w = w
within_finite (fin s m e) a c w = tt

pub within_number : (x : Float) (a c : ℕ) → Within x a c → T (not (is_nan x))
unfolding is_nan
within_number nan a c w = w
within_number (inf s) a c w = tt
within_number (fin s m e) a c w = tt

-- ---- rounding

under : (x y : Float) (a c : ℕ) → Signed false x → HasValue y false a c → T (le x y) → Within x a c
unfolding le
under nan y a c p v h = absurd p
under (inf true) y a c p v h = absurd (true≢false p)
under (inf false) nan a c p v h = absurd v
under (inf false) (inf t) a c p v h = absurd v
under (inf false) (fin t n d) a c p v h = absurd h
under (fin true m e) y a c p v h = absurd (true≢false p)
under (fin false m e) nan a c p v h = absurd v
under (fin false m e) (inf t) a c p v h = absurd v
under (fin false m e) (fin true n d) a c p v h = absurd (true≢false v.0)
under (fin false m e) (fin false n d) a c p v h =
    through (m * up e) (n * up d) a (down e) (down d) c (down_pos d) (plain_tests (m * up e * down d) (n * up d * down e) h) (le_of_eq v.1)

within_plain : (n d a c : ℕ) → 0 < d → 0 < c → n * c ≤ a * d → Exact a c → Within (round binary64 false n d) a c
within_plain n d a c D C h x = under (round binary64 false n d) (round binary64 false a c) a c (round_signed binary64 false n d) x (round_mono binary64 n d a c D C h)

-- n / d ≤ a / c gives |round (±n / d)| ≤ a / c
pub within_round : (s : Bool) (n d a c : ℕ) → 0 < d → 0 < c → n * c ≤ a * d → Exact a c → Within (round binary64 s n d) a c
within_round false n d a c D C h x = within_plain n d a c D C h x
within_round true n d a c D C h x = subst (λ (z : Float). Within z a c) (neg_round binary64 false n d) (within_neg (round binary64 false n d) a c (within_plain n d a c D C h x))

-- ---- the operations

-- |x| ≤ a / c and |y| ≤ b / d give |x y| ≤ (a b) / (c d)
pub within_mul : (x y : Float) (a c b d : ℕ) → 0 < c → 0 < d → Within x a c → Within y b d → Exact (a * b) (c * d) → Within (mul binary64 x y) (a * b) (c * d)
unfolding mul
within_mul nan y a c b d C D v w x = absurd v
within_mul (inf s) y a c b d C D v w x = absurd v
within_mul (fin s m e) nan a c b d C D v w x = absurd w
within_mul (fin s m e) (inf t) a c b d C D v w x = absurd w
within_mul (fin s m e) (fin t n g) a c b d C D v w x =
    within_round (unlike s t) (m * up e * (n * up g)) (down e * down g) (a * b) (c * d) (mul-pos (down_pos e) (down_pos g)) (mul-pos C D)
    (le_trans (le_of_eq (mul-mul-mul_comm (m * up e) (n * up g) c d)) (le_trans (mul-le-mul v w) (le_of_eq (mul-mul-mul_comm a (down e) b (down g)))))
    x

fewer : (A B : ℕ) → B - A ≤ A + B
fewer A B = omega arith

fewer_2 : (A B : ℕ) → A - B ≤ A + B
fewer_2 A B = omega arith

within_sum : (s t : Bool) (A B D a c : ℕ) → 0 < D → 0 < c → (A + B) * c ≤ a * D → Exact a c → Within (sum binary64 s A t B D) a c
unfolding sum
within_sum s t A B D a c P C h x = go (beq s t) (ltb A B)
  where
    go : (p q : Bool) → Within (cond p (round binary64 s (A + B) D) (cond q (round binary64 t (B - A) D) (round binary64 (s && ltb B A) (A - B) D))) a c
    go true q = within_round s (A + B) D a c P C h x
    go false true = within_round t (B - A) D a c P C (le_trans (mul-le-mul_right c (fewer A B)) h) x
    go false false = within_round (s && ltb B A) (A - B) D a c P C (le_trans (mul-le-mul_right c (fewer_2 A B)) h) x

over_one : (m U c a E G : ℕ) → m * U * c ≤ a * E → m * U * G * c ≤ a * (E * G)
over_one m U c a E G h = le_trans (le_of_eq (mul_right_comm (m * U) G c)) (le_trans (mul-le-mul_right G h) (le_of_eq (mul_assoc a E G)))

-- |x| ≤ a / c and |y| ≤ b / c give |x + y| ≤ (a + b) / c
pub within_add : (x y : Float) (a b c : ℕ) → 0 < c → Within x a c → Within y b c → Exact (a + b) c → Within (add binary64 x y) (a + b) c
unfolding add
within_add nan y a b c C v w x = absurd v
within_add (inf s) y a b c C v w x = absurd v
within_add (fin s m e) nan a b c C v w x = absurd w
within_add (fin s m e) (inf t) a b c C v w x = absurd w
within_add (fin s m e) (fin t n g) a b c C v w x =
    let D = down e * down g in
    within_sum s t (m * up e * down g) (n * up g * down e) D (a + b) c (mul-pos (down_pos e) (down_pos g)) C
    (le_trans (le_of_eq (add-mul (m * up e * down g) (n * up g * down e) c))
    (le_trans (add-le-add (over_one m (up e) c a (down e) (down g) v) (le_trans (over_one n (up g) c b (down g) (down e) w) (le_of_eq (ap (λ (z : ℕ). b * z) (mul_comm (down g) (down e))))))
    (le_of_eq (sym (add-mul a b D)))))
    x

-- and |x - y| ≤ (a + b) / c
pub within_sub : (x y : Float) (a b c : ℕ) → 0 < c → Within x a c → Within y b c → Exact (a + b) c → Within (sub binary64 x y) (a + b) c
unfolding sub
within_sub x y a b c C v w k = within_add x (neg y) a b c C v (within_neg y b c w) k

-- ---- bounds from below, with the sign
over : (x y : Float) (a c b d : ℕ) → HasValue x false a c → Signed false y → Within y b d → T (le x y) → From false y a c
unfolding le
over nan y a c b d v p w h = absurd v
over (inf t) y a c b d v p w h = absurd v
over (fin true m e) y a c b d v p w h = absurd (true≢false v.0)
over (fin false m e) nan a c b d v p w h = absurd w
over (fin false m e) (inf t) a c b d v p w h = absurd w
over (fin false m e) (fin true n g) a c b d v p w h = absurd (true≢false p)
over (fin false m e) (fin false n g) a c b d v p w h =
    (refl, through a (m * up e) (n * up g) c (down e) (down g) (down_pos e) (le_of_eq (sym v.1)) (plain_tests (m * up e * down g) (n * up g * down e) h))

from_neg : (s : Bool) (x : Float) (a c : ℕ) → From s x a c → From (not s) (neg x) a c
unfolding neg
from_neg s nan a c w = w
from_neg s (inf r) a c w = w
from_neg s (fin r m e) a c w = (ap not w.0, w.1)

from_plain : (n d a c b k : ℕ) → 0 < d → 0 < c → a * d ≤ n * c → Exact a c → Within (round binary64 false n d) b k → From false (round binary64 false n d) a c
from_plain n d a c b k D C h x w = over (round binary64 false a c) (round binary64 false n d) a c b k x (round_signed binary64 false n d) w (round_mono binary64 a c n d C D h)

-- |-x| ≤ a / c gives |x| ≤ a / c
pub within_back : (x : Float) (a c : ℕ) → Within (neg x) a c → Within x a c
unfolding neg
within_back nan a c w = w
within_back (inf s) a c w = w
within_back (fin s m e) a c w = w

-- a / c ≤ n / d gives a / c ≤ |round (±n / d)|, where that is finite; the sign is kept
pub from_round : (s : Bool) (n d a c b k : ℕ) → 0 < d → 0 < c → a * d ≤ n * c → Exact a c → Within (round binary64 s n d) b k → From s (round binary64 s n d) a c
from_round false n d a c b k D C h x w = from_plain n d a c b k D C h x w
from_round true n d a c b k D C h x w =
    subst (λ (z : Float). From true z a c) (neg_round binary64 false n d)
    (from_neg false (round binary64 false n d) a c
    (from_plain n d a c b k D C h x (within_back (round binary64 false n d) b k (subst (λ (z : Float). Within z b k) (sym (neg_round binary64 false n d)) w))))

sub_mul : (a b c : ℕ) → (a - b) * c ≡ a * c - b * c
sub_mul a b c = mul_comm (a - b) c ∙ mul-sub c a b ∙ ap (λ (z : ℕ). z - c * b) (mul_comm c a) ∙ ap (λ (z : ℕ). a * c - z) (mul_comm c b)

-- A / D and B / D are at most a / c apart, and so is their difference, rounded
pub within_difference : (s : Bool) (A B D a c : ℕ) → 0 < D → 0 < c → A * c ≤ B * c + a * D → B * c ≤ A * c + a * D → Exact a c → Within (sum binary64 s A (not s) B D) a c
unfolding sum
within_difference s A B D a c P C h k x = go s (ltb A B)
  where
    less : (A B : ℕ) → A * c ≤ B * c + a * D → (A - B) * c ≤ a * D
    less A B h = le_trans (le_of_eq (sub_mul A B c)) (by (A * c) (B * c) (a * D) h)
      where
        by : (x y z : ℕ) → x ≤ y + z → x - y ≤ z
        by x y z h = omega arith

    pick : (q u v : Bool) → Within (cond q (round binary64 u (B - A) D) (round binary64 v (A - B) D)) a c
    pick true u v = within_round u (B - A) D a c P C (less B A k) x
    pick false u v = within_round v (A - B) D a c P C (less A B h) x

    go : (s q : Bool) → Within (cond (beq s (not s)) (round binary64 s (A + B) D) (cond q (round binary64 (not s) (B - A) D) (round binary64 (s && ltb B A) (A - B) D))) a c
    go true q = pick q false (ltb B A)
    go false q = pick q true false

-- a sum of a larger and a smaller has the larger's sign
gap : (A B P Q : ℕ) (c : ℕ) → Q < P → P ≤ A * c → B * c ≤ Q → B < A
gap A B P Q c l h k = lt_of_mul-lt-mul_right c (lt_of_le_of_lt k (lt_of_lt_of_le l h))

less_by : (A B P Q : ℕ) → P ≤ A → B ≤ Q → P - Q ≤ A - B
less_by A B P Q h k = omega arith

and_true : (s : Bool) → (s && true) ≡ s
and_true true = refl
and_true false = refl

from_sum : (s t : Bool) (A B D a b c i k : ℕ) → 0 < D → 0 < c → b < a → a * D ≤ A * c → B * c ≤ b * D → Exact (a - b) c → Within (sum binary64 s A t B D) i k → From s (sum binary64 s A t B D) (a - b) c
unfolding sum
from_sum s t A B D a b c i k P C l h g x w = go (beq s t) w
  where
    larger : B < A
    larger = gap A B (a * D) (b * D) c (mul-lt-mul_of_pos_right l P) h g

    apart : (a - b) * D ≤ (A - B) * c
    apart = le_trans (le_of_eq (sub_mul a b D)) (le_trans (less_by (A * c) (B * c) (a * D) (b * D) h g) (le_of_eq (sym (sub_mul A B c))))

    other : cond (ltb A B) (round binary64 t (B - A) D) (round binary64 (s && ltb B A) (A - B) D) ≡ round binary64 s (A - B) D
    other = rw (le-ltb A B (le_of_lt larger), lt-ltb B A larger, and_true s)

    go : (p : Bool) → Within (cond p (round binary64 s (A + B) D) (cond (ltb A B) (round binary64 t (B - A) D) (round binary64 (s && ltb B A) (A - B) D))) i k
        → From s (cond p (round binary64 s (A + B) D) (cond (ltb A B) (round binary64 t (B - A) D) (round binary64 (s && ltb B A) (A - B) D))) (a - b) c
    go true v = from_round s (A + B) D (a - b) c i k P C (le_trans apart (mul-le-mul_right c (fewer_2 A B))) x v
    go false v = subst (λ (z : Float). From s z (a - b) c) (sym other) (from_round s (A - B) D (a - b) c i k P C apart x (subst (λ (z : Float). Within z i k) other v))

-- a / c ≤ |x|, |y| ≤ b / c and b < a give (a - b) / c ≤ |x + y|, with the sign of x
pub from_add : (s : Bool) (x y : Float) (a b c i k : ℕ) → 0 < c → b < a → From s x a c → Within y b c → Exact (a - b) c → Within (add binary64 x y) i k → From s (add binary64 x y) (a - b) c
unfolding add
from_add s nan y a b c i k C l v w x u = absurd v
from_add s (inf r) y a b c i k C l v w x u = absurd v
from_add s (fin r m e) nan a b c i k C l v w x u = absurd w
from_add s (fin r m e) (inf t) a b c i k C l v w x u = absurd w
from_add s (fin r m e) (fin t n g) a b c i k C l v w x u =
    subst (λ (q : Bool). From q (sum binary64 r (m * up e * down g) t (n * up g * down e) (down e * down g)) (a - b) c) v.0
    (from_sum r t (m * up e * down g) (n * up g * down e) (down e * down g) a b c i k (mul-pos (down_pos e) (down_pos g)) C l
    (le_trans (le_of_eq (sym (mul_assoc a (down e) (down g)))) (le_trans (mul-le-mul_right (down g) v.1) (le_of_eq (mul_right_comm (m * up e) c (down g)))))
    (le_trans (over_one n (up g) c b (down g) (down e) w) (le_of_eq (ap (λ (z : ℕ). b * z) (mul_comm (down g) (down e)))))
    x
    u)

-- and (a - b) / c ≤ |x - y|, with the sign of x
pub from_sub : (s : Bool) (x y : Float) (a b c i k : ℕ) → 0 < c → b < a → From s x a c → Within y b c → Exact (a - b) c → Within (sub binary64 x y) i k → From s (sub binary64 x y) (a - b) c
unfolding sub
from_sub s x y a b c i k C l v w e u = from_add s x (neg y) a b c i k C l v (within_neg y b c w) e u

-- ---- a quotient by a number that is b / d or more in size

-- such a number is not zero
pub not_zero : (n U d b E : ℕ) → 0 < b → 0 < E → b * E ≤ n * U * d → 0 < n
not_zero zero U d b E B P h = absurd (lt_irrefl 0 (lt_of_lt_of_le (mul-pos B P) (le_trans h (le_of_eq (ap (λ (z : ℕ). z * d) (zero-mul U) ∙ zero-mul d)))))
not_zero (suc n) U d b E B P h = zero-lt-suc n

-- the quotient is at most p / q where (a / c) / (b / d) is
div_to : (s : Bool) (x y : Float) (a c b d p q : ℕ) → 0 < c → 0 < b → 0 < q → Within x a c → From s y b d → a * d * q ≤ p * (c * b) → Exact p q → Within (div binary64 x y) p q
div_to s nan y a c b d p q C B Q v w h x = absurd v
div_to s (inf r) y a c b d p q C B Q v w h x = absurd v
div_to s (fin r m e) nan a c b d p q C B Q v w h x = absurd w
div_to s (fin r m e) (inf t) a c b d p q C B Q v w h x = absurd w
div_to s (fin r m e) (fin t n g) a c b d p q C B Q v w h x =
    let N : 0 < n = not_zero n (up g) d b (down g) B (down_pos g) w.1 in
    rw (div_finite binary64 r m e t n g N)
    (within_round (unlike r t) (m * up e * down g) (n * up g * down e) p q (mul-pos (mul-pos N (up_pos g)) (down_pos e)) Q
    (through (m * up e * down g) (a * d) p (n * up g * down e) (c * b) q (mul-pos C B) (cross (m * up e) (down e) (n * up g) (down g) a c b d v w.1) h)
    x)
  where
    cross : (X E Y G a c b d : ℕ) → X * c ≤ a * E → b * G ≤ Y * d → X * G * (c * b) ≤ a * d * (Y * E)
    cross X E Y G a c b d h k = omega (arith, mul-le-mul h k)

-- |x| ≤ a / c and b / d ≤ |y| give |x / y| ≤ (a d) / (c b)
pub within_div : (s : Bool) (x y : Float) (a c b d : ℕ) → 0 < c → 0 < b → Within x a c → From s y b d → Exact (a * d) (c * b) → Within (div binary64 x y) (a * d) (c * b)
within_div s x y a c b d C B v w e = div_to s x y a c b d (a * d) (c * b) C B (mul-pos C B) v w (le_refl (a * d * (c * b))) e

-- ---- the same with the arguments found by antt, and the conditions on the numbers as tests that it computes

-- |x| ≤ a / c
pub record Up (x : Float) (a c : ℕ) : Type 0 where
  pub pos : 0 < c
  pub is : Within x a c

-- a / c ≤ |x|, and the sign is s
pub record Lo (s : Bool) (x : Float) (a c : ℕ) : Type 0 where
  pub is : From s x a c

exact_test : Float → ℕ → ℕ → Bool
exact_test nan a c = false
exact_test (inf t) a c = false
exact_test (fin t m e) a c = not t && eqb (m * up e * c) (a * down e)

-- a / c is a value of binary64
unfoldable pub exact : ℕ → ℕ → Bool
unfolding round exact_test
exact a c = exact_test (round binary64 false a c) a c

exact_is : (x : Float) (a c : ℕ) → T (exact_test x a c) → HasValue x false a c
unfolding exact_test
exact_is nan a c t = absurd t
exact_is (inf s) a c t = absurd t
exact_is (fin true m e) a c t = absurd t
exact_is (fin false m e) a c t = (refl, eqb→eq (m * up e * c) (a * down e) t)

to_exact : (a c : ℕ) → T (exact a c) → Exact a c
unfolding exact
to_exact a c t = exact_is (round binary64 false a c) a c t

-- |x| ≤ a / c ≤ b / d
pub wider : {x : Float} {a c : ℕ} (b d : ℕ) → T (ltb 0 d && leb (a * d) (b * c)) → Up x a c → Up x b d
wider {x} {a} {c} b d t u = record { pos = ltb→lt 0 d (and_l (ltb 0 d) (leb (a * d) (b * c)) t); is = weaken x a c b d u.pos (leb→le (a * d) (b * c) (and_r (ltb 0 d) (leb (a * d) (b * c)) t)) u.is }

-- |x y| ≤ (a / c) (b / d)
pub up_mul : {x y : Float} {a c b d : ℕ} → T (exact (a * b) (c * d)) → Up x a c → Up y b d → Up (mul binary64 x y) (a * b) (c * d)
up_mul {x} {y} {a} {c} {b} {d} t u v = record { pos = mul-pos u.pos v.pos; is = within_mul x y a c b d u.pos v.pos u.is v.is (to_exact (a * b) (c * d) t) }

-- |x + y| ≤ a / c + b / c
pub up_add : {x y : Float} {a b c : ℕ} → T (exact (a + b) c) → Up x a c → Up y b c → Up (add binary64 x y) (a + b) c
up_add {x} {y} {a} {b} {c} t u v = record { pos = u.pos; is = within_add x y a b c u.pos u.is v.is (to_exact (a + b) c t) }

-- |x - y| ≤ a / c + b / c
pub up_sub : {x y : Float} {a b c : ℕ} → T (exact (a + b) c) → Up x a c → Up y b c → Up (sub binary64 x y) (a + b) c
up_sub {x} {y} {a} {b} {c} t u v = record { pos = u.pos; is = within_sub x y a b c u.pos u.is v.is (to_exact (a + b) c t) }

-- |x / y| ≤ (a / c) / (b / d)
pub up_div : {s : Bool} {x y : Float} {a c b d : ℕ} → T (ltb 0 b && exact (a * d) (c * b)) → Up x a c → Lo s y b d → Up (div binary64 x y) (a * d) (c * b)
up_div {s} {x} {y} {a} {c} {b} {d} t u v =
    let B : 0 < b = ltb→lt 0 b (and_l (ltb 0 b) (exact (a * d) (c * b)) t) in
    record { pos = mul-pos u.pos B; is = within_div s x y a c b d u.pos B u.is v.is (to_exact (a * d) (c * b) (and_r (ltb 0 b) (exact (a * d) (c * b)) t)) }

-- a / c - b / c ≤ |x - y|, with the sign of x
pub lo_sub : {s : Bool} {x y : Float} {a b c i k : ℕ} → T (ltb b a && exact (a - b) c) → Lo s x a c → Up y b c → Up (sub binary64 x y) i k → Lo s (sub binary64 x y) (a - b) c
lo_sub {s} {x} {y} {a} {b} {c} {i} {k} t u v w =
    record { is = from_sub s x y a b c i k v.pos (ltb→lt b a (and_l (ltb b a) (exact (a - b) c) t)) u.is v.is (to_exact (a - b) c (and_r (ltb b a) (exact (a - b) c) t)) w.is }

narrow : (x : Float) (s : Bool) (a c b d : ℕ) → 0 < c → b * c ≤ a * d → From s x a c → From s x b d
narrow nan s a c b d C h w = w
narrow (inf t) s a c b d C h w = w
narrow (fin t m e) s a c b d C h w = (w.0, through b a (m * up e) d c (down e) C h w.1)

-- b / d ≤ a / c ≤ |x|
pub nearer : {s : Bool} {x : Float} {a c : ℕ} (b d : ℕ) → T (ltb 0 c && leb (b * c) (a * d)) → Lo s x a c → Lo s x b d
nearer {s} {x} {a} {c} b d t u =
    record { is = narrow x s a c b d (ltb→lt 0 c (and_l (ltb 0 c) (leb (b * c) (a * d)) t)) (leb→le (b * c) (a * d) (and_r (ltb 0 c) (leb (b * c) (a * d)) t)) u.is }

-- a / c - b / c ≤ |x + y|, with the sign of x
pub lo_add : {s : Bool} {x y : Float} {a b c i k : ℕ} → T (ltb b a && exact (a - b) c) → Lo s x a c → Up y b c → Up (add binary64 x y) i k → Lo s (add binary64 x y) (a - b) c
lo_add {s} {x} {y} {a} {b} {c} {i} {k} t u v w =
    record { is = from_add s x y a b c i k v.pos (ltb→lt b a (and_l (ltb b a) (exact (a - b) c) t)) u.is v.is (to_exact (a - b) c (and_r (ltb b a) (exact (a - b) c) t)) w.is }

-- |x / y| ≤ (a / c) / (b / d) ≤ p / q
pub up_div_to : {s : Bool} {x y : Float} {a c b d : ℕ} (p q : ℕ) → T (ltb 0 b && (ltb 0 q && (leb (a * d * q) (p * (c * b)) && exact p q))) → Up x a c → Lo s y b d → Up (div binary64 x y) p q
up_div_to {s} {x} {y} {a} {c} {b} {d} p q t u v =
    let t1 = and_r (ltb 0 b) (ltb 0 q && (leb (a * d * q) (p * (c * b)) && exact p q)) t in
    let t2 = and_r (ltb 0 q) (leb (a * d * q) (p * (c * b)) && exact p q) t1 in
    let Q : 0 < q = ltb→lt 0 q (and_l (ltb 0 q) (leb (a * d * q) (p * (c * b)) && exact p q) t1) in
    let B : 0 < b = ltb→lt 0 b (and_l (ltb 0 b) (ltb 0 q && (leb (a * d * q) (p * (c * b)) && exact p q)) t) in
    let below : a * d * q ≤ p * (c * b) = leb→le (a * d * q) (p * (c * b)) (and_l (leb (a * d * q) (p * (c * b))) (exact p q) t2) in
    record {
      pos = Q;
      is = div_to s x y a c b d p q u.pos B Q u.is v.is below (to_exact p q (and_r (leb (a * d * q) (p * (c * b))) (exact p q) t2));
    }

-- the same where the second is the larger
from_sum_2 : (s t : Bool) (A B D a b c i k : ℕ) → 0 < D → 0 < c → b < a → a * D ≤ B * c → A * c ≤ b * D → Exact (a - b) c → Within (sum binary64 s A t B D) i k → From t (sum binary64 s A t B D) (a - b) c
unfolding sum
from_sum_2 s t A B D a b c i k P C l h g x = go s t
  where
    larger : A < B
    larger = gap B A (a * D) (b * D) c (mul-lt-mul_of_pos_right l P) h g

    apart : (a - b) * D ≤ (B - A) * c
    apart = le_trans (le_of_eq (sub_mul a b D)) (le_trans (less_by (B * c) (A * c) (a * D) (b * D) h g) (le_of_eq (sym (sub_mul B A c))))

    same : (t : Bool) → Within (round binary64 t (A + B) D) i k → From t (round binary64 t (A + B) D) (a - b) c
    same t v = from_round t (A + B) D (a - b) c i k P C (le_trans apart (mul-le-mul_right c (fewer A B))) x v

    other : (s t : Bool) → Within (cond (ltb A B) (round binary64 t (B - A) D) (round binary64 (s && ltb B A) (A - B) D)) i k
        → From t (cond (ltb A B) (round binary64 t (B - A) D) (round binary64 (s && ltb B A) (A - B) D)) (a - b) c
    other s t = rw (lt-ltb A B larger) (λ v. from_round t (B - A) D (a - b) c i k P C apart x v)

    go : (s t : Bool) → Within (cond (beq s t) (round binary64 s (A + B) D) (cond (ltb A B) (round binary64 t (B - A) D) (round binary64 (s && ltb B A) (A - B) D))) i k
        → From t (cond (beq s t) (round binary64 s (A + B) D) (cond (ltb A B) (round binary64 t (B - A) D) (round binary64 (s && ltb B A) (A - B) D))) (a - b) c
    go true true v = same true v
    go false false v = same false v
    go true false v = other true false v
    go false true v = other false true v

from_add_2 : (s : Bool) (x y : Float) (a b c i k : ℕ) → 0 < c → b < a → From s y a c → Within x b c → Exact (a - b) c → Within (add binary64 x y) i k → From s (add binary64 x y) (a - b) c
unfolding add
from_add_2 s nan y a b c i k C l v w x u = absurd w
from_add_2 s (inf r) y a b c i k C l v w x u = absurd w
from_add_2 s (fin r m e) nan a b c i k C l v w x u = absurd v
from_add_2 s (fin r m e) (inf t) a b c i k C l v w x u = absurd v
from_add_2 s (fin r m e) (fin t n g) a b c i k C l v w x u =
    subst (λ (q : Bool). From q (sum binary64 r (m * up e * down g) t (n * up g * down e) (down e * down g)) (a - b) c) v.0
    (from_sum_2 r t (m * up e * down g) (n * up g * down e) (down e * down g) a b c i k (mul-pos (down_pos e) (down_pos g)) C l
    (le_trans (le_of_eq (ap (λ (z : ℕ). a * z) (mul_comm (down e) (down g)) ∙ sym (mul_assoc a (down g) (down e)))) (le_trans (mul-le-mul_right (down e) v.1) (le_of_eq (mul_right_comm (n * up g) c (down e)))))
    (over_one m (up e) c b (down e) (down g) w)
    x
    u)

from_sub_2 : (s : Bool) (x y : Float) (a b c i k : ℕ) → 0 < c → b < a → From s y a c → Within x b c → Exact (a - b) c → Within (sub binary64 x y) i k → From (not s) (sub binary64 x y) (a - b) c
unfolding sub
from_sub_2 s x y a b c i k C l v w e u = from_add_2 (not s) x (neg y) a b c i k C l (from_neg s y a c v) w e u

-- a / c - b / c ≤ |x - y|, where y is the larger: with the sign that y has not
pub lo_sub_2 : {s : Bool} {x y : Float} {a b c i k : ℕ} → T (ltb b a && exact (a - b) c) → Up x b c → Lo s y a c → Up (sub binary64 x y) i k → Lo (not s) (sub binary64 x y) (a - b) c
lo_sub_2 {s} {x} {y} {a} {b} {c} {i} {k} t v u w =
    record { is = from_sub_2 s x y a b c i k v.pos (ltb→lt b a (and_l (ltb b a) (exact (a - b) c) t)) u.is v.is (to_exact (a - b) c (and_r (ltb b a) (exact (a - b) c) t)) w.is }
