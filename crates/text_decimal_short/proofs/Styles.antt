-- The parts of the layout, and how they are joined. Assumes nothing.
use mathlib.Core.Path.{◌≡◌, refl, sym, ap, ◌∙◌}
use mathlib.Core.Logic.{inl, inr}
use mathlib.Core.Bool.{Bool, cond}
use mathlib.Core.List.{List, [], ◌∷◌, ◌++◌, append_assoc, append-nil}
use Prim.Native.Nat.{ℕ, zero, suc, ◌+◌, ◌-◌, ◌/◌, ◌%◌, ◌^◌, ◌≤◌, ◌<◌}
use native.Mathlib.Omega.{arith}
use borrow.Author.Tests.{lt-ltb, le-ltb, eq-eqb, ne_eqb}
use Rattle.rounding.proofs.Choose.{le_or_lt}
use Rattle.text_decimal_write.specs.declared.Decimal.{Decimal}
use Rattle.text_decimal_write.specs.Decimals.{digits_text, sign_text}
use Rattle.std.specs.Int.{abs_diff}
use Rattle.std.proofs.Common.{max, min}
use Rattle.std.proofs.lemmas.Grind.{common_steps}
use Rattle.text_decimal_write.specs.Room.{exponent_digits, opening, finite_decimal, laid}
use Rattle.std.proofs.Common.{Option, Some, None}
use lib.Ieee.{Float, nan, inf, fin}
use Rattle.text_decimal_short.specs.Short.{fraction_text, pointed_text, two_or_three, exponent_text, scientific, whole_digits, fixed, laid_out, rounded_to, short_units, short_text, allowed}

-- ---- the fraction

pub fraction_next : (k v : ℕ) → 0 < k → v % 10 ≡ 0 → fraction_text (k - 1) (v / 10) ≡ fraction_text k v
unfolding fraction_text
fraction_next zero v h e = absurd (omega arith)
fraction_next (suc k) v h e =
    ap (λ (z : ℕ). fraction_text z (v / 10)) (back k) ∙ sym (ap (λ (b : Bool). cond b (fraction_text k (v / 10)) (46 ∷ digits_text (suc k) v)) (eq-eqb (v % 10) 0 e))
  where
    back : (k : ℕ) → suc k - 1 ≡ k
    back k = omega arith

pub fraction_found : (t : List ℕ) (k n v : ℕ) → 0 < k → n ≡ k → (v % 10 ≡ 0 → ⊥) → (t ++ 46 ∷ []) ++ digits_text n v ≡ t ++ fraction_text k v
unfolding fraction_text
fraction_found t zero n v h e z = absurd (omega arith)
fraction_found t (suc k) n v h e z = append_assoc t (46 ∷ []) (digits_text n v) ∙ rw (e, ne_eqb (v % 10) 0 z)

pub fraction_none : (t : List ℕ) (k v : ℕ) → k ≤ 0 → t ++ fraction_text k v ≡ t
unfolding fraction_text
fraction_none t zero v h = append-nil t
fraction_none t (suc k) v h = absurd (omega arith)

-- ---- the exponent

pub exponent_two : (t : ℕ) → abs_diff t 324 < 100 → exponent_digits 2 t ≡ exponent_text t
unfolding exponent_digits exponent_text two_or_three
exponent_two t h = elim (le_or_lt 324 t) [
  | inl g ↦ rw (le-ltb t 324 g, lt-ltb (t - 324) 100 (omega arith))
  | inr g ↦ rw (lt-ltb t 324 g, lt-ltb (324 - t) 100 (omega arith))
]

pub exponent_three : (t : ℕ) → 100 ≤ abs_diff t 324 → exponent_digits 3 t ≡ exponent_text t
unfolding exponent_digits exponent_text two_or_three
exponent_three t h = elim (le_or_lt 324 t) [
  | inl g ↦ rw (le-ltb t 324 g, le-ltb (t - 324) 100 (omega arith))
  | inr g ↦ rw (lt-ltb t 324 g, le-ltb (324 - t) 100 (omega arith))
]

-- ---- joined

pub pointed_joined : (t : List ℕ) (w k v q : ℕ) → q ≡ v / 10 ^ k → (t ++ digits_text w q) ++ fraction_text k v ≡ t ++ pointed_text w k v
unfolding pointed_text
pointed_joined t w k v q e =
    append_assoc t (digits_text w q) (fraction_text k v) ∙ ap (λ (z : ℕ). t ++ (digits_text w z ++ fraction_text k v)) e

pub scientific_joined : (t : List ℕ) (n : ℕ) (d : Decimal) → (t ++ pointed_text 1 (n - 1) d.digits) ++ exponent_text d.tens ≡ t ++ scientific n d
unfolding scientific
scientific_joined t n d = append_assoc t (pointed_text 1 (n - 1) d.digits) (exponent_text d.tens)

-- ---- which style

pub whole_is : (t w : ℕ) → w ≡ t - 323 → max w 1 ≡ whole_digits t
unfolding whole_digits
whole_is t w e = elim (le_or_lt 324 t) [
  | inl g ↦ rw (le-ltb t 324 g) (omega arith)
  | inr g ↦ rw (lt-ltb t 324 g) (omega arith)
]

whole_one : (t : ℕ) → t < 324 → 1 ≡ whole_digits t
unfolding whole_digits
whole_one t h = rw (lt-ltb t 324 h)

whole_more : (t : ℕ) → 324 ≤ t → t - 323 ≡ whole_digits t
unfolding whole_digits
whole_more t h = rw (le-ltb t 324 h)

-- both parts of a text in style f, and the point, fit behind a sign
pub whole_room : (l n t w : ℕ) → l ≤ 1 → n ≤ 17 → 320 ≤ t → t < n + 324 → w ≡ whole_digits t → l + w + (n + 323 - t) < 32
unfolding whole_digits
whole_room l n t w a b h k e = elim (le_or_lt 324 t) [
  | inl g ↦ let f = e ∙ sym (whole_more t g) in omega arith
  | inr g ↦ let f = e ∙ sym (whole_one t g) in omega arith
]

module _ (n : ℕ) (d : Decimal) where
  pub laid_small : d.tens < 320 → scientific n d ≡ laid_out n d
  unfolding laid_out
  laid_small h = sym (rw (lt-ltb d.tens 320 h))

  pub laid_fixed : (w : ℕ) → w ≡ whole_digits d.tens → 320 ≤ d.tens → d.tens < n + 324 → pointed_text w (n + 323 - d.tens) d.digits ≡ laid_out n d
  unfolding laid_out fixed
  laid_fixed w e h k =
      ap (λ (z : ℕ). pointed_text z (n + 323 - d.tens) d.digits) e
      ∙ sym (rw (le-ltb d.tens 320 h, lt-ltb d.tens (n + 324) k))

  pub laid_large : 320 ≤ d.tens → n + 324 ≤ d.tens → scientific n d ≡ laid_out n d
  unfolding laid_out
  laid_large h k = sym (rw (le-ltb d.tens 320 h, le-ltb d.tens (n + 324) k))

-- ---- the text, from its opening and its decimal

text_joined : (n : ℕ) (x : Float) → opening x ++ laid (λ d. laid_out n (rounded_to n d)) (finite_decimal x) ≡ short_text n x
unfolding opening finite_decimal short_text short_units
text_joined n nan = refl
text_joined n (inf s) = append-nil (sign_text s ++ 105 ∷ 110 ∷ 102 ∷ [])
text_joined n (fin s m e) = refl

-- the count of digits that `clamp` gives
pub allowed_is : (m n : ℕ) → m ≡ max 1 (min n 17) → m ≡ allowed n
unfolding allowed
allowed_is m n e = grind (arith, common_steps)

pub text_some : (m n : ℕ) (x : Float) (d : Decimal) → m ≡ allowed n → finite_decimal x ≡ Some d → opening x ++ laid_out m (rounded_to m d) ≡ short_text (allowed n) x
text_some m n x d a e =
    ap (λ (o : Option Decimal). opening x ++ laid (λ d. laid_out m (rounded_to m d)) o) (sym e)
    ∙ text_joined m x
    ∙ ap (λ (z : ℕ). short_text z x) a

pub text_none : (n : ℕ) (x : Float) → finite_decimal x ≡ None → opening x ≡ short_text n x
text_none n x e = sym (append-nil (opening x)) ∙ ap (λ (o : Option Decimal). opening x ++ laid (λ d. laid_out n (rounded_to n d)) o) (sym e) ∙ text_joined n x
