-- Bytes put one behind the other. Assumes nothing.
use mathlib.Core.Path.{◌≡◌, refl, sym, ap, ◌∙◌}
use mathlib.Core.List.{List, [], ◌∷◌, ◌++◌, append_assoc}
use Prim.Native.Nat.{ℕ, suc, ◌+◌, ◌-◌, ◌/◌, ◌%◌, ◌^◌, ◌≤◌, ◌<◌}
use native.Mathlib.Nat.{div-div-eq-div-mul}
use native.Mathlib.Omega.{arith}
use lib.Pow.{pow-add}
use borrow.Author.Tests.{lt-ltb, le-ltb}
use lib.ListN.{length, drop, replicate}
use Rattle.std.proofs.lemmas.List.{drop-replicate}
use Rattle.text_decimal_write.specs.declared.Decimal.{Decimal}
use Rattle.text_decimal_write.specs.Decimals.{digits_text, exponent_text, decimal_text}
use Rattle.text_decimal_write.specs.Room.{exponent_digits}

-- ---- digits

pub cut_twice : (v n p : ℕ) → 16 < n → p ≡ 10 ^ (n - 16) → v / 10 ^ 16 / p ≡ v / 10 ^ n
cut_twice v n p h e =
    ap (λ (z : ℕ). v / 10 ^ 16 / z) e ∙ div-div-eq-div-mul v (10 ^ 16) (10 ^ (n - 16)) ∙ ap (λ (z : ℕ). v / z) (sym (pow-add 10 16 (n - 16)) ∙ ap (λ (z : ℕ). 10 ^ z) (back n h))
  where
    back : (n : ℕ) → 16 < n → 16 + (n - 16) ≡ n
    back n h = omega arith

-- the first of the digits that are left
pub digit_next : (n v q : ℕ) → 0 < n → q ≡ v / 10 ^ (n - 1) → digits_text n v ≡ (48 + q % 10) ∷ digits_text (n - 1) v
unfolding digits_text
digit_next n v q h e = ap (λ (k : ℕ). digits_text k v) (back n h) ∙ ap (λ (z : ℕ). (48 + z % 10) ∷ digits_text (n - 1) v) (sym e)
  where
    back : (n : ℕ) → 0 < n → n ≡ suc (n - 1)
    back n h = omega arith

pub digits_none : (v : ℕ) → digits_text 0 v ≡ []
unfolding digits_text
digits_none v = refl

-- ---- the parts of a decimal's text, joined

-- the mark, the sign, n digits
three : (t : List ℕ) (a b : ℕ) (d : List ℕ) → ((t ++ a ∷ []) ++ b ∷ []) ++ d ≡ t ++ a ∷ b ∷ d
three t a b d = append_assoc (t ++ a ∷ []) (b ∷ []) d ∙ append_assoc t (a ∷ []) (b ∷ d)

pub exponent_minus : (t : List ℕ) (n e d c : ℕ) → e < 324 → d ≡ 324 - e → c ≡ 45 → ((t ++ 101 ∷ []) ++ c ∷ []) ++ digits_text n d ≡ t ++ exponent_digits n e
unfolding exponent_digits
exponent_minus t n e d c h p q = three t 101 c (digits_text n d) ∙ rw (p, q, lt-ltb e 324 h)

pub exponent_plus : (t : List ℕ) (n e d c : ℕ) → 324 ≤ e → d ≡ e - 324 → c ≡ 43 → ((t ++ 101 ∷ []) ++ c ∷ []) ++ digits_text n d ≡ t ++ exponent_digits n e
unfolding exponent_digits
exponent_plus t n e d c h p q = three t 101 c (digits_text n d) ∙ rw (p, q, le-ltb e 324 h)

pub three_digits : (t : ℕ) → exponent_digits 3 t ≡ exponent_text t
unfolding exponent_digits exponent_text
three_digits t = refl

pub decimal_joined : (t : List ℕ) (d : Decimal)
    → (((t ++ digits_text 1 (d.digits / 10 ^ 16)) ++ 46 ∷ []) ++ digits_text 16 (d.digits % 10 ^ 16)) ++ exponent_text d.tens ≡ t ++ decimal_text d
unfolding decimal_text
decimal_joined t d = go t (digits_text 1 (d.digits / 10 ^ 16)) (digits_text 16 (d.digits % 10 ^ 16)) (exponent_text d.tens)
  where
    go : (t a b c : List ℕ) → (((t ++ a) ++ 46 ∷ []) ++ b) ++ c ≡ t ++ (a ++ 46 ∷ b ++ c)
    go t a b c = simp append_assoc

-- ---- zeros behind a text

pub zeros_behind : (k : ℕ) (t u : List ℕ) → k ≡ length t → u ≡ t → u ++ drop k (replicate 32 0) ≡ t ++ replicate (32 - length t) 0
zeros_behind k t u e f = rw (e, f, drop-replicate {X = ℕ} (length t) 32 0)
