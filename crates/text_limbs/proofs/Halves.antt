-- A fraction rounded to the nearest whole number, from its double cut to a whole number and whether something was cut off. Assumes nothing.
use mathlib.Core.Path.{◌≡◌, refl, sym, ap, ◌∙◌, subst}
use mathlib.Core.Bool.{Bool, true, false, not, cond}
use mathlib.Core.Logic.{◌⊎◌, inl, inr}
use Prim.Native.Nat.{ℕ, zero, suc, ◌+◌, ◌*◌, ◌/◌, ◌%◌, ◌^◌, ◌≤◌, ◌<◌, compare, Ordering}
use native.Mathlib.Nat.{div-div-eq-div-mul, mod-lt, eq-zero-or-pos}
use native.Mathlib.Omega.{arith}
use borrow.Author.Tests.{eq-eqb, ne_eqb}
use lib.Dec.{T, lit<, eqb, is_le, compare_is_eq, leb→le, nleb→lt, eqb→eq, eqb_refl}
use lib.Ieee.{nearest}
use lib.Ieee.Nearest.{closest}
use Rattle.text_limbs.specs.Remains.{halved_of, CutBy}
use Rattle.text_limbs.proofs.Tens.{mod_of}

-- ---- nearest, by how two numbers compare

pub nearest_below : (q a b : ℕ) → a < b → nearest q (compare a b) ≡ q
nearest_below q a b h = go (compare a b) (nleb→lt a b) (eqb→eq a b)
  where
    go : (o : Ordering) → (T (not (is_le o)) → b < a) → (T (compare_is_eq o) → a ≡ b) → nearest q o ≡ q
    go Ordering.lt k e = refl
    go Ordering.eq k e = absurd (no (e tt))
      where
        no : a ≡ b → ⊥
        no e = omega arith
    go Ordering.gt k e = absurd (no (k tt))
      where
        no : b < a → ⊥
        no k = omega arith

pub nearest_above : (q a b : ℕ) → b < a → nearest q (compare a b) ≡ suc q
nearest_above q a b h = go (compare a b) (leb→le a b)
  where
    no : a ≤ b → ⊥
    no k = omega arith

    go : (o : Ordering) → (T (is_le o) → a ≤ b) → nearest q o ≡ suc q
    go Ordering.lt k = absurd (no (k tt))
    go Ordering.eq k = absurd (no (k tt))
    go Ordering.gt k = refl

nearest_tie : (q a b : ℕ) → a ≡ b → nearest q (compare a b) ≡ q + q % 2
nearest_tie q a b h = go (compare a b) (subst (λ (x : ℕ). T (eqb a x)) h (eqb_refl a))
  where
    go : (o : Ordering) → T (compare_is_eq o) → nearest q o ≡ q + q % 2
    go Ordering.lt t = absurd t
    go Ordering.eq t = refl
    go Ordering.gt t = absurd t

-- ---- n / (2 x), where n / x cut is w

digit : (w : ℕ) → (w % 2 ≡ 0) ⊎ (w % 2 ≡ 1)
digit w = go (w % 2) (less w)
  where
    less : (w : ℕ) → w % 2 < 2
    less w = omega arith

    go : (b : ℕ) → b < 2 → (b ≡ 0) ⊎ (b ≡ 1)
    go zero h = inl refl
    go (suc zero) h = inr refl
    go (suc (suc b)) h = absurd (omega arith)

pub halved_closest : (n x w : ℕ) (rest : Bool) → 0 < x → CutBy n x w rest → closest n (x * 2) ≡ halved_of w rest
unfolding halved_of
halved_closest n x w rest X h =
    let q : n / (x * 2) ≡ w / 2 = sym (div-div-eq-div-mul n x 2) ∙ ap (λ (z : ℕ). z / 2) (sym h.whole) in
    let r : n % (x * 2) ≡ w % 2 * x + n % x = mod_of n x 2 X (lit< tt) ∙ ap (λ (z : ℕ). z % 2 * x + n % x) (sym h.whole) in
    ap (λ (z : ℕ). nearest z (compare (n % (x * 2) * 2) (x * 2))) q
    ∙ ap (λ (z : ℕ). nearest (w / 2) (compare (z * 2) (x * 2))) r
    ∙ elim (digit w) [
      | inl e ↦
          nearest_below (w / 2) ((w % 2 * x + n % x) * 2) (x * 2) (below (w % 2) (n % x) e (mod-lt n X))
          ∙ sym (ap (λ (b : Bool). cond b (w / 2) (cond rest (w / 2 + 1) (w / 2 + w / 2 % 2))) (eq-eqb (w % 2) 0 e))
      | inr e ↦
          go (n % x) rest h.left e
          ∙ sym (ap (λ (b : Bool). cond b (w / 2) (cond rest (w / 2 + 1) (w / 2 + w / 2 % 2))) (ne_eqb (w % 2) 0 (λ (z : w % 2 ≡ 0). one (w % 2) e z)))
    ]
  where
    one : (b : ℕ) → b ≡ 1 → b ≡ 0 → ⊥
    one b e z = omega arith

    below : (b r : ℕ) → b ≡ 0 → r < x → (b * x + r) * 2 < x * 2
    below b r e h = let p = ap (λ (z : ℕ). z * x) e in omega (arith, p)

    same : (b r : ℕ) → b ≡ 1 → r ≡ 0 → (b * x + r) * 2 ≡ x * 2
    same b r e f = let p = ap (λ (z : ℕ). z * x) e in omega (arith, p)

    above : (b r : ℕ) → b ≡ 1 → 0 < r → x * 2 < (b * x + r) * 2
    above b r e f = let p = ap (λ (z : ℕ). z * x) e in omega (arith, p)

    next : (q : ℕ) → suc q ≡ q + 1
    next q = omega arith

    -- a half, and nothing or something more
    go : (r : ℕ) (rest : Bool) → rest ≡ not (eqb r 0) → w % 2 ≡ 1 → nearest (w / 2) (compare ((w % 2 * x + r) * 2) (x * 2)) ≡ cond rest (w / 2 + 1) (w / 2 + w / 2 % 2)
    go r rest f e = elim (eq-zero-or-pos r) [
      | inl z ↦
          nearest_tie (w / 2) ((w % 2 * x + r) * 2) (x * 2) (same (w % 2) r e z)
          ∙ sym (ap (λ (b : Bool). cond b (w / 2 + 1) (w / 2 + w / 2 % 2)) (f ∙ ap not (eq-eqb r 0 z)))
      | inr z ↦
          nearest_above (w / 2) ((w % 2 * x + r) * 2) (x * 2) (above (w % 2) r e z)
          ∙ next (w / 2)
          ∙ sym (ap (λ (b : Bool). cond b (w / 2 + 1) (w / 2 + w / 2 % 2)) (f ∙ ap not (ne_eqb r 0 (λ (y : r ≡ 0). one_zero r y z))))
    ]
      where
        one_zero : (r : ℕ) → r ≡ 0 → 0 < r → ⊥
        one_zero r e z = omega arith

-- ---- bounds

pub halved_most : (w : ℕ) (rest : Bool) → w < 2 ^ 54 → halved_of w rest ≤ 2 ^ 53
unfolding halved_of
halved_most w rest h = go (eqb (w % 2) 0) rest
  where
    go : (b r : Bool) → cond b (w / 2) (cond r (w / 2 + 1) (w / 2 + w / 2 % 2)) ≤ 2 ^ 53
    go true r = omega arith
    go false true = omega arith
    go false false = omega arith

pub halved_least : (w a : ℕ) (rest : Bool) → 2 * a ≤ w → a ≤ halved_of w rest
unfolding halved_of
halved_least w a rest h = go (eqb (w % 2) 0) rest
  where
    go : (b r : Bool) → a ≤ cond b (w / 2) (cond r (w / 2 + 1) (w / 2 + w / 2 % 2))
    go true r = omega arith
    go false true = omega arith
    go false false = omega arith
