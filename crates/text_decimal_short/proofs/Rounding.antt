-- Digits rounded to n of them. Assumes nothing.
use mathlib.Core.Path.{◌≡◌, refl, sym, ap, ◌∙◌, subst}
use mathlib.Core.Bool.{Bool, not, cond}
use Prim.Native.Nat.{ℕ, ◌+◌, ◌-◌, ◌*◌, ◌/◌, ◌%◌, ◌^◌, ◌≤◌, ◌<◌}
use native.Mathlib.Nat.{div-one, mod-one}
use native.Mathlib.Omega.{arith}
use borrow.Author.Tests.{eq-eqb, ne_eqb}
use lib.Dec.{eqb, lit<}
use lib.Pow.{pow-add}
use lib.Ieee.Nearest.{closest}
use Rattle.text_limbs.specs.Remains.{halved_of}
use Rattle.text_limbs.proofs.Tens.{ten_pos, ten_mono}
use Rattle.text_limbs.proofs.Halves.{nearest_below, halved_closest}
use Rattle.text_decimal_write.specs.declared.Decimal.{Decimal}
use Rattle.text_decimal_short.specs.Short.{carried}

-- ten times the power below
ten_next : (n : ℕ) → 0 < n → 10 ^ n ≡ 10 * 10 ^ (n - 1)
ten_next n h = ap (λ (z : ℕ). 10 ^ z) (back n h) ∙ pow-add 10 1 (n - 1)
  where
    back : (n : ℕ) → 0 < n → n ≡ 1 + (n - 1)
    back n h = omega arith

pub power_pos : (n p : ℕ) → p ≡ 10 ^ n → 0 < p
power_pos n p e = subst (λ (z : ℕ). 0 < z) (sym e) (ten_pos n)

-- a factor of up to ten leaves it below 2 ^ 64
pub power_fits : (n p : ℕ) → n < 17 → p ≡ 10 ^ n → 10 * p < 2 ^ 64
power_fits n p h e = least p (subst (λ (z : ℕ). z ≤ 10 ^ 16) (sym e) (ten_mono (less n h)))
  where
    less : (n : ℕ) → n < 17 → n ≤ 16
    less n h = omega arith

    least : (p : ℕ) → p ≤ 10 ^ 16 → 10 * p < 2 ^ 64
    least p h = omega arith

pub nearest_all : (v n : ℕ) → n ≡ 0 → v ≡ closest v (10 ^ n)
nearest_all v n e =
    sym
    (ap (λ (z : ℕ). closest v (10 ^ z)) e
    ∙ nearest_below (v / 1) (v % 1 * 2) 1 (subst (λ (z : ℕ). z * 2 < 1) (sym (mod-one v)) (lit< tt))
    ∙ div-one v)

-- by halves of the unit, each 5 p
pub nearest_half : (v n p : ℕ) → (n ≡ 0 → ⊥) → p ≡ 10 ^ (n - 1) → halved_of (v / (5 * p)) (not (eqb (v % (5 * p)) 0)) ≡ closest v (10 ^ n)
nearest_half v n p h e =
    sym (halved_closest v (5 * p) (v / (5 * p)) (not (eqb (v % (5 * p)) 0)) (five p (power_pos (n - 1) p e)) (record { whole = refl; left = refl }))
    ∙ ap (λ (z : ℕ). closest v z) (double p ∙ ap (λ (z : ℕ). 10 * z) e ∙ sym (ten_next n (some n h)))
  where
    some : (n : ℕ) → (n ≡ 0 → ⊥) → 0 < n
    some n h = omega arith

    five : (p : ℕ) → 0 < p → 0 < 5 * p
    five p h = omega arith

    double : (p : ℕ) → 5 * p * 2 ≡ 10 * p
    double p = omega arith

module _ (n q p t : ℕ) (some : 0 < n) (power : p ≡ 10 ^ (n - 1)) where
  top : 10 * p ≡ 10 ^ n
  top = ap (λ (z : ℕ). 10 * z) power ∙ sym (ten_next n some)

  pub carried_up : q ≡ 10 * p → record { digits = p; tens = t + 1 } ≡ carried n q t
  unfolding carried
  carried_up e =
      ap (λ (z : ℕ). record { digits = z; tens = t + 1 }) power
      ∙ sym (ap (λ (b : Bool). cond {A = Decimal} b (record { digits = 10 ^ (n - 1); tens = t + 1 }) (record { digits = q; tens = t })) (eq-eqb q (10 ^ n) (e ∙ top)))

  pub carried_none : (q ≡ 10 * p → ⊥) → record { digits = q; tens = t } ≡ carried n q t
  unfolding carried
  carried_none h =
      sym
      (ap (λ (b : Bool). cond {A = Decimal} b (record { digits = 10 ^ (n - 1); tens = t + 1 }) (record { digits = q; tens = t }))
      (ne_eqb q (10 ^ n) (λ (e : q ≡ 10 ^ n). h (e ∙ sym top))))
