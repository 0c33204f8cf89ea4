-- The entries of the system, by the code's tests on a place e of the table: row e / n, column e % n. Assumes nothing.
use mathlib.Core.Path.{◌≡◌, sym, ap, ◌∙◌}
use mathlib.Core.List.{List}
use Prim.Native.Nat.{ℕ, suc, ◌+◌, ◌/◌, ◌%◌}
use native.Mathlib.Nat.{div-add-mod'}
use native.Mathlib.Numerals.{add-one}
use borrow.Author.Tests.{eq-eqb, ne_eqb}
use lib.Ieee.{Float}
use Rattle.number.specs.Number.{◌⊖◌, zero⁺, one}
use Rattle.number.specs.Table.{◌!◌, cell}
use Rattle.stationary.specs.Stationary.{coefficient, entry, side}

module _ (n : ℕ) (T : List Float) (e : ℕ) where
  pub in_last_row : e / n + 1 ≡ n → one ≡ entry n T e
  unfolding entry coefficient
  in_last_row h = rw (eq-eqb (suc (e / n)) n (sym (add-one (e / n)) ∙ h))

  at_place : T ! e ≡ cell n T (e / n) (e % n)
  at_place = ap (λ (i : ℕ). T ! i) (sym (div-add-mod' e n))

  pub on_diagonal : (e / n + 1 ≡ n → ⊥) → e / n ≡ e % n → one ⊖ T ! e ≡ entry n T e
  unfolding entry coefficient
  on_diagonal h d = rw (ne_eqb (suc (e / n)) n (λ z. h (add-one (e / n) ∙ z)), eq-eqb (e / n) (e % n) d) (ap (λ (x : Float). one ⊖ x) at_place)

  pub off_diagonal : (e / n + 1 ≡ n → ⊥) → (e / n ≡ e % n → ⊥) → zero⁺ ⊖ T ! e ≡ entry n T e
  unfolding entry coefficient
  off_diagonal h d = rw (ne_eqb (suc (e / n)) n (λ z. h (add-one (e / n) ∙ z)), ne_eqb (e / n) (e % n) d) (ap (λ (x : Float). zero⁺ ⊖ x) at_place)

module _ (n i : ℕ) where
  pub last_side : i + 1 ≡ n → one ≡ side n i
  unfolding side
  last_side h = rw (eq-eqb (suc i) n (sym (add-one i) ∙ h))

  pub other_side : (i + 1 ≡ n → ⊥) → zero⁺ ≡ side n i
  unfolding side
  other_side h = rw (ne_eqb (suc i) n (λ z. h (add-one i ∙ z)))
