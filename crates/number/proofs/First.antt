-- The first place of which a test is false, from what `position` says: none, or the first.
use mathlib.Core.Path.{◌≡◌, refl}
use mathlib.Core.Bool.{Bool, true, false}
use mathlib.Core.Logic.{⊎_elim}
use Prim.Native.Nat.{ℕ, zero, suc, ◌<◌, ◌≤◌}
use native.Mathlib.Omega.{arith}
use native.Mathlib.Nat.{eq-or-lt_of_le, le_of_suc-le-suc, not-suc-le-zero}
use borrow.Author.Tests.{eq-eqb, ne_eqb}
use lib.Ieee.{Float, nan}
use lib.ListN.{length, take, get_or}
use Rattle.std.specs.List.{AllWithin, HoldsAt}
use Rattle.std.specs.Option.{MatchOption}
use Rattle.std.specs.declared.option.Option.{Option}
use Rattle.std.specs.declared.option.Option.TheVariants.{None, Some}
use Rattle.std.proofs.lemmas.List.{get_or-take, length-take-le}
use Rattle.std.specs.Option.{unwrap_or}
use mathlib.Core.List.{List}
use mathlib.Core.Path.{sym, ap, ◌∙◌}
use Rattle.number.specs.Table.{◌!◌}
use Rattle.number.specs.Tests.{first_not}

pub first_all : (t : ℕ → Bool) (n : ℕ) → ((j : ℕ) → j < n → t j ≡ true) → first_not t n ≡ n
unfolding first_not
first_all t zero h = refl
first_all t (suc n) h = rw (first_all t n (λ j l. h j (omega arith)), eq-eqb n n refl, h n (omega arith))

module _ (t : ℕ → Bool) (i : ℕ) (so_far : first_not t i ≡ i) where
  first_here : t i ≡ false → first_not t (suc i) ≡ i
  unfolding first_not
  first_here h = rw (so_far, eq-eqb i i refl, h)

  pub first_found : t i ≡ false → (n : ℕ) → i < n → first_not t n ≡ i
  unfolding first_not
  first_found h zero l = absurd (not-suc-le-zero l)
  first_found h (suc n) l =
      ⊎_elim
      (λ w. rw (← w) (first_here h))
      (λ (b : i < n). rw (first_found h n b, ne_eqb i n (λ e. absurd (omega (arith, b, e)))))
      (eq-or-lt_of_le (le_of_suc-le-suc l))

-- the place that `position` finds among the first n, n where it finds none
module _ (t : Float → Bool) (row : List Float) (n : ℕ) (within : n ≤ length row) where
  there : (i : ℕ) → i < n → (b : Bool) → ((d : Float) → t (get_or (take n row) i d) ≡ b) → t (row ! i) ≡ b
  there i l b h = ap t (sym (get_or-take n row i nan l)) ∙ h nan

  pub first_by_position : (r : Option ℕ)
      → MatchOption r (AllWithin (λ y. t y ≡ true) (take n row) 0 (length (take n row))) (λ i. (i < length (take n row)) × HoldsAt (λ y. t y ≡ false) (take n row) i × AllWithin (λ y. t y ≡ true) (take n row) 0 i)
      → unwrap_or r n ≡ first_not (λ i. t (row ! i)) n
  first_by_position None h =
      let e = length-take-le n row within in
      sym (first_all _ n (λ j l. there j l true (λ d. h j d (omega arith) (omega (arith, e, l)))))
  first_by_position (Some i) h =
      let e = length-take-le n row within in
      let l : i < n = omega (arith, e, h.0) in
      sym (first_found _ i (first_all _ i (λ j m. there j (omega (arith, m, l)) true (λ d. h.2 j d (omega arith) m))) (there i l false h.1) n l)
