-- How many readings a run needs. For a loop from 3 on: none so far, one more, found, the end. And what a reader wants to know of it: it is between 3
-- and 30, at least three expected durations where it is below 30, no lesser number from 3 up is that; and a run is settled where it is as long.
use Prim.Native.Nat.{ℕ, zero, suc, ◌+◌, ◌-◌, ◌≤◌, ◌<◌}
use mathlib.Core.Path.{◌≡◌, refl, ap, sym, ◌∙◌}
use mathlib.Core.Bool.{true, false}
use mathlib.Core.Logic.{⊎_elim}
use native.Mathlib.Omega.{arith}
use native.Mathlib.Nat.{eq-or-lt_of_le}
use borrow.Author.Tests.{ne_eqb, le-leb}
use lib.Ieee.{Float}
use Rattle.msar_verdict.specs.Verdict.{is_enough, least_from, needed_of, verdict_of}
use Rattle.msar_verdict.specs.declared.Verdict.TheVariants.{Settled}
use Rattle.msar_verdict.proofs.Runs.{by_test}

module _ (d : Float) where
  least_end : (m : ℕ) → least_from d m 0 ≡ m
  unfolding least_from
  least_end m = refl

  least_here : (m more : ℕ) → is_enough d m ≡ true → least_from d m (suc more) ≡ m
  unfolding least_from
  least_here m more h = rw h

  least_later : (m more : ℕ) → is_enough d m ≡ false → least_from d m (suc more) ≡ least_from d (suc m) more
  unfolding least_from
  least_later m more h = rw h

  -- ---- for the loop: nothing below m is enough

  abbrev pub SoFar : ℕ → Type 0
  SoFar m = needed_of d ≡ least_from d m (30 - m)

  pub needed_none : SoFar 3
  unfolding needed_of
  needed_none = refl

  module _ (m : ℕ) (l : m < 30) (so_far : SoFar m) where
    next : 30 - m ≡ suc (30 - (m + 1))
    next = omega arith

    pub needed_more : is_enough d m ≡ false → SoFar (m + 1)
    needed_more h =
        let e : suc m ≡ m + 1 = omega arith in
        so_far ∙ ap (least_from d m) next ∙ least_later m (30 - (m + 1)) h ∙ ap (λ (i : ℕ). least_from d i (30 - (m + 1))) e

    pub needed_found : is_enough d m ≡ true → m ≡ needed_of d
    needed_found h = sym (so_far ∙ ap (least_from d m) next ∙ least_here m (30 - (m + 1)) h)

  pub needed_most : (m : ℕ) → m ≡ 30 → SoFar m → 30 ≡ needed_of d
  needed_most m e so_far = sym (so_far ∙ ap (λ (i : ℕ). least_from d i (30 - i)) e ∙ least_end 30)

  -- ---- what it says

  least_from_lem : (m more : ℕ) → m ≤ least_from d m more
  least_from_lem m zero = omega (arith, least_end m)
  least_from_lem m (suc more) =
      by_test (is_enough d m)
      (λ h. omega (arith, least_here m more h))
      (λ h. omega (arith, least_later m more h, least_from_lem (suc m) more))

  least_to : (m more : ℕ) → least_from d m more ≤ m + more
  least_to m zero = omega (arith, least_end m)
  least_to m (suc more) =
      by_test (is_enough d m)
      (λ h. omega (arith, least_here m more h))
      (λ h. omega (arith, least_later m more h, least_to (suc m) more))

  least_enough : (m more : ℕ) → least_from d m more < m + more → is_enough d (least_from d m more) ≡ true
  least_enough m zero l = absurd (omega (arith, least_end m))
  least_enough m (suc more) l =
      by_test (is_enough d m)
      (λ h. ap (is_enough d) (least_here m more h) ∙ h)
      (λ h.
      let e = least_later m more h in
      ap (is_enough d) e ∙ least_enough (suc m) more (omega (arith, e)))

  least_none : (m more i : ℕ) → m ≤ i → i < least_from d m more → is_enough d i ≡ false
  least_none m zero i from below = absurd (omega (arith, least_end m))
  least_none m (suc more) i from below =
      by_test (is_enough d m)
      (λ h. absurd (omega (arith, least_here m more h)))
      (λ h.
      ⊎_elim
      (λ (e : m ≡ i). ap (is_enough d) (sym e) ∙ h)
      (λ (b : m < i). least_none (suc m) more i b (omega (arith, least_later m more h)))
      (eq-or-lt_of_le from))

  pub needed_at_least : 3 ≤ needed_of d
  unfolding needed_of
  needed_at_least = least_from_lem 3 27

  pub needed_at_most : needed_of d ≤ 30
  unfolding needed_of
  needed_at_most = least_to 3 27

  pub needed_enough : needed_of d < 30 → is_enough d (needed_of d) ≡ true
  unfolding needed_of
  needed_enough = least_enough 3 27

  pub needed_least : (m : ℕ) → 3 ≤ m → m < needed_of d → is_enough d m ≡ false
  unfolding needed_of
  needed_least = least_none 3 27

  pub settled : (run : ℕ) → needed_of d ≤ run → verdict_of run (needed_of d) ≡ Settled
  unfolding verdict_of
  settled run h = rw (ne_eqb run 0 (λ e. omega (arith, needed_at_least)), le-leb (needed_of d) run h)
