-- The run. For a loop that goes back from the last row: none so far, one more, the end. And what the run says of the rows: each row in it is above
-- one half (run_holds), and the row before it is not (run_stops).
use Prim.Native.Nat.{ℕ, zero, suc, ◌+◌, ◌-◌, ◌≤◌, ◌<◌}
use mathlib.Core.Path.{◌≡◌, refl, ap, ◌∙◌}
use mathlib.Core.Bool.{Bool, true, false}
use mathlib.Core.Logic.{⊎_elim}
use mathlib.Core.List.{List}
use native.Mathlib.Omega.{arith}
use native.Mathlib.Nat.{eq-or-lt_of_le, le_of_suc-le-suc, not-suc-le-zero}
use lib.Ieee.{Float}
use Rattle.msar_verdict.specs.Verdict.{is_above, run_of}

-- a test holds, or it does not
pub by_test : {A : Type 0} (b : Bool) → (b ≡ true → A) → (b ≡ false → A) → A
by_test true so otherwise = so refl
by_test false so otherwise = otherwise refl

module _ (table : List Float) (k r : ℕ) where
  run_above : (i : ℕ) → is_above table k r i ≡ true → run_of table k r (suc i) ≡ suc (run_of table k r i)
  unfolding run_of
  run_above i h = rw h

  run_below : (i : ℕ) → is_above table k r i ≡ false → run_of table k r (suc i) ≡ 0
  unfolding run_of
  run_below i h = rw h

  run_none : run_of table k r 0 ≡ 0
  unfolding run_of
  run_none = refl

  -- ---- for the loop: the last `count` of n rows are above one half, and the run goes on before them

  abbrev pub SoFar : ℕ → ℕ → Type 0
  SoFar n count = run_of table k r n ≡ count + run_of table k r (n - count)

  pub run_start : (n : ℕ) → SoFar n 0
  run_start n = let e : n ≡ n - 0 = omega arith in omega (arith, ap (run_of table k r) e)

  module _ (n count : ℕ) (l : count < n) (so_far : SoFar n count) where
    next : n - count ≡ suc (n - 1 - count)
    next = omega arith

    pub run_more : is_above table k r (n - 1 - count) ≡ true → SoFar n (count + 1)
    run_more h =
        let e : n - 1 - count ≡ n - (count + 1) = omega arith in
        let one : run_of table k r (n - count) ≡ suc (run_of table k r (n - (count + 1))) =
        ap (run_of table k r) next ∙ run_above (n - 1 - count) h ∙ ap (λ (i : ℕ). suc (run_of table k r i)) e in
        omega (arith, so_far)

    pub run_found : is_above table k r (n - 1 - count) ≡ false → count ≡ run_of table k r n
    run_found h =
        let none : run_of table k r (n - count) ≡ 0 = ap (run_of table k r) next ∙ run_below (n - 1 - count) h in
        omega (arith, so_far)

  pub run_all : (n count : ℕ) → count ≡ n → SoFar n count → n ≡ run_of table k r n
  run_all n count e so_far =
      let z : n - count ≡ 0 = omega arith in
      let none : run_of table k r (n - count) ≡ 0 = ap (run_of table k r) z ∙ run_none in
      omega (arith, so_far)

  -- ---- what it says of n rows

  pub run_within : (n : ℕ) → run_of table k r n ≤ n
  run_within zero = omega (arith, run_none)
  run_within (suc n) =
      by_test (is_above table k r n)
      (λ h. omega (arith, run_above n h, run_within n))
      (λ h. omega (arith, run_below n h))

  -- each row from the first of the run on is above one half
  pub run_holds : (n i : ℕ) → n - run_of table k r n ≤ i → i < n → is_above table k r i ≡ true
  run_holds zero i from below = absurd (not-suc-le-zero below)
  run_holds (suc n) i from below =
      by_test (is_above table k r n)
      (λ h. ⊎_elim
      (λ (e : i ≡ n). ap (is_above table k r) e ∙ h)
      (λ (b : i < n). run_holds n i (omega (arith, run_above n h, from)) b)
      (eq-or-lt_of_le (le_of_suc-le-suc below)))
      (λ h. absurd (omega (arith, run_below n h, from, below)))

  -- the row before the first of the run is not
  pub run_stops : (n i : ℕ) → suc i ≡ n - run_of table k r n → is_above table k r i ≡ false
  run_stops zero i e = absurd (omega (arith, run_none))
  run_stops (suc n) i e =
      by_test (is_above table k r n)
      (λ h. run_stops n i (omega (arith, run_above n h, e)))
      (λ h. let last : i ≡ n = omega (arith, run_below n h, e) in ap (is_above table k r) last ∙ h)
