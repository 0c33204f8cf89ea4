-- The diagonal of a table, walked from its first row on: the largest place so far, and the ridge in the rows so far. Assumes nothing.
use Rattle.std.specs.Prelude.{if◌then◌else◌}
use Prim.Native.Nat.{ℕ, ◌+◌, ◌*◌, ◌/◌, ◌%◌, ◌<◌, ◌≤◌}
use mathlib.Core.Path.{◌≡◌, refl, sym, ◌∙◌}
use mathlib.Core.Logic.{◌≢◌}
use mathlib.Core.List.{List}
use native.Mathlib.Nat.{lt_of_not-le, div-lt_iff_lt-mul, div-add-mod', mul-le-mul}
use native.Mathlib.Numerals.{add-one}
use native.Mathlib.Decide.{dec_le}
use native.Mathlib.Omega.{arith}
use borrow.Author.Tests.{lt-ltb, le-ltb, eq-eqb, ne_eqb}
use lib.Arith.{digits_lt, digits_div, digits_mod}
use lib.ListN.{length, set}
use lib.Ieee.{Float}
use Rattle.number.specs.Number.{◌<?◌, ◌⊕◌, ◌⊗◌, zero⁺, max_of}
use Rattle.number.specs.Table.{◌!◌, fill_at}
use Rattle.number.proofs.Table.{fill_self, fill_set, fill_at_lem, fill_at_ext}
use Rattle.em_ridge.specs.Ridge.{small, largest_to, ridged}

-- ---- the largest

pub largest_none : (n : ℕ) (a : List Float) → zero⁺ ≡ largest_to n a 0
unfolding largest_to
largest_none n a = refl

pub largest_more : (n : ℕ) (a : List Float) (i : ℕ) {s r : Float} → s ≡ largest_to n a i → r ≡ max_of s (a ! (i * n + i)) → r ≡ largest_to n a (i + 1)
unfolding largest_to
largest_more n a i e d = rw (add-one, ← e) d

-- ---- the ridge

-- place e where the rows before row i have the ridge
unfoldable pub ridged_to : ℕ → List Float → Float → ℕ → ℕ → Float
ridged_to n a scale i e = if e / n <? i then ridged n a scale e else (a ! e)

pub square_within : (n : ℕ) → n ≤ 16 → n * n ≤ 256
square_within n h = mul-le-mul h h

module _ (n : ℕ) (a : List Float) (scale : Float) where
  before : (i e : ℕ) → e / n < i → ridged_to n a scale i e ≡ ridged n a scale e
  unfolding ridged_to
  before i e h = rw (lt-ltb _ _ h)

  after : (i e : ℕ) → i ≤ e / n → ridged_to n a scale i e ≡ a ! e
  unfolding ridged_to
  after i e h = rw (le-ltb _ _ h)

  pub ridge_none : n * n ≤ length a → a ≡ fill_at 0 (ridged_to n a scale 0) (n * n) a
  ridge_none h = fill_self (n * n) a h ∙ fill_at_ext 0 _ (n * n) a _ (λ e _. sym (after 0 e (omega arith)))

  pub ridge_all : 0 < n → {m : List Float} → m ≡ fill_at 0 (ridged_to n a scale n) (n * n) a → m ≡ fill_at 0 (ridged n a scale) (n * n) a
  ridge_all pos d = d ∙ fill_at_ext 0 _ (n * n) a _ (λ e h. before n e ((div-lt_iff_lt-mul pos).1 h))

  module _ (i : ℕ) (h : i < n) where
    on : ridged n a scale (i * n + i) ≡ a ! (i * n + i) ⊕ small ⊗ scale
    unfolding ridged
    on = rw (digits_div i h, digits_mod i h, eq-eqb i i refl)

    off : (e : ℕ) → e / n ≡ i → e ≢ i * n + i → ridged n a scale e ≡ a ! e
    unfolding ridged
    off e d other =
        rw (ne_eqb (e / n) (e % n) (λ q. other (sym (div-add-mod' e n) ∙ rw (← q, d))))

    -- elsewhere row i more changes nothing
    same : (e : ℕ) → e ≢ i * n + i → ridged_to n a scale i e ≡ ridged_to n a scale (i + 1) e
    same e other =
        elim (dec_le (e / n) i) [
          | yes l ↦
              elim (dec_le i (e / n)) [
                | yes g ↦ (let q : e / n ≡ i = omega arith in after i e g ∙ sym (off e q other) ∙ sym (before (i + 1) e (omega arith)))
                | no g ↦ before i e (lt_of_not-le g) ∙ sym (before (i + 1) e (omega (arith, lt_of_not-le g)))
              ]
          | no l ↦ after i e (omega (arith, lt_of_not-le l)) ∙ sym (after (i + 1) e (omega (arith, lt_of_not-le l)))
        ]

    pub ridge_more : n * n ≤ length a → {m : List Float} → m ≡ fill_at 0 (ridged_to n a scale i) (n * n) a
        → set m (i * n + i) (m ! (i * n + i) ⊕ small ⊗ scale) ≡ fill_at 0 (ridged_to n a scale (i + 1)) (n * n) a
    ridge_more w {m} d =
        let b : i * n + i < n * n = digits_lt h h in
        let row : (i * n + i) / n ≡ i = digits_div i h in
        let was : m ! (i * n + i) ≡ a ! (i * n + i) = fill_at_lem _ (n * n) a d _ b ∙ after i _ (omega arith) in
        fill_set _ _ (n * n) a d (i * n + i) b w (rw was (sym on) ∙ sym (before (i + 1) _ (omega arith))) (λ e _. same e)
