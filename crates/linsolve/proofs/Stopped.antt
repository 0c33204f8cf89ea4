-- The column at which elimination stops is the first whose pivot is too small, and where there is such a column it stops there. Assumes nothing.
use Rattle.std.specs.Prelude.{if◌then◌else◌, Ok, Err}
use Prim.Native.Nat.{ℕ, zero, suc, ◌≤◌}
use mathlib.Core.Path.{◌≡◌, refl, subst, ◌∙◌}
use mathlib.Core.Bool.{Bool, true, false}
use mathlib.Core.List.{List}
use native.Mathlib.Omega.{arith}
use borrow.Author.Tests.{le-ltb}
use lib.Ieee.{Float}
use Rattle.number.specs.Number.{◌<?◌}
use Rattle.linsolve.specs.Solver.{System, system, Elimination, cleared, stopped_at, is_small, column, and_then, eliminate_to, answer, solve_of, FirstSmall}
use Rattle.linsolve.specs.declared.Unsolved.TheVariants.{Singular, TooLarge}
use Rattle.linsolve.proofs.Steps.{stays_stopped}

module _ (n : ℕ) (S : System) where
  -- column d of what was left, by whether its pivot is too small
  here : (d c : ℕ) (T : System) (b : Bool) → is_small n d T ≡ b → eliminate_to n S d ≡ cleared T → column n d T ≡ stopped_at c → FirstSmall n S (suc d) c
  unfolding column
  here d c T true t w e =
      let q : d ≡ c = cc in
      record { within = omega (arith, q); left = T; before = subst (λ (x : ℕ). eliminate_to n S x ≡ cleared T) q w; small = subst (λ (x : ℕ). is_small n x T ≡ true) q t }
  here d c T false t w e = let z : ◌≡◌ {A = ℕ} 0 1 = cc in absurd (omega arith)

  -- column d once more, where the law holds of those before it
  one_more : (d c : ℕ) → (eliminate_to n S d ≡ stopped_at c → FirstSmall n S d c) → (E : Elimination) → eliminate_to n S d ≡ E
      → and_then E (column n d) ≡ stopped_at c
      → FirstSmall n S (suc d) c
  one_more d c law (Ok T) w e = here d c T (is_small n d T) refl w e
  one_more d c law (Err x) w e =
      let o = law (w ∙ e) in record { within = omega (arith, o.within); left = o.left; before = o.before; small = o.small }

  pub stopped_first : (d c : ℕ) → eliminate_to n S d ≡ stopped_at c → FirstSmall n S d c
  unfolding eliminate_to
  stopped_first zero c e = let z : ◌≡◌ {A = ℕ} 0 1 = cc in absurd (omega arith)
  stopped_first (suc d) c e = one_more d c (stopped_first d c) (eliminate_to n S d) refl e

  pub first_stopped : (d c : ℕ) → FirstSmall n S d c → eliminate_to n S d ≡ stopped_at c
  unfolding eliminate_to column
  first_stopped d c o = stays_stopped n S c d o.within (rw (o.before, o.small))

-- ---- the same of what the solver answers

module _ (n c : ℕ) where
  answer_named : (E : Elimination) → answer n E ≡ Err (Singular c) → E ≡ stopped_at c
  unfolding answer
  answer_named (Ok S) e = let z : ◌≡◌ {A = ℕ} 0 1 = cc in absurd (omega arith)
  answer_named (Err x) e = cc

  module _ (a b : List Float) where
    outcome_named : (t : Bool) → (if t then Err TooLarge else answer n (eliminate_to n (system a b) n)) ≡ Err (Singular c) → FirstSmall n (system a b) n c
    outcome_named true e = let z : ◌≡◌ {A = ℕ} 0 1 = cc in absurd (omega arith)
    outcome_named false e = stopped_first n (system a b) n c (answer_named (eliminate_to n (system a b) n) e)

    pub solve_named : solve_of n a b ≡ Err (Singular c) → FirstSmall n (system a b) n c
    unfolding solve_of
    solve_named e = outcome_named (16 <? n) e

    pub solve_names : n ≤ 16 → FirstSmall n (system a b) n c → solve_of n a b ≡ Err (Singular c)
    unfolding solve_of answer
    solve_names h o = rw (le-ltb 16 n h, first_stopped n (system a b) n c o)
