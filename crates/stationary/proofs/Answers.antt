-- What is made of the solver's answer S. Assumes nothing.
use Rattle.std.specs.Prelude.{Result, Ok, Err}
use mathlib.Core.Path.{◌≡◌, refl, sym, ap, ◌∙◌}
use mathlib.Core.List.{List}
use Prim.Native.Nat.{ℕ}
use lib.Ieee.{Float}
use Rattle.refusal.specs.Checks.{◌before◌, each}
use Rattle.linsolve.specs.Solver.{solve_of, column_of}
use Rattle.refusal.specs.declared.Refusal.{Refusal}
use Rattle.refusal.specs.declared.Refusal.TheVariants.{Singular}
use Rattle.linsolve.specs.declared.Unsolved.{Unsolved}
use Rattle.stationary.specs.Stationary.{share_table, share_sides, share_check, after, solved_shares}

-- the solver's answer, with 21 for its refusal
abbrev pub named : Result (List Float) Unsolved → Result (List Float) Refusal
named (Ok x) = Ok x
named (Err why) = Err (Singular 0 (column_of why))

module _ (n : ℕ) (T a b : List Float) (ea : a ≡ share_table n T) (eb : b ≡ share_sides n) {S : Result (List Float) Unsolved} (es : S ≡ solve_of n a b) where
  is : solve_of n (share_table n T) (share_sides n) ≡ S
  is = ap (λ (x : List Float). solve_of n x (share_sides n)) (sym ea) ∙ ap (λ (y : List Float). solve_of n a y) (sym eb) ∙ sym es

  by : {o : Result (List Float) Unsolved} → S ≡ o → after n o ≡ solved_shares n T
  unfolding solved_shares
  by e = sym (ap (after n) is ∙ ap (after n) e)

  -- by the refusal that takes the place of the solver's
  module _ {m : Result (List Float) Refusal} (em : m ≡ named S) where
    pub was_unsolved : {r : Refusal} → m ≡ Err r → Err r ≡ solved_shares n T
    was_unsolved e = sym (go S (sym em ∙ e)) ∙ by refl
      where
        go : (s : Result (List Float) Unsolved) {r : Refusal} → named s ≡ Err r → after n s ≡ Err r
        go (Ok x) d = cc
        go (Err why) d = d

    pub was_solved : {x : List Float} → m ≡ Ok x → (each n (share_check x) before Ok x) ≡ solved_shares n T
    was_solved e = sym (go S (sym em ∙ e)) ∙ by refl
      where
        go : (s : Result (List Float) Unsolved) {x : List Float} → named s ≡ Ok x → after n s ≡ (each n (share_check x) before Ok x)
        go (Ok y) d = ap (λ (z : List Float). each n (share_check z) before Ok z) cc
        go (Err why) d = cc
