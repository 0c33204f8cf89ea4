-- How many windows and rows a run has, and that its answer over so many rows is the filter's. Assumes nothing.
use Prim.Native.Nat.{ℕ, suc, ◌+◌, ◌-◌, ◌*◌, ◌^◌, ◌<◌, ◌≤◌}
use Rattle.std.specs.Prelude.{Result, Ok, Err}
use mathlib.Core.Path.{◌≡◌, refl, sym, ap, ◌∙◌}
use mathlib.Core.List.{List}
use native.Mathlib.Nat.{pow-suc, one-le-pow, mul-le-mul_right, one-mul, mul_comm}
use native.Mathlib.Omega.{arith}
use lib.ListN.{length}
use lib.Ieee.{Float}
use Rattle.refusal.specs.Checks.{each}
use Rattle.refusal.specs.declared.Refusal.{Refusal}
use Rattle.window.specs.declared.sizes.Sizes.{Sizes}
use Rattle.rows.specs.Rows.{windows_of}
use Rattle.params.specs.declared.MsarParams.{MsarParams}
use Rattle.params.specs.Parameters.{k, p}
use Rattle.prediction.specs.declared.Rule.{Rule}
use Rattle.filter.specs.Filter.{likelihood_check, loglik_to, filter_check, loglik_of, answer_after, filter_answer}

-- there are at least as many windows as regimes
pub regimes_within : (k p : ℕ) → 0 < k → k ≤ k ^ suc p
regimes_within k p h = let a = mul-le-mul_right k (one-le-pow p k h) in rw pow-suc (omega (arith, a, one-mul k))

-- what the sizes of the parameters' shape say of their windows and of k^p
module _ (q : MsarParams) (s : Sizes) (e : (s.k ≡ k q) × (s.order ≡ p q)) where
  pub windows_are : s.windows ≡ windows_of q
  windows_are = s.windows_value ∙ ap (λ (x : ℕ). x ^ suc s.order) e.0 ∙ ap (λ (x : ℕ). k q ^ suc x) e.1

  pub power_is : s.power ≡ k q ^ p q
  power_is = s.power_value ∙ ap (λ (x : ℕ). x ^ s.order) e.0 ∙ ap (λ (x : ℕ). k q ^ x) e.1

  pub counted : k q * s.power ≡ s.windows
  counted = ap (λ (x : ℕ). k q * x) power_is ∙ mul_comm (k q) (k q ^ p q) ∙ sym (pow-suc (k q) (p q)) ∙ sym windows_are

-- the answer is the filter's: refused by the start shares, or what n rows say
module _ (rule : Rule) (q : MsarParams) (y : List Float) where
  pub answer_refused : (r : Refusal) → Err r ≡ filter_answer rule q y (Err r)
  unfolding filter_answer
  answer_refused r = refl

  pub answer_of_rows : (n : ℕ) (shares : List Float) {a : Result Float Refusal} → p q + n ≡ length y
      → a ≡ answer_after (each n (likelihood_check rule q y shares)) (loglik_to rule q y shares n) → a ≡ filter_answer rule q y (Ok shares)
  unfolding filter_answer filter_check loglik_of
  answer_of_rows n shares rows e =
      let counted-rows : n ≡ length y - p q = omega arith in
      e ∙ ap (λ (j : ℕ). answer_after (each j (likelihood_check rule q y shares)) (loglik_to rule q y shares j)) counted-rows
