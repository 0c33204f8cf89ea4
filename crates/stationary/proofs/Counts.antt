-- Parameters that pass their checks have from 2 to 16 regimes. Assumes nothing.
use mathlib.Core.Path.{◌≡◌}
use mathlib.Core.Logic.{inl, inr}
use Prim.Native.Nat.{ℕ, ◌<◌, ◌≤◌}
use native.Mathlib.Omega.{arith}
use borrow.Author.Tests.{lt-ltb, le-ltb}
use Rattle.rounding.proofs.Choose.{le_or_lt}
use Rattle.refusal.specs.declared.Refusal.{Refusal}
use Rattle.refusal.specs.declared.Refusal.TheVariants.{FewMeans, Beyond}
use Rattle.refusal.specs.Checks.{Check, Passed, Failed}
use Rattle.params.specs.Parameters.{k}
use Rattle.params.specs.Checks.{parameter_check}
use Rattle.params.specs.declared.MsarParams.{MsarParams}

not_both : {c : Check} {r : Refusal} → c ≡ Passed → c ≡ Failed r → ⊥
not_both p f = let z : ◌≡◌ {A = ℕ} 0 1 = cc in omega arith

few_fails : (q : MsarParams) → k q < 2 → parameter_check q ≡ Failed (FewMeans (k q))
unfolding parameter_check
few_fails q h = rw (lt-ltb (k q) 2 h)

many_fails : (q : MsarParams) → 2 ≤ k q → 16 < k q → parameter_check q ≡ Failed (Beyond (k q))
unfolding parameter_check
many_fails q l h = rw (le-ltb (k q) 2 l, lt-ltb 16 (k q) h)

pub record Counted (n : ℕ) : Type 0 where
  pub from : 2 ≤ n
  pub within : n ≤ 16

pub counted : (q : MsarParams) → parameter_check q ≡ Passed → Counted (k q)
counted q p = elim (le_or_lt 2 (k q)) [
  | inl l ↦ record { from = l; within = elim (le_or_lt (k q) 16) [ inl m ↦ m | inr g ↦ absurd (not_both p (many_fails q l g)) ] }
  | inr g ↦ absurd (not_both p (few_fails q g))
]
