-- The checks in their order, taken together part by part, as the code makes them. Assumes nothing.
use Rattle.std.specs.Prelude.{Ok, Err}
use mathlib.Core.Path.{◌≡◌, refl}
use mathlib.Core.Bool.{not, ◌||◌}
use Prim.Native.Nat.{◌*◌, ◌≤◌, ◌<◌}
use borrow.Author.Tests.{lt-ltb, le-ltb}
use Rattle.number.specs.Number.{◌=?◌}
use Rattle.refusal.specs.Checks.{Check, Failed, ◌when◌, ◌before◌, each}
use Rattle.refusal.specs.declared.Refusal.TheVariants.{FewMeans, Beyond, Length, NoAr}
use Rattle.params.specs.declared.MsarParams.{MsarParams}
use Rattle.params.specs.Parameters.{k, p}
use Rattle.params.specs.Checks.{mean_check, entry_check, column_check, ar_check, variance_check, parameter_check}

pub before_assoc : (a b c : Check) → ((a before b) before c) ≡ (a before b before c)
before_assoc (Ok _) b c = refl
before_assoc (Err r) b c = refl

module _ (q : MsarParams) where
  pub few : k q < 2 → Failed (FewMeans (k q)) ≡ parameter_check q
  unfolding parameter_check
  few h = rw (lt-ltb _ _ h)

  pub many : 2 ≤ k q → 16 < k q → Failed (Beyond (k q)) ≡ parameter_check q
  unfolding parameter_check
  many h₁ h₂ = rw (le-ltb _ _ h₁, lt-ltb _ _ h₂)

  pub long : 2 ≤ k q → k q ≤ 16 → 7 < p q → Failed (Beyond (p q)) ≡ parameter_check q
  unfolding parameter_check
  long h₁ h₂ h₃ = rw (le-ltb _ _ h₁, le-ltb _ _ h₂, lt-ltb _ _ h₃)

  -- the counts are within the bounds
  pub record Sized : Type 0 where
    pub two : 2 ≤ k q
    pub sixteen : k q ≤ 16
    pub seven : p q ≤ 7

  pub in_parts : Sized → parameter_check q ≡ (each (k q) (mean_check q)
      before (Length (k q * k q) when not (q.transition_count =? k q * k q)
      before each (k q * k q) (entry_check q)
      before each (k q) (column_check q))
      before (NoAr when q.ar_blocks =? 0
      before Length (k q) when not (q.ar_blocks =? 1 || q.ar_blocks =? k q)
      before Length (q.ar_blocks * p q) when not (q.ar_count =? q.ar_blocks * p q)
      before each q.ar_count (ar_check q))
      before Length (k q) when not (q.variances_count =? 1 || q.variances_count =? k q)
      before each q.variances_count (variance_check q))
  unfolding parameter_check
  in_parts s = rw (le-ltb _ _ s.two, le-ltb _ _ s.sixteen, le-ltb _ _ s.seven) (simp before_assoc)
