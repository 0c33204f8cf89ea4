-- What is proved of the definitions themselves, so that a reader has to believe less of them: that the root is the nearest number, that a number comes
-- back from its decimal, that parameters once built pass again, which column the solver names, and demand 1's "A fit runs at most max_iter passes".
-- After documents 00, 01 and 02.
use Rattle.std.specs.Prelude.{◌≡◌, List, false, ℕ, ◌^◌, ◌≤◌, T, take, Float, Ok, Err}
use Rattle.std.specs.Float.{binary64}
use Rattle.std.specs.Float.Ieee.{fits}
use Rattle.std.specs.Float.Ieee.Exact.{HasValue}
use Rattle.root.specs.Root.{IsRoot, root_of}
use Rattle.refusal.specs.Refusals.{said}
use Rattle.refusal.specs.Checks.{Passed}
use Rattle.refusal.specs.declared.Refusal.TheVariants.{Singular}
use Rattle.linsolve.specs.Solver.{system, solve_of, FirstSmall}
use Rattle.linsolve.specs.declared.Unsolved.TheVariants as unsolved
use Rattle.spec.specs.declared.MsarSpec.{MsarSpec}
use Rattle.params.specs.declared.MsarParams.{MsarParams}
use Rattle.params.specs.Checks.{parameter_check}
use Rattle.params.specs.Built.{built_of}
use Rattle.fit.specs.Calls.{fit_call}
use Rattle.fit.specs.declared.Fitted.{Fitted}
use Rattle.text_decimal_read.specs.Text.{read_of}
use Rattle.text_decimal_write.specs.Decimals.{written_of}

pub record Meanings : Type 0 where
  -- `root_of x` is the root of x by IEEE 754's sentence, and no other binary64 is
  pub root_is : (x : Float) → T (fits binary64 x) → IsRoot x (root_of x)
  pub root_alone : (x r r' : Float) → T (fits binary64 x) → T (fits binary64 r) → T (fits binary64 r') → IsRoot x r → IsRoot x r' → r ≡ r'
  -- reading the bytes that were written of x gives x
  pub round_trip : (x : Float) → T (fits binary64 x) → read_of (take (written_of x).length (written_of x).bytes) ≡ Ok x
  -- a record that was built passes the checks again
  pub built_again : (q built : MsarParams) → built_of q ≡ Ok built → parameter_check built ≡ Passed
  -- the column that the solver names is the first whose pivot has a magnitude below 1e-300, and where there is one it is named
  pub first_column : (n : ℕ) (a b : List Float) (c : ℕ) → solve_of n a b ≡ Err (unsolved.Singular c) → FirstSmall n (system a b) n c
  pub names_column : (n : ℕ) (a b : List Float) (c : ℕ) → n ≤ 16 → FirstSmall n (system a b) n c → solve_of n a b ≡ Err (unsolved.Singular c)
  -- and what a refusal 21 carries as its value is exactly c, c / 1: a column is below n, and n at most 16
  pub exact_column : (which c : ℕ) → c ≤ 2 ^ 53 → HasValue (said (Singular which c)).value false c 1
  -- the iterations that a fit tells, which are the passes begun in its loop, are at most those allowed
  pub passes : (S : MsarSpec) (y : List Float) (start : MsarParams) (maxIter : ℕ) (tol : Float) (work smoothed : List Float)
      (fitted : Fitted) → (fit_call S y start maxIter tol work smoothed).answer ≡ Ok fitted → fitted.iterations ≤ maxIter
