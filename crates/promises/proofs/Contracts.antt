-- The laws on contracts: one that gives exactly an outcome has that one alone, and code that meets it runs with that outcome. Assumes nothing.
use mathlib.Core.Path.{◌≡◌, sym, ap, ◌∙◌}
use seplogic.Ra.Ura.{Ura}
use base.Logic.{SProp, ent, emp, sep, id⊢, via, mono_r, snd∗}
use contract.Monad.{Fun, conj, fact, fm→mono}
use contract.Conj.{conj_mono, conj_r}
use contract.Fact.{guard-conj, conj-guard, fact_i, fact_mono, fact_use, fact∗}
use contract.Lifetimes.{Lfts}
use contract.Running.{Running}
use prog.Memory.{Memory}
use prog.Model.{Model}
use prog.Routine.{Routine}
use prog.Wired.{Code, Wired}
use mir.Syntax.{Callee}
use types.Logic.{Logic, sem}
use denote.Triple.Entry.{Args, Res}
use denote.Triple.Clauses.{Ended, Clauses, Lasts, AtExit, at_exit, lasts, closing}
use denote.Triple.Spec.{Meets}
use denote.Triple.Table.{run_framed}
use denote.Triple.Weaken.{weaken_under}
use Rattle.promises.specs.Promised.{OutcomeOf, Exactly, OneOutcome, giving, Contract, EntryPoint}

-- two results that are equal to the same
pub one_outcome : {A : Type 0} {d r r' : A} → r ≡ d → r' ≡ d → r ≡ r'
one_outcome e e' = e ∙ sym e'

module _ {M : Type 1} (𝓤 : Ura M) where
  -- an `ensures` that is one fact
  pub says : {φ ψ : Type 0} → (φ → ψ) → ent 𝓤 (fact 𝓤 φ) (fact 𝓤 ψ)
  says {φ} {ψ} f = fact_mono 𝓤 φ ψ f

  -- two facts together
  pub both : {φ ψ χ : Type 0} → (φ → ψ → χ) → ent 𝓤 (conj 𝓤 (fact 𝓤 φ) (fact 𝓤 ψ)) (fact 𝓤 χ)
  both {φ} {ψ} {χ} f = guard-conj 𝓤 φ (emp 𝓤) (fact 𝓤 ψ) (λ x. conj-guard 𝓤 ψ (emp 𝓤) (emp 𝓤) (λ y. fact_i 𝓤 χ (conj 𝓤 (emp 𝓤) (emp 𝓤)) (f x y)))

  -- the same after a `requires`
  pub asked : {φ ψ ψ' χ : Type 0} → (φ → ψ → ψ' → χ) → ent 𝓤 (conj 𝓤 (fact 𝓤 φ) (conj 𝓤 (fact 𝓤 ψ) (fact 𝓤 ψ'))) (fact 𝓤 χ)
  asked {φ} {ψ} {ψ'} {χ} f =
      guard-conj 𝓤 φ (emp 𝓤) (conj 𝓤 (fact 𝓤 ψ) (fact 𝓤 ψ'))
      (λ x. via 𝓤 (conj 𝓤 (fact 𝓤 ψ) (fact 𝓤 ψ')) (conj_r 𝓤 (emp 𝓤) (conj 𝓤 (fact 𝓤 ψ) (fact 𝓤 ψ'))) (both (f x)))

  -- two clauses of one contract
  clauses : (φ ψ : Type 0) → ent 𝓤 (sep 𝓤 (fact 𝓤 φ) (fact 𝓤 ψ)) (fact 𝓤 (φ × ψ))
  clauses φ ψ = fact_use 𝓤 φ (fact∗ 𝓤 φ (fact 𝓤 ψ)) (λ x. via 𝓤 (fact 𝓤 ψ) (snd∗ 𝓤 (fact 𝓤 φ) (fact 𝓤 ψ)) (fact_mono 𝓤 ψ (φ × ψ) (λ y. (x, y))))

  pub both_clauses : {φ φ' ψ ψ' χ : Type 0} → (φ × φ' → ψ × ψ' → χ)
      → ent 𝓤 (conj 𝓤 (sep 𝓤 (fact 𝓤 φ) (fact 𝓤 φ')) (sep 𝓤 (fact 𝓤 ψ) (fact 𝓤 ψ'))) (fact 𝓤 χ)
  both_clauses {φ} {φ'} {ψ} {ψ'} f = via 𝓤 (conj 𝓤 (fact 𝓤 (φ × φ')) (fact 𝓤 (ψ × ψ'))) (conj_mono 𝓤 (clauses φ φ') (clauses ψ ψ')) (both f)

  -- a contract that gives exactly an outcome has that one alone
  pub exactly_one : {T : Ended} {c : Clauses 𝓤 T} {outcome : OutcomeOf T} → Exactly 𝓤 T c outcome → OneOutcome 𝓤 T c
  exactly_one x κs a g r r' ws ws' =
      via 𝓤 _ (conj_mono 𝓤 (x.gives κs a g r ws) (x.gives κs a g r' ws')) (both (λ e e'. (one_outcome e.0 e'.0, one_outcome e.1 e'.1)))

-- a routine that meets such a contract runs with that outcome
runs_so : {M : Type 1} {T : Ended} {outcome : OutcomeOf T} (𝓤 : Ura M) (𝓛 : Logic 𝓤) (𝓜 : Model 𝓤 𝓛.H) (𝓡 : Running 𝓤 𝓛.H 𝓜)
    {c : Clauses 𝓤 T} (ρ : Routine) → Exactly 𝓤 T c outcome
    → Meets 𝓛 T.signature (𝓡.run ρ) (closing 𝓛 T c) → Meets 𝓛 T.signature (𝓡.run ρ) (closing 𝓛 T (giving 𝓤 T outcome))
runs_so {T = T} {outcome = outcome} 𝓤 𝓛 𝓜 𝓡 {c} ρ x met =
    weaken_under 𝓛 T c (giving 𝓤 T outcome)
    (λ κs a g. x.named κs a)
    (λ κs a g. Unit {0})
    (λ κs a g. fact_i 𝓤 (Unit {0}) (emp 𝓤) tt)
    (λ κs a g φ. x.asks_nothing κs a (x.named κs a))
    (λ κs a g φ r ws. mono_r 𝓤 (sem 𝓛 (lasts T κs a ws)) (via 𝓤 (fact 𝓤 ((r ≡ (outcome κs a).0) × (ws ≡ (outcome κs a).1))) (x.gives κs a (x.named κs a) r ws) (says 𝓤 (λ e. (e.0, ap (at_exit T κs a) e.1)))))
    (𝓡.run ρ)
    (λ vs. fm→mono 𝓤 (𝓡.run ρ vs) (run_framed 𝓤 𝓛.H 𝓜 𝓡 ρ vs))
    met

-- the contract that asks nothing and ensures one fact P of the result and of the parameters at exit
abbrev ensuring : {M : Type 1} (T : Ended) → ((κs : Lfts T.signature.lifetimes) → Args T.signature κs → Res T.signature κs → AtExit T κs → Type 0) → Contract M T
ensuring T P 𝓤 𝓛 mem run κs a = record { ghost = Unit {0}; requires = λ g. emp 𝓤; ensures = λ g r e. fact 𝓤 (P κs a r e) }

-- an entry point, from what its `ensures` says of a result r and last values ws, and from the function's own proof
pub entry_point : {M : Type 1} {T : Ended} {P : (κs : Lfts T.signature.lifetimes) → Args T.signature κs → Res T.signature κs → AtExit T κs → Type 0} {code : Code} {name : Callee} {outcome : OutcomeOf T}
    → ((κs : Lfts T.signature.lifetimes) (a : Args T.signature κs) (r : Res T.signature κs) (ws : Lasts T κs a) → P κs a r (at_exit T κs a ws) → (r ≡ (outcome κs a).0) × (ws ≡ (outcome κs a).1))
    → ((𝓤 : Ura M) (𝓛 : Logic 𝓤) (𝓜 : Model 𝓤 𝓛.H) (𝓡 : Running 𝓤 𝓛.H 𝓜)
    → Wired 𝓡.env code → Meets 𝓛 T.signature (𝓡.run (𝓡.env name)) (closing 𝓛 T (ensuring T P 𝓤 𝓛 𝓜.mem 𝓡.returns)))
    → EntryPoint M T (ensuring T P) code name outcome
entry_point {M} {T} {P} {code} {name} {outcome} says_so met =
    let exactly : (𝓤 : Ura M) (𝓛 : Logic 𝓤) (mem : Memory → SProp 𝓤) (run : Routine → Fun 𝓤) → Exactly 𝓤 T (ensuring T P 𝓤 𝓛 mem run) outcome =
    λ 𝓤 𝓛 mem run. record { named = λ κs a. tt; asks_nothing = λ κs a g. id⊢ 𝓤 (emp 𝓤); gives = λ κs a g r ws. says 𝓤 (says_so κs a r ws) } in
    record {
      exactly = exactly;
      one_outcome = λ 𝓤 𝓛 mem run. exactly_one 𝓤 (exactly 𝓤 𝓛 mem run);
      runs = λ 𝓤 𝓛 𝓜 𝓡 w. runs_so 𝓤 𝓛 𝓜 𝓡 (𝓡.env name) (exactly 𝓤 𝓛 𝓜.mem 𝓡.returns) (met 𝓤 𝓛 𝓜 𝓡 w);
    }
