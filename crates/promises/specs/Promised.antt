-- What is promised of an entry point: whatever the arguments of its type, it asks nothing, and its result and all lent memory at exit are those that
-- its definition gives. It is said of the contract's own clauses, as the checker reads them from the source, so a contract that says less or asks
-- anything does not meet it; and of the code, without a word on the contract. After document 01, "How much a contract says". NaN payloads are
-- outside: the definitions have one NaN.
use Rattle.std.specs.Prelude.{◌≡◌}
use seplogic.Ra.Ura.{Ura}
use base.Logic.{SProp, ent, emp}
use contract.Monad.{Fun, conj, fact}
use contract.Lifetimes.{Lfts}
use contract.Running.{Running}
use prog.Memory.{Memory}
use prog.Model.{Model}
use prog.Routine.{Routine}
use prog.Wired.{Code, Wired}
use mir.Syntax.{Callee}
use types.Logic.{Logic}
use denote.Triple.Entry.{Args, Res}
use denote.Triple.Clauses.{Ended, Clauses, Lasts, at_exit, closing}
use denote.Triple.Spec.{Meets}

-- T is a function's signature. For all lifetimes and arguments: a result, and for each parameter what it holds at exit, `tt` where it isn't lent by `&mut`
abbrev pub OutcomeOf : Ended → Type 0
OutcomeOf T = (κs : Lfts T.signature.lifetimes) (a : Args T.signature κs) → Res T.signature κs × Lasts T κs a

module _ {M : Type 1} (𝓤 : Ura M) (T : Ended) (c : Clauses 𝓤 T) where
  -- c is the function's contract: it asks nothing, and whatever meets it is the outcome
  pub record Exactly (outcome : OutcomeOf T) : Type 1 where
    -- whatever the arguments, `requires` follows from nothing, and what a contract may want named beside them is there to name
    pub named : (κs : Lfts T.signature.lifetimes) (a : Args T.signature κs) → (c κs a).ghost
    pub asks_nothing : (κs : Lfts T.signature.lifetimes) (a : Args T.signature κs) (g : (c κs a).ghost) → ent 𝓤 (emp 𝓤) ((c κs a).requires g)
    -- a result r and last values ws that satisfy `ensures` are those of the outcome
    pub gives : (κs : Lfts T.signature.lifetimes) (a : Args T.signature κs) (g : (c κs a).ghost) (r : Res T.signature κs) (ws : Lasts T κs a)
        → ent 𝓤 ((c κs a).ensures g r (at_exit T κs a ws)) (fact 𝓤 ((r ≡ (outcome κs a).0) × (ws ≡ (outcome κs a).1)))

  -- no second outcome: where `ensures` holds of two results and of two states of the lent memory at exit, they are the same
  abbrev pub OneOutcome : Type 1
  OneOutcome =
      (κs : Lfts T.signature.lifetimes) (a : Args T.signature κs) (g : (c κs a).ghost) (r r' : Res T.signature κs) (ws ws' : Lasts T κs a)
      → ent 𝓤 (conj 𝓤 ((c κs a).ensures g r (at_exit T κs a ws)) ((c κs a).ensures g r' (at_exit T κs a ws'))) (fact 𝓤 ((r ≡ r') × (ws ≡ ws')))

  -- the same of a call that meets `requires`, where the contract determines the outcome only there
  abbrev pub OneOutcomeAsked : Type 1
  OneOutcomeAsked =
      (κs : Lfts T.signature.lifetimes) (a : Args T.signature κs) (g : (c κs a).ghost) (r r' : Res T.signature κs) (ws ws' : Lasts T κs a)
      → ent 𝓤 (conj 𝓤 ((c κs a).requires g) (conj 𝓤 ((c κs a).ensures g r (at_exit T κs a ws)) ((c κs a).ensures g r' (at_exit T κs a ws')))) (fact 𝓤 ((r ≡ r') × (ws ≡ ws')))

-- the contract that asks nothing and gives an outcome
abbrev pub giving : {M : Type 1} (𝓤 : Ura M) (T : Ended) → OutcomeOf T → Clauses 𝓤 T
giving 𝓤 T outcome κs a =
    record {
      ghost = Unit {0};
      requires = λ g. emp 𝓤;
      ensures = λ g r e. fact 𝓤 ((r ≡ (outcome κs a).0) × (e ≡ at_exit T κs a (outcome κs a).1));
    }

-- a contract is stated over the logic's own parts, whatever they are
abbrev pub Contract : Type 1 → Ended → Type 2
Contract M T = (𝓤 : Ura M) → (𝓛 : Logic 𝓤) → (Memory → SProp 𝓤) → (Routine → Fun 𝓤) → Clauses 𝓤 T

-- what is promised of an entry point: T its type, as the statement names it, c its contract in the source, code the code of it and of all that it
-- calls, name the name that it has there
pub record EntryPoint (M : Type 1) (T : Ended) (c : Contract M T) (code : Code) (name : Callee) (outcome : OutcomeOf T) : Type 2 where
  -- by the clauses in the source it asks nothing and gives the outcome
  pub exactly : (𝓤 : Ura M) (𝓛 : Logic 𝓤) (mem : Memory → SProp 𝓤) (run : Routine → Fun 𝓤) → Exactly 𝓤 T (c 𝓤 𝓛 mem run) outcome
  -- no second outcome satisfies them
  pub one_outcome : (𝓤 : Ura M) (𝓛 : Logic 𝓤) (mem : Memory → SProp 𝓤) (run : Routine → Fun 𝓤) → OneOutcome 𝓤 T (c 𝓤 𝓛 mem run)
  -- and the code, wherever it is linked, called with what the types of its parameters own, returns with that outcome
  pub runs : (𝓤 : Ura M) (𝓛 : Logic 𝓤) (𝓜 : Model 𝓤 𝓛.H) (𝓡 : Running 𝓤 𝓛.H 𝓜)
      → Wired 𝓡.env code → Meets 𝓛 T.signature (𝓡.run (𝓡.env name)) (closing 𝓛 T (giving 𝓤 T outcome))
