-- What the arrays of the C interface stand for: parameters as six counts and 400 numbers, an answer as four whole numbers and two others.
-- After include/msar.h, which says the same in C, and document 01, "Refusals by number".
use Rattle.std.specs.Prelude.{ℕ, ◌+◌, Bool, true, false, List, [], ◌∷◌, get_or, replicate, Float, Result, Ok, Err}
use Rattle.number.specs.Number.{zero⁺}
use Rattle.number.specs.Table.{◌!◌, tab, fill_at}
use Rattle.refusal.specs.Refusals.{said}
use Rattle.refusal.specs.declared.Refusal.{Refusal}
use Rattle.refusal.specs.Checks.{Check, Passed, Failed, check_of}
use Rattle.params.specs.declared.MsarParams.{MsarParams}
use Rattle.fit.specs.declared.Fitted.{Fitted}

-- ---- what is handed in

-- n numbers from place s on
abbrev pub part : ℕ → ℕ → List Float → List Float
part s n numbers = tab (λ i. numbers ! (s + i)) n

-- six counts and 400 numbers: the transition table, the means, the AR coefficients, the variances
unfoldable pub params_of : List ℕ → List Float → MsarParams
params_of counts numbers =
    record {
      transition = part 0 256 numbers;
      means = part 256 16 numbers;
      ar = part 272 112 numbers;
      variances = part 384 16 numbers;
      means_count = get_or counts 0 0;
      transition_count = get_or counts 1 0;
      ar_blocks = get_or counts 2 0;
      order = get_or counts 3 0;
      ar_count = get_or counts 4 0;
      variances_count = get_or counts 5 0;
    }

-- ---- how an answer is spelled

-- refusal number, place, iterations, converged; and the refusal's value, the log-likelihood. Number 0 is an answer
pub record Spelled : Type 0 where
  pub whole : List ℕ
  pub real : List Float

-- a call without iterations, answered with a place and a log-likelihood
abbrev pub spelled : Check → ℕ → Float → Spelled
spelled Passed place loglik = record { whole = 0 ∷ place ∷ 0 ∷ 0 ∷ []; real = zero⁺ ∷ loglik ∷ [] }
spelled (Failed r) place loglik = record { whole = (said r).number ∷ (said r).place ∷ 0 ∷ 0 ∷ []; real = (said r).value ∷ zero⁺ ∷ [] }

-- the place is the number of windows
abbrev pub windows_spelled : Result ℕ Refusal → Spelled
windows_spelled (Ok m) = spelled Passed m zero⁺
windows_spelled (Err r) = spelled (Failed r) 0 zero⁺

-- a log-likelihood alone
abbrev pub loglik_spelled : Result Float Refusal → Spelled
loglik_spelled (Ok loglik) = spelled Passed 0 loglik
loglik_spelled (Err r) = spelled (Failed r) 0 zero⁺

-- ---- an answer of 16 numbers

pub record Listed : Type 0 where
  pub values : List Float
  pub whole : List ℕ
  pub real : List Float

-- a refusal leaves the 16 as found
abbrev pub values_after : Result (List Float) Refusal → List Float → List Float
values_after (Ok values) found = values
values_after (Err r) found = found

unfoldable pub listed : Result (List Float) Refusal → List Float → Listed
listed answer found =
    let told = spelled (check_of answer) 0 zero⁺ in
    record { values = values_after answer found; whole = told.whole; real = told.real }

-- ---- a fit: its parameters too, laid out as they are handed in

-- from 0 on the transition table, from 256 on the means, from 272 on the AR coefficients, from 384 on the variances
unfoldable pub laid_out : MsarParams → List Float
laid_out q =
    fill_at 384 (λ i. q.variances ! i) 16
    (fill_at 272 (λ i. q.ar ! i) 112
    (fill_at 256 (λ i. q.means ! i) 16
    (fill_at 0 (λ i. q.transition ! i) 256 (replicate 400 zero⁺))))

abbrev pub flag : Bool → ℕ
flag true = 1
flag false = 0

-- a fit that was answered also says its iterations, and 1 where it converged
abbrev pub fit_spelled : Result Fitted Refusal → Spelled
fit_spelled (Ok f) = record { whole = 0 ∷ 0 ∷ f.iterations ∷ flag f.converged ∷ []; real = zero⁺ ∷ f.loglik ∷ [] }
fit_spelled (Err r) = spelled (Failed r) 0 zero⁺

-- a refusal leaves the 400 numbers as found
abbrev pub numbers_after : Result Fitted Refusal → List Float → List Float
numbers_after (Ok f) found = laid_out f.params
numbers_after (Err r) found = found
