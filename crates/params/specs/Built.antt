-- The record that the constructor builds: the given parameters once they pass the checks, with positive zero in the places that are not used.
-- After document 01, "Refusals by number": unused places of fixed arrays are zero.
use Rattle.std.specs.Prelude.{ℕ, List, replicate, Float, Result, Ok}
use Rattle.number.specs.Number.{zero⁺}
use Rattle.number.specs.Table.{◌!◌, fill_at}
use Rattle.refusal.specs.declared.Refusal.{Refusal}
use Rattle.refusal.specs.Checks.{◌before◌}
use Rattle.params.specs.declared.MsarParams.{MsarParams}
use Rattle.params.specs.Checks.{parameter_check}

-- so many places of which the first n are l's, the others positive zero
abbrev pub tidied : ℕ → ℕ → List Float → List Float
tidied places n l = fill_at 0 (λ i. l ! i) n (replicate places zero⁺)

unfoldable pub tidy : MsarParams → MsarParams
tidy q =
    record {
      transition = tidied 256 q.transition_count q.transition;
      means = tidied 16 q.means_count q.means;
      ar = tidied 112 q.ar_count q.ar;
      variances = tidied 16 q.variances_count q.variances;
      means_count = q.means_count;
      transition_count = q.transition_count;
      ar_blocks = q.ar_blocks;
      order = q.order;
      ar_count = q.ar_count;
      variances_count = q.variances_count;
    }

unfoldable pub built_of : MsarParams → Result MsarParams Refusal
built_of q = parameter_check q before Ok (tidy q)
