-- The expected durations of the regimes: 1 / (1 - p_ii), +infinity where a regime is absorbing.
-- After Hamilton (1994), 22.2, and document 01: "`expected_durations` makes the parameter checks first".
use Rattle.std.specs.Prelude.{ℕ, List, replicate, Float, Result, Ok}
use Rattle.number.specs.Number.{◌⊖◌, ◌⊘◌, zero⁺, one}
use Rattle.number.specs.Table.{fill_at}
use Rattle.refusal.specs.declared.Refusal.{Refusal}
use Rattle.refusal.specs.Checks.{◌before◌}
use Rattle.params.specs.declared.MsarParams.{MsarParams}
use Rattle.params.specs.Parameters.{k, P}
use Rattle.params.specs.Checks.{parameter_check}

unfoldable pub duration : MsarParams → ℕ → Float
duration q i = one ⊘ (one ⊖ P q i i)

-- the durations of the first k of 16 places; the others are positive zero
abbrev pub sixteen : MsarParams → List Float
sixteen q = fill_at 0 (duration q) (k q) (replicate 16 zero⁺)

unfoldable pub durations_of : MsarParams → Result (List Float) Refusal
durations_of q = parameter_check q before Ok (sixteen q)
