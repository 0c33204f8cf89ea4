-- The checks of what a caller hands in: a series of T readings under a spec, the lengths of the memory that is lent, the rule number, and the
-- parameters under the spec.
-- Which of these lengths a call asks for stands with the call.
-- After document 01, "Refusals by number", 1 to 7 and 20, "Order for a model call", and "Bounds set by the port"; of work memory document 02, Q-8, of the rule Q-5.
use Rattle.std.specs.Prelude.{ℕ, suc, ◌+◌, ◌-◌, ◌*◌, ◌^◌, not, ◌||◌, List, length, Float, Result, Ok}
use Rattle.std.specs.Float.Ieee.Scale.{finite}
use Rattle.number.specs.Number.{◌<?◌, ◌≤?◌, ◌=?◌}
use Rattle.number.specs.Table.{◌!◌}
use Rattle.refusal.specs.Checks.{Check, ◌when◌, ◌before◌, each}
use Rattle.refusal.specs.declared.Refusal.{Refusal}
use Rattle.refusal.specs.declared.Refusal.TheVariants.{ShortSeries, LongSeries, Reading, Memory, OtherRule, Shape}
use Rattle.spec.specs.Spec.{spec_check}
use Rattle.spec.specs.declared.MsarSpec.{MsarSpec}
use Rattle.params.specs.declared.MsarParams.{MsarParams}
use Rattle.params.specs.Parameters.{matches_spec}
use Rattle.params.specs.Checks.{parameter_check}
use Rattle.binding.specs.declared.Bound.{Bound}

-- ---- the series

-- 6 at the first reading that is not finite
unfoldable pub reading_check : List Float → ℕ → Check
reading_check y i = Reading i when not (finite (y ! i))

unfoldable pub readings_check : List Float → Check
readings_check y = each (length y) (reading_check y)

-- 4 and 5
unfoldable pub length_check : ℕ → ℕ → Check
length_check p T = ShortSeries (p + 1) when T ≤? p before LongSeries T when 4096 <? T

-- 1 to 6
unfoldable pub bound_check : MsarSpec → List Float → Check
bound_check S y =
    spec_check S.k_regimes S.order
    before length_check S.order (length y)
    before readings_check y

-- with it the counts that a call works with: n = T - p rows, m = k^(p + 1) windows, k^p
unfoldable pub bound_of : MsarSpec → List Float → Result Bound Refusal
bound_of S y =
    bound_check S y
    before Ok (record { rows = length y - S.order; windows = S.k_regimes ^ suc S.order; power = S.k_regimes ^ S.order })

-- ---- lent memory

-- numbers of work memory: n · m + 256 for `loglike` and `filter`, 2 · n · m for `smooth` and `fit`
abbrev pub filter_need : MsarSpec → List Float → ℕ
filter_need S y = (length y - S.order) * S.k_regimes ^ suc S.order + 256

abbrev pub smooth_need : MsarSpec → List Float → ℕ
smooth_need S y = 2 * ((length y - S.order) * S.k_regimes ^ suc S.order)

-- n · k numbers of each table
abbrev pub table_need : MsarSpec → List Float → ℕ
table_need S y = (length y - S.order) * S.k_regimes

-- 7 where less is lent than needed
abbrev pub memory_check : ℕ → ℕ → Check
memory_check lent needed = Memory needed when lent <? needed

-- ---- the rule

-- 29 where its number is neither 1 nor 2
unfoldable pub rule_check : ℕ → Check
rule_check number = OtherRule when not (number =? 1 || number =? 2)

-- ---- the parameters on themselves, then against the spec

unfoldable pub params_check : MsarSpec → MsarParams → Check
params_check S q = parameter_check q before Shape when not (matches_spec S q)

-- ---- what a caller hands in: the series under its spec, then what the call itself has to check, then the parameters

unfoldable pub admitted_check : MsarSpec → List Float → Check → MsarParams → Check
admitted_check S y own q = bound_check S y before own before params_check S q
