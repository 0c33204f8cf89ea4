-- `readings`: 6 at the first reading that is not finite, or none.
use mathlib.Core.Path.{◌≡◌, refl}
use mathlib.Core.List.{List}
use Prim.Native.Nat.{ℕ, ◌≤◌, ◌<◌}
use lib.Ieee.{Float}
use Rattle.number.specs.Table.{◌!◌}
use Rattle.number.specs.Tests.{holds, first_not}
use Rattle.number.specs.declared.Test.TheVariants.{Finite}
use Rattle.refusal.specs.Checks.{Passed, Failed, each}
use Rattle.refusal.specs.declared.Refusal.TheVariants.{Reading}
use Rattle.refusal.proofs.Each.{each_first}
use Rattle.binding.specs.Binding.{reading_check, readings_check}
use Rattle.binding.proofs.readings.Goals as goal

reading-first : (y : List Float) {n i : ℕ} → i ≡ first_not (λ j. holds Finite (y ! j)) n
    → (i < n → Failed (Reading i) ≡ each n (reading_check y)) × (n ≤ i → Passed ≡ each n (reading_check y))
unfolding reading_check holds
reading-first y = each_first _ Reading (reading_check y) (λ j. refl) _

pub returns-then-i-n : goal.returns-then-i-n
unfolding readings_check
returns-then-i-n c = (reading-first _ c.first_failing-i.ensures).0 c.if-i-n.true

pub returns : goal.returns
unfolding readings_check
returns c = (reading-first _ c.first_failing-i.ensures).1 c.if-i-n.false
