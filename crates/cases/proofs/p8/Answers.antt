-- `cases::p8`: P8: what the functions answer is the example's.
use Prim.Native.Nat.{ℕ, ◌+◌}
use mathlib.Core.Path.{sym, ap₂, ◌∙◌}
use native.Mathlib.Omega.{arith}
use borrow.Author.Rules.{rules}
use Rattle.number.proofs.Table.{fill_long}
use Rattle.cases.proofs.Values.{p8, within}
use Rattle.cases.proofs.p8.Goals as goal

-- the divided row is as long as it was
pub slice_bounds-copy-end : goal.slice_bounds-copy-end
slice_bounds-copy-end c = sym (fill_long _ 3 _ c.divide.ensures (search rules))

pub copy-requires : goal.copy-requires
copy-requires c = let long = fill_long _ 3 _ c.divide.ensures (search rules) in (omega (arith, long), search rules)

pub returns : goal.returns
returns c =
    within
    (ap₂ (λ (a b : ℕ). a + b) (ap₂ (λ (a b : ℕ). a + b) c.in_units.ensures.0 c.in_units-2.ensures.0) c.in_units-3.ensures.0
    ∙ p8 c.sum_of-total.ensures c.divide.ensures c.copy.ensures c.tabulate.ensures)
