-- `weight` meets its contract: the exponent is below the count of groups.
use Rattle.std.proofs.Common.{rules, ◌<◌}
use native.Mathlib.Omega.{arith}
use Rattle.msar_start_groups.proofs.Powers.{weight_small}
use Rattle.msar_start_groups.proofs.sizes.Sizes.weight.Goals as goal
use Rattle.msar_start_groups.proofs.sizes.Sizes.weight.Goals.{then-self, else-self}

pub pow-requires : goal.pow-requires
pow-requires c =
    let few : c.if-self.e < 16 = elim c.if-self.branch [ then-self w ↦ search rules | else-self w ↦ search rules ] in
    omega (arith, weight_small _ _ c.args.self.bounded.2 few)

pub returns : goal.returns
returns c =
    let few : c.if-self.e < 16 = elim c.if-self.branch [ then-self w ↦ search rules | else-self w ↦ search rules ] in
    omega (arith, c.pow.ensures, weight_small _ _ c.args.self.bounded.2 few)
