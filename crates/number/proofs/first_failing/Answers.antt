-- `first_failing`: what `position` finds, or n.
use Rattle.std.proofs.Common.{rules, tests}
use mathlib.Core.Path.{◌≡◌, ◌∙◌}
use mathlib.Core.Bool.{true, false}
use Rattle.std.proofs.lemmas.Iterator.{YieldsList-from_slice, IsFirst-from_position}
use Rattle.number.specs.Tests.{holds}
use Rattle.number.proofs.First.{first_by_position}
use Rattle.number.proofs.first_failing.Goals as goal

pub returns : goal.returns
returns c =
    let first = IsFirst-from_position _ _ c.position.result (λ y. holds c.args.test y ≡ false) (λ y. holds c.args.test y ≡ true) c.position.ensures.ran (YieldsList-from_slice _ c.iter.ensures.rest) (λ x q k. search (rules, tests)) (λ x q k. search (rules, tests)) in
    c.unwrap_or.ensures ∙ first_by_position (holds c.args.test) _ _ c.requires _ first
