-- `text_model::shaped` keeps what Sizes says, by what the window count says of a shape that it counts.
use mathlib.Core.Path.{sym, ◌∙◌}
use Rattle.spec.specs.Spec.{spec_check, window_count}
use Rattle.refusal.proofs.Checks.{before_ok}
use Rattle.window.proofs.Shape.{order_at_most_7}
use Rattle.binding.proofs.Passed.{shape_of}
use Rattle.text_model.proofs.shaped.Goals as goal

pub invariant_of-result : goal.invariant_of-result
unfolding window_count
invariant_of-result c =
    let passed = (before_ok (spec_check _ _) (sym c.expanded_states.ensures ∙ c.in_ok-expanded_states.was)).0 in
    let shape = shape_of _ _ passed in
    record { room = (shape.high, order_at_most_7 _ _ shape.low shape.few) }
