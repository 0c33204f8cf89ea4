-- `matches_spec`: the four comparisons of the definition.
use mathlib.Core.Path.{◌≡◌, ap, ◌∙◌, refl}
use mathlib.Core.Bool.{Bool, true, false, ◌&&◌, beq}
use Rattle.std.specs.Prelude.{eqb}
use Rattle.spec.specs.declared.MsarSpec.{MsarSpec}
use Rattle.params.specs.Parameters.{matches_spec}
use Rattle.params.proofs.MsarParams.matches_spec.Goals as goal

-- two specs compared as the derived equality does
abbrev same : MsarSpec → MsarSpec → Bool
same a b = eqb a.k_regimes b.k_regimes && (eqb a.order b.order && (beq a.switching_ar b.switching_ar && beq a.switching_variance b.switching_variance))

left : (a b : MsarSpec) → same a b ≡ (eqb a.k_regimes b.k_regimes && eqb a.order b.order && beq a.switching_ar b.switching_ar && beq a.switching_variance b.switching_variance)
left a b = go (eqb a.k_regimes b.k_regimes) (eqb a.order b.order) _ _
  where
    go : (a b c d : Bool) → (a && (b && (c && d))) ≡ (a && b && c && d)
    go true true c d = refl
    go true false c d = refl
    go false b c d = refl

pub returns : goal.returns
unfolding matches_spec
returns c = c.eq.ensures ∙ ap (λ (w : MsarSpec). same w c.args.s) c.shape.ensures ∙ left _ c.args.s
