use mathlib.Core.Path.{ap, ◌∙◌}
use Prim.Native.Nat.{ℕ, ◌-◌}
use Rattle.text_limbs.specs.Limbs.{value}
use Rattle.text_decimal_read.proofs.Nearby.{cut_fits}
use Rattle.text_decimal_read.proofs.reading.rounded.Goals as goal

pub cut_off-c-requires : goal.cut_off-c-requires
cut_off-c-requires c =
    let h = cut_fits (value c.args.l.now.limbs) c.saturating_sub-k.result c.requires (c.saturating_sub-k.ensures ∙ ap (λ (z : ℕ). z - 67) c.digits.ensures) in
    (h.0, h.1)
