use Prim.Native.Nat.{ℕ, ◌^◌}
use mathlib.Core.Path.{subst}
use Rattle.text_limbs.specs.Remains.{CutBy}
use Rattle.text_limbs.specs.Limbs.{value}
use Rattle.text_limbs.proofs.Tens.{ten_pos}
use Rattle.text_decimal_read.proofs.reading.quotient.Goals as goal

pub returns : goal.returns
returns c =
    let r = c.divide-rest in
    let a = c.args in
    c.rounded.ensures a.digits (10 ^ a.e) (ten_pos a.e)
    (subst (λ (z : ℕ). CutBy z (10 ^ a.e) (value r.new.n.limbs) r.result) c.placed-l.ensures (record { whole = r.ensures.0; left = r.ensures.1 }))
