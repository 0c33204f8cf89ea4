use Rattle.std.proofs.Common.{◌≡◌, ℕ, ◌-◌, ◌*◌, ◌/◌, ◌^◌, ap, sym, ◌∙◌, arith}
use Rattle.text_limbs.proofs.Tens.{lowered_last, left_at}
use Rattle.text_limbs.proofs.ten.divide.Goals as goal

pub returns : goal.returns
returns c =
    let last : c.loop.counter ≡ c.args.e / 9 = omega arith in
    let power : c.power.result ≡ 10 ^ (c.args.e - 9 * c.loop.counter) = c.power.ensures ∙ ap (λ (n : ℕ). 10 ^ n) (sym (left_at c.args.e c.loop.counter last)) in
    let h = lowered_last _ _ _ _ _ _ _ _ c.loop.invariant power c.over-r-2.ensures.0 c.over-r-2.ensures.1 in
    (h.whole, h.left)
