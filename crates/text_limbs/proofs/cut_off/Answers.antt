-- `text_limbs::cut_off` meets its contract: what is left stands in three limbs, and nothing wraps.
use Prim.Native.Nat.{ℕ}
use mathlib.Core.Path.{sym, ap, ◌∙◌}
use native.Mathlib.Omega.{arith}
use mathlib.Core.Bool.{not}
use lib.Dec.{eqb}
use borrow.Author.Tests.{ne_eqb}
use Rattle.text_limbs.proofs.Lowest.{parted}
use Rattle.text_limbs.proofs.Top.{all_are}
use Rattle.text_limbs.proofs.cut_off.Goals as goal

pub overflow_mul-whole : goal.overflow_mul-whole
overflow_mul-whole c =
    omega (arith, (parted _ _ _ c.args.n.now.small c.requires.0 c.two_to-p.ensures c.requires.1).whole, c.requires.1)

pub overflow_add-whole : goal.overflow_add-whole
overflow_add-whole c =
    omega (arith, (parted _ _ _ c.args.n.now.small c.requires.0 c.two_to-p.ensures c.requires.1).whole, c.requires.1)

pub returns-then-l-i-ne0 : goal.returns-then-l-i-ne0
returns-then-l-i-ne0 c =
    let k = parted _ _ _ c.args.n.now.small c.requires.0 c.two_to-p.ensures c.requires.1 in
    (k.whole, ap not (ne_eqb _ _ c.if-l-i-ne0.true) ∙ k.some c.if-l-i-ne0.true)

pub returns-else-l-i-ne0 : goal.returns-else-l-i-ne0
returns-else-l-i-ne0 c =
    let k = parted _ _ _ c.args.n.now.small c.requires.0 c.two_to-p.ensures c.requires.1 in
    (k.whole, ap not (all_are _ c.all_zero.result c.all_zero.ensures) ∙ ap (λ (x : ℕ). not (eqb x 0)) (sym (k.none c.if-l-i-ne0.false)))
