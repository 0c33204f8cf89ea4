-- `root`: a number above zero, infinity, a zero with its sign, and NaN for the others.
use Rattle.std.proofs.Common.{◌≡◌, ℕ, ◌<◌, ◌≤◌, T, sym, ap, ◌∙◌, subst}
use lib.Ieee.{Float, binary64, fits, div, of_bits}
use lib.Ieee.Positive.{positive}
use Rattle.number.specs.Number.{float}
use Rattle.rounding.proofs.Pattern.{pattern}
use Rattle.root.specs.Root.{root_pattern, root_square, root_of}
use Rattle.root.proofs.Cases.{finite_above, infinite_above, is_zero, not_a_number, positive_pattern}
use Rattle.root.proofs.Theorem.{both, root_above_zero, root_positive}
use Rattle.root.proofs.root.Goals.{After-root_pattern, Start, Then-b-lt9218868437227405312}
use Rattle.root.proofs.root.Goals as goal

-- what owning an `f64` tells: the format holds it
held : (c : Start) → T (fits binary64 c.args.x)
held c = subst T (sym c.well_formed.0.1) tt

-- x is finite and above zero, and b is its pattern
above : (c : Then-b-lt9218868437227405312) → T (positive c.args.x)
above c = finite_above c.args.x c.if-x.true (subst (λ (n : ℕ). n < 0x7ff0_0000_0000_0000) c.pattern-b.ensures c.if-b-lt9218868437227405312.true)

number_of : (c : Then-b-lt9218868437227405312) → float c.pattern-b.result ≡ c.args.x
number_of c = ap float c.pattern-b.ensures ∙ (pattern c.args.x (held c.before.before.before) (above c)).is

result-of : (c : After-root_pattern) → float c.root_pattern.result ≡ root_of c.args.x
result-of c =
    let w = c.before in
    ap float (c.root_pattern.ensures ∙ ap (λ (z : Float). root_pattern (root_square z)) (number_of w)) ∙ sym (root_above_zero w.args.x (above w))

pub root_pattern-requires : goal.root_pattern-requires
root_pattern-requires c =
    (subst (λ (n : ℕ). 0 < n) (sym c.pattern-b.ensures) (pattern c.args.x (held c.before.before.before) (above c)).some, c.if-b-lt9218868437227405312.true)

pub float_from_bits-result : goal.float_from_bits-result
float_from_bits-result c =
    let w = c.before in
    let x = w.args.x in
    positive_pattern c.root_pattern.result (subst (λ (z : Float). T (positive z)) (sym (result-of c)) (root_positive x (held w.before.before.before) (above w)))

pub returns-then-b-lt9218868437227405312 : goal.returns-then-b-lt9218868437227405312
returns-then-b-lt9218868437227405312 c = both c.args.x (float c.root_pattern.result) (held c.before.before.before.before) (result-of c)

pub returns-then-x : goal.returns-then-x
returns-then-x c =
    let x = c.args.x in
    let f = held c.before.before.before in
    both x x f (infinite_above x f c.if-x.true (subst (λ (n : ℕ). 0x7ff0_0000_0000_0000 ≤ n) c.pattern-b.ensures c.if-b-lt9218868437227405312.false))

pub returns-then-x-2 : goal.returns-then-x-2
returns-then-x-2 c =
    let x = c.args.x in
    both x x (held c.before.before) (is_zero x c.if-x-2.true)

pub returns : goal.returns
unfolding div of_bits
returns c =
    let x = c.args.x in
    both x _ (held c.before.before) (not_a_number x c.if-x.false c.if-x-2.false)
