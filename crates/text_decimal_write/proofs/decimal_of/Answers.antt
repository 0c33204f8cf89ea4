-- `text_decimal_write::decimal_of` meets its contract: the tens are as guessed where there are 17 digits before the point, and one more where
-- there are 18.
use Prim.Native.Nat.{ℕ, ◌*◌, ◌-◌, ◌^◌, ◌<◌, ◌≤◌}
use mathlib.Core.Path.{sym, ap, subst, ◌∙◌}
use native.Mathlib.Omega.{arith}
use lib.Ieee.{size}
use lib.Ieee.Digits.{size-le}
use Rattle.text_limbs.specs.Remains.{CutBy}
use Rattle.text_decimal_write.specs.Decimals.{over}
use Rattle.text_decimal_write.specs.Room.{guess_of}
use Rattle.text_decimal_write.proofs.First.{Guessed, guessed}
use Rattle.text_decimal_write.proofs.Seventeen.{Scaled, units_some, units_few, whole_fits, first_fits, second_fits, as_guessed, one_more}
use mathlib.Core.Bool.{Bool}
use mathlib.Core.Path.{◌≡◌}
use Rattle.text_limbs.specs.Limbs.{value}
use Rattle.text_decimal_write.proofs.decimal_of.Goals.{After-scale-rest}
use Rattle.text_decimal_write.proofs.decimal_of.Goals as goal

units-low : (sig place : ℕ) → sig < 2 ^ 53 → place < 2046 → sig * 2 ^ place < 2 ^ 2098
units-low sig place few low = units_few sig place few low

known : (sig place : ℕ) {t z v : ℕ} → 0 < sig → sig < 2 ^ 53 → place < 2046 → t ≡ guess_of z → z ≡ size v → v ≡ sig * 2 ^ place → Guessed (sig * 2 ^ place) t
known sig place some few low g s v =
    subst (λ (t : ℕ). Guessed (sig * 2 ^ place) t)
    (sym (g ∙ ap guess_of (s ∙ ap size v)))
    (guessed (sig * 2 ^ place) (units_some sig place some) (units-low sig place few low))

scaled : {u t v w : ℕ} {r : Bool} → Guessed u t → v ≡ u → CutBy (over v t) (10 ^ (t - 340)) w r → Scaled u t w r
scaled {u} {t} {v} {w} {r} g e cut = record {
  guess = g;
  cut = subst (λ (u : ℕ). CutBy (over u t) (10 ^ (t - 340)) w r) e cut;
}

-- what the limbs hold once they are scaled
held : (c : After-scale-rest) → Scaled (c.args.sig * 2 ^ c.args.place) c.guess-t.result (value c.scale-rest.new.l.limbs) c.scale-rest.result
held c = scaled (known c.args.sig c.args.place c.requires.0 c.requires.1 c.requires.2 c.guess-t.ensures c.digits.ensures c.placed-l.ensures) c.placed-l.ensures c.scale-rest.ensures

pub guess-t-requires : goal.guess-t-requires
guess-t-requires c =
    let z : c.digits.result ≤ 2098 =
    subst (λ (n : ℕ). n ≤ 2098) (sym (c.digits.ensures ∙ ap size c.placed-l.ensures)) (size-le (c.args.sig * 2 ^ c.args.place) 2098 (units-low c.args.sig c.args.place c.requires.1 c.requires.2)) in
    omega (arith, z)

pub scale-rest-requires : goal.scale-rest-requires
scale-rest-requires c =
    subst (λ (u : ℕ). u * 10 ^ (340 - c.guess-t.result) < 2 ^ 2304) (sym c.placed-l.ensures) (known c.args.sig c.args.place c.requires.0 c.requires.1 c.requires.2 c.guess-t.ensures c.digits.ensures c.placed-l.ensures).fits

pub cut_off-c-requires : goal.cut_off-c-requires
cut_off-c-requires c = (omega arith, whole_fits (held (goal.at.cut_off-c-requires c).After-scale-rest))

pub nearest-requires : goal.nearest-requires
nearest-requires c =
    (first_fits (held (goal.at.nearest-requires c).After-scale-rest), omega (arith, (held (goal.at.nearest-requires c).After-scale-rest).guess.few))

pub returns-then-c-lt100000000000000000 : goal.returns-then-c-lt100000000000000000
returns-then-c-lt100000000000000000 c =
    as_guessed (held (goal.at.returns-then-c-lt100000000000000000 c).After-scale-rest) _ c.nearest.ensures (subst (λ (z : ℕ). z < 10 ^ 17) c.cut_off-c.ensures.0 c.if-c-lt100000000000000000.true)

pub overflow_add-t : goal.overflow_add-t
overflow_add-t c = omega (arith, (held (goal.at.overflow_add-t c).After-scale-rest).guess.few)

pub nearest-requires-2 : goal.nearest-requires-2
nearest-requires-2 c =
    let s = held (goal.at.nearest-requires-2 c).After-scale-rest in
    let o = c.over-r.ensures in
    (second_fits s _ _ o.0, omega (arith, s.guess.few))

pub returns : goal.returns
returns c =
    let o = c.over-r.ensures in
    one_more (held (goal.at.returns c).After-scale-rest) _ _ _ o.0 o.1 c.nearest-2.ensures (subst (λ (z : ℕ). 10 ^ 17 ≤ z) c.cut_off-c.ensures.0 c.if-c-lt100000000000000000.false)
