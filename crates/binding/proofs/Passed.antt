-- What the checks that passed say of the spec, the series and the parameters. Assumes nothing.
use Rattle.std.specs.Prelude.{Ok}
use Prim.Native.Nat.{ℕ, suc, ◌+◌, ◌-◌, ◌*◌, ◌^◌, ◌<◌, ◌≤◌}
use mathlib.Core.Path.{◌≡◌, refl, sym, ap}
use mathlib.Core.Bool.{Bool, true, false, ◌&&◌, ◌||◌, beq, true≢false}
use mathlib.Core.List.{List}
use native.Mathlib.Nat.{mul-le-mul}
use native.Mathlib.Omega.{arith}
use borrow.Author.Tests.{ltb-false, leb-false, eqb-true, not-false}
use lib.ListN.{length}
use lib.Ieee.{Float}
use Rattle.number.specs.Number.{◌<?◌, ◌≤?◌, ◌=?◌}
use Rattle.refusal.specs.Checks.{Passed, ◌when◌, ◌before◌}
use Rattle.refusal.specs.declared.Refusal.TheVariants.{FewRegimes, ManyWindows, ShortSeries}
use Rattle.refusal.proofs.Checks.{both, untrue, before_ok}
use Rattle.spec.specs.Spec.{spec_check}
use Rattle.spec.specs.declared.MsarSpec.{MsarSpec}
use Rattle.window.specs.Shape.{Shape}
use Rattle.params.specs.declared.MsarParams.{MsarParams}
use Rattle.params.specs.Parameters.{k, p, switches, matches_spec}
use Rattle.params.specs.Checks.{parameter_check}
use Rattle.binding.specs.Binding.{length_check, readings_check, bound_check, bound_of, rule_check, params_check}
use Rattle.binding.specs.declared.Bound.{Bound}

-- ---- the spec

pub shape_of : (k p : ℕ) → spec_check k p ≡ Passed → Shape k p
unfolding spec_check
shape_of k p e =
    let c₁ = both (FewRegimes k when k <? 2) e in
    let c₂ = both (ManyWindows k when 256 <? k ^ suc p) c₁.1 in
    record {
      low = ltb-false _ _ (untrue _ _ c₁.0);
      high = ltb-false _ _ (untrue _ _ c₂.1);
      few = ltb-false _ _ (untrue _ _ c₂.0);
    }

-- ---- spec and series

pub record Fits (S : MsarSpec) (y : List Float) : Type 0 where
  pub shape : Shape S.k_regimes S.order
  pub longer : S.order < length y
  pub short : length y ≤ 4096

pub fits : (S : MsarSpec) (y : List Float) → bound_check S y ≡ Passed → Fits S y
unfolding bound_check length_check
fits S y e =
    let c₁ = both (spec_check S.k_regimes S.order) e in
    let c₂ = both (length_check S.order (length y)) c₁.1 in
    let c₃ = both (ShortSeries (S.order + 1) when length y ≤? S.order) c₂.0 in
    record {
      shape = shape_of _ _ c₁.0;
      longer = leb-false _ _ (untrue _ _ c₃.0);
      short = ltb-false _ _ (untrue _ _ c₃.1);
    }

-- ---- the rule

pub rule_known : (number : ℕ) → rule_check number ≡ Passed → (1 ≤ number) × (number ≤ 2)
unfolding rule_check
rule_known number e = go (number =? 1) (number =? 2) (eqb-true number 1) (eqb-true number 2) (not-false _ (untrue _ _ e))
  where
    go : (a b : Bool) → (a ≡ true → number ≡ 1) → (b ≡ true → number ≡ 2) → (a || b) ≡ true → (1 ≤ number) × (number ≤ 2)
    go true b f g h = let d = f refl in (omega (arith, d), omega (arith, d))
    go false true f g h = let d = g refl in (omega (arith, d), omega (arith, d))
    go false false f g h = absurd (true≢false (sym h))

-- ---- the parameters under the spec

all_true : (a : Bool) {b : Bool} → (a && b) ≡ true → (a ≡ true) × (b ≡ true)
all_true true e = (refl, e)
all_true false e = (e, cc)

matched : (S : MsarSpec) (q : MsarParams) → params_check S q ≡ Passed → matches_spec S q ≡ true
unfolding params_check
matched S q e = not-false _ (untrue _ _ (both (parameter_check q) e).1)

pub same_shape : (S : MsarSpec) (q : MsarParams) → params_check S q ≡ Passed → (k q ≡ S.k_regimes) × (p q ≡ S.order)
unfolding matches_spec
same_shape S q e =
    let a = all_true (k q =? S.k_regimes && p q =? S.order && beq (switches q.ar_blocks) S.switching_ar) (matched S q e) in
    let b = all_true (k q =? S.k_regimes && p q =? S.order) a.0 in
    let c = all_true (k q =? S.k_regimes) b.0 in
    (eqb-true _ _ c.0, eqb-true _ _ c.1)

-- ---- what binding gives

module _ (S : MsarSpec) (y : List Float) where
  pub bound_check_lem : spec_check S.k_regimes S.order ≡ Passed → (length_check S.order (length y) before readings_check y) ≡ Passed → bound_check S y ≡ Passed
  unfolding bound_check
  bound_check_lem e d = rw (e, d)

  module _ {b : Bound} (e : bound_of S y ≡ Ok b) where
    bound : (bound_check S y ≡ Passed) × (b ≡ record { rows = length y - S.order; windows = S.k_regimes ^ suc S.order; power = S.k_regimes ^ S.order })
    unfolding bound_of
    bound = before_ok (bound_check S y) e

    pub bound_passed : bound_check S y ≡ Passed
    bound_passed = bound.0

    pub rows_are : b.rows ≡ length y - S.order
    rows_are = ap (λ (x : Bound). x.rows) bound.1

    pub windows_are : b.windows ≡ S.k_regimes ^ suc S.order
    windows_are = ap (λ (x : Bound). x.windows) bound.1

    pub powers_are : b.power ≡ S.k_regimes ^ S.order
    powers_are = ap (λ (x : Bound). x.power) bound.1

    pub fitting : Fits S y
    fitting = fits S y bound.0

    -- what a call may need does not wrap
    pub record Small : Type 0 where
      pub work : b.rows * b.windows ≤ 4096 * 256
      pub table : b.rows * S.k_regimes ≤ 4096 * 16

    pub small : Small
    small =
        let n : b.rows ≤ 4096 = omega (arith, rows_are, fitting.short) in
        let m : b.windows ≤ 256 = omega (arith, windows_are, fitting.shape.few) in
        record { work = mul-le-mul n m; table = mul-le-mul n fitting.shape.high }
