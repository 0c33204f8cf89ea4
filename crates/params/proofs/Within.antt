-- Where the checks pass, the counts lie within the arrays. Assumes nothing.
use mathlib.Core.Path.{◌≡◌, refl}
use mathlib.Core.Bool.{not, ◌||◌}
use Prim.Native.Nat.{◌≤◌, ◌*◌}
use native.Mathlib.Nat.{mul-le-mul}
use borrow.Author.Tests.{eqb-true, ltb-false, not-false}
use Rattle.number.specs.Number.{◌<?◌, ◌=?◌}
use Rattle.refusal.specs.Checks.{Passed, ◌when◌, each}
use Rattle.refusal.specs.declared.Refusal.TheVariants.{FewMeans, Beyond, Length, NoAr}
use Rattle.params.specs.declared.MsarParams.{MsarParams}
use Rattle.params.specs.Parameters.{k, p}
use Rattle.params.specs.Checks.{mean_check, entry_check, column_check, ar_check, parameter_check}
use Rattle.refusal.proofs.Checks.{both, untrue}
use Rattle.params.proofs.Tests.{at_most}

pub record Within (q : MsarParams) : Type 0 where
  pub transition : q.transition_count ≤ 256
  pub square : q.transition_count ≡ k q * k q
  pub means : q.means_count ≤ 16
  pub blocks : q.ar_blocks ≤ 16
  pub ar : q.ar_count ≤ 112
  pub variances : q.variances_count ≤ 16

pub within : (q : MsarParams) → parameter_check q ≡ Passed → Within q
unfolding parameter_check
within q e =
    let c₁ = both (FewMeans (k q) when k q <? 2) e in
    let c₂ = both (Beyond (k q) when 16 <? k q) c₁.1 in
    let c₃ = both (Beyond (p q) when 7 <? p q) c₂.1 in
    let c₄ = both (each (k q) (mean_check q)) c₃.1 in
    let c₅ = both (Length (k q * k q) when not (q.transition_count =? k q * k q)) c₄.1 in
    let c₆ = both (each (k q * k q) (entry_check q)) c₅.1 in
    let c₇ = both (each (k q) (column_check q)) c₆.1 in
    let c₈ = both (NoAr when q.ar_blocks =? 0) c₇.1 in
    let c₉ = both (Length (k q) when not (q.ar_blocks =? 1 || q.ar_blocks =? k q)) c₈.1 in
    let c₁₀ = both (Length (q.ar_blocks * p q) when not (q.ar_count =? q.ar_blocks * p q)) c₉.1 in
    let c₁₁ = both (each q.ar_count (ar_check q)) c₁₀.1 in
    let c₁₂ = both (Length (k q) when not (q.variances_count =? 1 || q.variances_count =? k q)) c₁₁.1 in
    let regimes : k q ≤ 16 = ltb-false _ _ (untrue _ _ c₂.0) in
    let order : p q ≤ 7 = ltb-false _ _ (untrue _ _ c₃.0) in
    let square : q.transition_count ≡ k q * k q = eqb-true _ _ (not-false _ (untrue _ _ c₅.0)) in
    let blocks : q.ar_blocks ≤ 16 = at_most _ _ refl (untrue _ _ c₉.0) regimes in
    let coefficients : q.ar_count ≡ q.ar_blocks * p q = eqb-true _ _ (not-false _ (untrue _ _ c₁₀.0)) in
    record {
      transition = rw square (mul-le-mul regimes regimes);
      square = square;
      means = regimes;
      blocks = blocks;
      ar = rw coefficients (mul-le-mul blocks order);
      variances = at_most _ _ refl (untrue _ _ c₁₂.0) regimes;
    }
