-- What a step keeps: the counts, and that the parameters pass their checks; and that the weights of the n rows are all that counts for it.
-- Assumes nothing.
use Rattle.std.specs.Prelude.{Result, Ok, Err}
use Prim.Native.Nat.{ℕ, suc, ◌*◌, ◌^◌, ◌<◌, ◌≤◌}
use mathlib.Core.Path.{◌≡◌, refl, sym, ap, subst, ◌∙◌}
use mathlib.Core.List.{List}
use native.Mathlib.Nat.{pow-suc, mul_assoc, mul-le-mul, mul-le-mul_left}
use native.Mathlib.Omega.{arith}
use lib.ListN.{length, drop}
use lib.Ieee.{Float}
use Rattle.window.specs.declared.sizes.Sizes.{Sizes}
use Rattle.refusal.specs.declared.Refusal.{Refusal}
use Rattle.refusal.specs.Checks.{Check, Passed, ◌before◌}
use Rattle.params.specs.declared.MsarParams.{MsarParams}
use Rattle.params.specs.Parameters.{k, p}
use Rattle.params.specs.Checks.{parameter_check}
use Rattle.rows.specs.declared.smoothed.Smoothed.{Smoothed}
use Rattle.rows.specs.Memory.{filtered_from}
use Rattle.rows.specs.Smoothed.{rows_in}
use Rattle.rows.specs.Rows.{Same, windows_of}
use Rattle.em_counts.proofs.Dividing.{transition_same}
use Rattle.em_means.specs.Means.{new_means}
use Rattle.em_means.proofs.Same.{new_means_same}
use Rattle.em_coefficients.specs.Coefficients.{new_ar}
use Rattle.em_coefficients.proofs.Sums.{ar_same}
use Rattle.em_variances.proofs.Sums.{variances_same}
use Rattle.em_step.specs.Step.{with_means, with_ar, ◌leads_to◌, improved, step_of}
use Rattle.em_step.specs.Ready.{Ready}

-- ---- the counts of the parameters

pub record Alike (q' q : MsarParams) : Type 0 where
  pub labels : k q' ≡ k q
  pub order : p q' ≡ p q
  pub blocks : q'.ar_blocks ≡ q.ar_blocks
  pub variances : q'.variances_count ≡ q.variances_count

pub alike_twice : {a b c : MsarParams} → Alike a b → Alike b c → Alike a c
alike_twice u v =
    record {
      labels = u.labels ∙ v.labels;
      order = u.order ∙ v.order;
      blocks = u.blocks ∙ v.blocks;
      variances = u.variances ∙ v.variances;
    }

pub windows_alike : {a b : MsarParams} → Alike a b → windows_of a ≡ windows_of b
windows_alike {a} {b} u = ap (λ (x : ℕ). x ^ suc (p a)) u.labels ∙ ap (λ (x : ℕ). k b ^ suc x) u.order

-- ---- an answer that leads on

led : {A B P : Type 0} (x : Result A Refusal) (next : A → Result B Refusal) {b : B} → (x leads_to next) ≡ Ok b → ((a : A) → x ≡ Ok a → next a ≡ Ok b → P) → P
led (Ok a) next e go = go a refl e
led (Err r) next e go = let z : ◌≡◌ {A = ℕ} 0 1 = cc in absurd (omega arith)

led_same : {A B : Type 0} (x : Result A Refusal) (f g : A → Result B Refusal) → ((a : A) → x ≡ Ok a → f a ≡ g a) → (x leads_to f) ≡ (x leads_to g)
led_same (Ok a) f g h = h a refl
led_same (Err r) f g h = refl

checked_first : {A : Type 0} (c : Check) (x : Result A Refusal) {a : A} → (c before x) ≡ Ok a → (c ≡ Passed) × (x ≡ Ok a)
checked_first (Ok _) x e = (refl, e)
checked_first (Err r) x e = let z : ◌≡◌ {A = ℕ} 0 1 = cc in absurd (omega arith)

same_ok : {A : Type 0} {a b : A} → ◌≡◌ {A = Result A Refusal} (Ok a) (Ok b) → a ≡ b
same_ok e = cc

-- ---- the second time round

module _ (y : List Float) (n : ℕ) (rows : ℕ → List Float) (q : MsarParams) where
  pub improved_alike : {q' : MsarParams} → improved y n rows q ≡ Ok q' → Alike q' q
  unfolding improved
  improved_alike {q'} e =
      led (new_means q y n rows) _ e
      (λ means _ e'.
      led (new_ar (with_means q means) y n rows) _ e'
      (λ ar _ e''.
      let d = same_ok e'' in
      record {
        labels = ap (λ (x : MsarParams). k x) (sym d);
        order = ap (λ (x : MsarParams). p x) (sym d);
        blocks = ap (λ (x : MsarParams). x.ar_blocks) (sym d);
        variances = ap (λ (x : MsarParams). x.variances_count) (sym d);
      }))

pub still_ready : {q' q : MsarParams} {sizes : Sizes} {y : List Float} {floor : Float} → Alike q' q → Ready q sizes y floor → Ready q' sizes y floor
still_ready {q'} {q} a r =
    record {
      labels = r.labels ∙ sym a.labels;
      order = r.order ∙ sym a.order;
      floor_is = r.floor_is;
      lagged = subst (λ (x : ℕ). 0 < x) (sym a.order) r.lagged;
      blocks = subst (λ (x : ℕ). x ≤ 16) (sym a.blocks) r.blocks;
      variances = subst (λ (x : ℕ). x ≤ 16) (sym a.variances) r.variances;
    }

pub rows_alike : {q' q : MsarParams} (work : List Float) → Alike q' q → rows_in q' work ≡ rows_in q work
rows_alike work a = ap (λ (m : ℕ). λ (i : ℕ). drop (filtered_from m i) work) (windows_alike a)

-- ---- the places of the rows, as the counts take them

module _ {q : MsarParams} (s : Smoothed) {y : List Float} {floor : Float} (r : Ready q s.sizes y floor) where
  pub ready_power : s.sizes.power ≡ k q ^ p q
  ready_power = s.sizes.power_value ∙ ap (λ (x : ℕ). x ^ s.sizes.order) r.labels ∙ ap (λ (x : ℕ). k q ^ x) r.order

  windows : s.sizes.windows ≡ s.sizes.power * k q
  windows =
      s.sizes.windows_value ∙ pow-suc s.sizes.k s.sizes.order ∙ ap (λ (x : ℕ). x * s.sizes.k) (sym s.sizes.power_value) ∙ ap (λ (x : ℕ). s.sizes.power * x) r.labels

  pub ready_places : s.rows * s.sizes.power * k q ≤ length s.work.now
  ready_places = omega (arith, mul_assoc s.rows s.sizes.power (k q), ap (λ (x : ℕ). s.rows * x) windows, s.fits)

  -- so many blocks of k are a number of 64 bits
  pub ready_blocks : s.rows * s.sizes.power ≤ 1048576
  ready_blocks =
      let some : 1 ≤ k q = omega (arith, r.labels, s.sizes.shape.low) in
      let few : s.sizes.power ≤ 256 = omega (arith, mul-le-mul_left s.sizes.power some, windows, s.sizes.windows_value, s.sizes.shape.few) in
      let short : s.rows ≤ 4096 = omega (arith, s.readings, s.short) in
      mul-le-mul short few

-- ---- the counts stay, and the parameters pass their checks

pub record Good (q' q : MsarParams) : Type 0 where
  pub alike : Alike q' q
  pub checked : parameter_check q' ≡ Passed

module _ (y : List Float) (n : ℕ) (rows : ℕ → List Float) (q : MsarParams) where
  pub step_good : {q' : MsarParams} → step_of y n rows q ≡ Ok q' → Good q' q
  unfolding step_of
  step_good {q'} e =
      led (improved y n rows q) _ e
      (λ once f e'.
      led (improved y n rows once) _ e'
      (λ twice f' e''.
      let w = checked_first _ _ e'' in
      let d = same_ok w.1 in
      let a = alike_twice (improved_alike y n rows once f') (improved_alike y n rows q f) in
      record { alike = subst (λ (x : MsarParams). Alike x q) d (record { labels = a.labels; order = a.order; blocks = a.blocks; variances = a.variances }); checked = ap (λ (x : MsarParams). parameter_check x) (sym d) ∙ w.0 }))

-- ---- rows that hold the same in their first m places

module _ (y : List Float) (n : ℕ) (rows rows' : ℕ → List Float) where
  improved_same : (q : MsarParams) → 0 < k q → 0 < p q → ((i : ℕ) → i < n → Same (windows_of q) (rows i) (rows' i)) → improved y n rows q ≡ improved y n rows' q
  unfolding improved
  improved_same q pos later same =
      rw (new_means_same q pos n rows rows' same y)
      (led_same (new_means q y n rows') _ _
      (λ means _. rw (ar_same (with_means q means) y n rows rows' pos same later)
      (led_same (new_ar (with_means q means) y n rows') _ _
      (λ ar _. rw (variances_same (with_ar (with_means q means) ar) y n rows rows' pos same)))))

  pub step_same : (q : MsarParams) → 0 < k q → 0 < p q → ((i : ℕ) → i < n → Same (windows_of q) (rows i) (rows' i)) → step_of y n rows q ≡ step_of y n rows' q
  unfolding step_of
  step_same q pos later same =
      rw (improved_same q pos later same, transition_same q pos n rows rows' same)
      (led_same (improved y n rows' q) _ _
      (λ once e.
      let a = improved_alike y n rows' q e in
      let same' = subst (λ (m : ℕ). (i : ℕ) → i < n → Same m (rows i) (rows' i)) (sym (windows_alike a)) same in
      rw (improved_same once (omega (arith, pos, a.labels)) (omega (arith, later, a.order)) same')))
