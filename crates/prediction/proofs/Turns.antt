-- The labels of a window as the code has them, the first prediction followed one step further, and a later row one block further. Assumes nothing.
use Prim.Native.Nat.{ℕ, suc, ◌+◌, ◌*◌, ◌/◌, ◌%◌, ◌^◌, ◌<◌, ◌≤◌}
use mathlib.Core.Path.{◌≡◌, refl, ap, ◌∙◌}
use mathlib.Core.List.{List}
use native.Mathlib.Numerals.{add-one}
use native.Mathlib.Nat.{pow-suc, pow-zero, div-one, zero-add, suc-mul, div-lt_iff_lt-mul}
use native.Mathlib.Omega.{arith}
use lib.Arith.{digits_div}
use lib.ListN.{length}
use lib.Ieee.{Float}
use Rattle.number.specs.Number.{◌⊗◌}
use Rattle.number.specs.Table.{◌!◌, fill_at}
use Rattle.number.proofs.Table.{fill_at_join}
use Rattle.window.specs.Windows.{label, labels}
use Rattle.window.specs.Shape.{WindowNumber}
use Rattle.window.specs.declared.Sizes.{Sizes}
use Rattle.window.proofs.Windows.{label_labels_any, label_below}
use Rattle.params.specs.declared.MsarParams.{MsarParams}
use Rattle.params.specs.Parameters.{k, p}
use Rattle.prediction.specs.Prediction.{first_to, first_prediction}
use Rattle.prediction.specs.Steps.{first_at, step_at, sum_before, stepped_at}

-- the labels of a window are below k
pub label_small : {k p a l s : ℕ} → WindowNumber k p a → s ≡ label (labels k (suc p) a) l → l ≤ p → s < k
label_small {k} {p} {a} {l} w e h =
    rw e (label_below k (omega (arith, w.shape.low)) (suc p) a l (omega arith))

-- s_0 and s_1 of window a
pub newest : (k p a : ℕ) → label (labels k (suc p) a) 0 ≡ a % k
unfolding labels
newest k p a = refl

pub second : (k p a : ℕ) → 0 < k → a < k ^ suc p → label (labels k (suc p) a) 1 ≡ a / k % k
unfolding labels
second k p a pos h =
    label_labels_any k pos p (a / k) 0 ((div-lt_iff_lt-mul pos).1 (rw pow-suc at h)) ∙ rw (pow-zero, div-one)

pub step_is : (q : MsarParams) (sizes : Sizes) → sizes.k ≡ k q → sizes.order ≡ p q → (a : ℕ) → a < sizes.windows
    → q.transition ! (a % sizes.k * sizes.k + a / sizes.k % sizes.k) ≡ step_at q a
unfolding step_at
step_is q sizes ek ep a h =
    let low : 0 < k q = rw (← ek) (let l = sizes.shape.low in omega arith) in
    rw (newest (k q) (p q) a, second (k q) (p q) a low (rw (sizes.windows_value, ek, ep) at h), ek)

-- ---- the first prediction of window a

module _ (q : MsarParams) (shares : List Float) (sizes : Sizes) (a : ℕ) (ek : sizes.k ≡ k q) (ep : sizes.order ≡ p q) where
  abbrev w : List ℕ
  w = labels sizes.k (suc sizes.order) a

  pub first_none : (s : ℕ) → s ≡ label w sizes.order → shares ! s ≡ first_to q shares w 0
  unfolding first_to
  first_none s e = rw (e, ep)

  pub first_more : (l now before : ℕ) {acc : Float} → acc ≡ first_to q shares w l → now ≡ label w l → before ≡ label w (l + 1)
      → acc ⊗ q.transition ! (now * sizes.k + before) ≡ first_to q shares w (l + 1)
  unfolding first_to
  first_more l now before e e0 e1 = rw (e, e0, e1, ek, add-one)

  pub first_all : {acc : Float} → acc ≡ first_to q shares w sizes.order → acc ≡ first_at q shares a
  unfolding first_at first_prediction
  first_all e = rw (ek, ep) at e

-- ---- a later row: block c holds the windows with c for their labels before the newest

pub stepped_more : (k power : ℕ) (steps previous row₀ : List Float) (c : ℕ) {sum : Float} {row row' : List Float}
    → row ≡ fill_at 0 (stepped_at k power steps previous) (c * k) row₀ → c * k ≤ length row₀ → sum ≡ sum_before k power previous c
    → row' ≡ fill_at (c * k) (λ s. steps ! (c * k + s) ⊗ sum) k row
    → row' ≡ fill_at 0 (stepped_at k power steps previous) ((c + 1) * k) row₀
unfolding stepped_at
stepped_more k power steps previous row₀ c {sum} {row} e h es e' =
    let n : (c + 1) * k ≡ c * k + k = ap (λ (i : ℕ). i * k) (add-one c) ∙ suc-mul c k in
    e'
    ∙ rw (← n, zero-add) at
    (fill_at_join
    0
    (stepped_at k power steps previous)
    (λ s. steps ! (c * k + s) ⊗ sum)
    (c * k)
    k
    row₀
    e
    (rw zero-add h)
    (λ i l. rw (es, digits_div c l)))
