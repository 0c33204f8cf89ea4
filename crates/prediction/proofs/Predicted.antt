-- What the rows of the code hold: in their first k^(p+1) places, the predictions of all windows. For the crate above. Assumes nothing.
use Prim.Native.Nat.{ℕ, suc, ◌+◌, ◌*◌, ◌/◌, ◌^◌, ◌<◌}
use mathlib.Core.Path.{◌≡◌, sym, ap, subst, ◌∙◌}
use mathlib.Core.Bool.{true, false}
use mathlib.Core.List.{List, [], ◌∷◌}
use native.Mathlib.Nat.{pow-suc, pow-zero, one-mul, mul_comm, zero-mul, mod-eq_of_lt}
use native.Mathlib.Omega.{arith}
use lib.Ieee.{Float}
use Rattle.number.specs.Number.{◌⊗◌}
use Rattle.number.specs.Table.{◌!◌, fill_at}
use Rattle.number.proofs.Sums.{sum_ext}
use Rattle.number.proofs.Table.{fill_at_lem}
use Rattle.window.specs.Windows.{label, labels, number, predecessor}
use Rattle.window.proofs.Neighbours.{number_predecessor, predecessor_below}
use Rattle.params.specs.declared.MsarParams.{MsarParams}
use Rattle.params.specs.Parameters.{k, p, P}
use Rattle.rows.specs.Rows.{entry, row_of, Same}
use Rattle.rows.proofs.Rows.{row_at}
use Rattle.prediction.specs.Prediction.{first_prediction, mixes, later_prediction}
use Rattle.prediction.specs.Steps.{first_at, step_at, sum_before, stepped_at, mixed_at, later_at}
use Rattle.prediction.specs.declared.Rule.{Rule}
use Rattle.prediction.proofs.Rules.{by_test, mixes_at_zero}

-- at order zero a window is one label, which is its number, and there are as many windows as labels
lone : (k x : ℕ) → number k (x ∷ []) ≡ x
unfolding number
lone k x = rw zero-mul (omega arith)

one_each : (k p : ℕ) → p ≡ 0 → k ^ suc p ≡ k
one_each k p e = rw (e, pow-suc, pow-zero, one-mul)

pub one_label_below : (k p x : ℕ) → p ≡ 0 → x < k → number k (x ∷ []) < k ^ suc p
one_label_below k p x e h = rw (lone k x, one_each k p e) h

-- ---- the first row

module _ (q : MsarParams) where
  pub first_row_is : (shares l : List Float) {row : List Float} → row ≡ fill_at 0 (first_at q shares) (k q ^ suc (p q)) l
      → Same (k q ^ suc (p q)) row (row_of (k q) (p q) (first_prediction q shares))
  unfolding first_at
  first_row_is shares l e a h = fill_at_lem (first_at q shares) (k q ^ suc (p q)) l e a h ∙ sym (row_at (k q) (p q) (first_prediction q shares) a h)

  -- ---- the table of steps

  pub step_at_lem : (l : List Float) {steps : List Float} → steps ≡ fill_at 0 (step_at q) (k q ^ suc (p q)) l → (a : ℕ) → a < k q ^ suc (p q)
      → steps ! a ≡ step_at q a
  step_at_lem l e a h = fill_at_lem (step_at q) (k q ^ suc (p q)) l e a h

  -- ---- a later row

  own_label : (a : ℕ) → p q ≡ 0 → a < k q ^ suc (p q) → label (labels (k q) (suc (p q)) a) 0 ≡ a
  unfolding labels
  own_label a e h = mod-eq_of_lt (subst (λ (n : ℕ). a < n) (one_each (k q) (p q) e) h)

  module _ (pos : 0 < k q) (rule : Rule) (transition steps previous row : List Float) {power : ℕ} (table : transition ≡ q.transition)
      (e : power ≡ k q ^ p q) (same : Same (k q ^ suc (p q)) previous row) where
    mixed_is : (a : ℕ) → a < k q ^ suc (p q) → mixes rule (p q) ≡ true
        → later_at rule (p q) (k q) power transition steps previous a ≡ later_prediction rule q row (labels (k q) (suc (p q)) a)
    unfolding later_at mixed_at later_prediction
    mixed_is a h m =
        let z = mixes_at_zero rule (p q) m in
        rw (m, table, own_label a z h)
        (sum_ext
        (λ x. P q a x ⊗ previous ! x)
        (λ x. P q a x ⊗ entry (k q) row (x ∷ []))
        (k q)
        (λ x i. ap (λ (v : Float). P q a x ⊗ v) (same x (subst (λ (n : ℕ). x < n) (sym (one_each (k q) (p q) z)) i) ∙ ap (λ (b : ℕ). row ! b) (sym (lone (k q) x)))))

    stepped_is : (a : ℕ) → a < k q ^ suc (p q) → steps ! a ≡ step_at q a → mixes rule (p q) ≡ false
        → later_at rule (p q) (k q) power transition steps previous a ≡ later_prediction rule q row (labels (k q) (suc (p q)) a)
    unfolding later_at stepped_at sum_before later_prediction step_at
    stepped_is a h es m =
        rw (m, es, e)
        (ap
        (λ (s : Float). step_at q a ⊗ s)
        (sum_ext
        (λ x. previous ! (a / k q + x * k q ^ p q))
        (λ x. entry (k q) row (predecessor (labels (k q) (suc (p q)) a) x))
        (k q)
        (λ x i.
        ap (λ (b : ℕ). previous ! b) (sym (number_predecessor (k q) (p q) pos a x h))
        ∙ same _ (predecessor_below (k q) (p q) pos a x i))))

    later_is : (a : ℕ) → a < k q ^ suc (p q) → steps ! a ≡ step_at q a
        → later_at rule (p q) (k q) power transition steps previous a ≡ later_prediction rule q row (labels (k q) (suc (p q)) a)
    later_is a h es = by_test (mixes rule (p q)) (mixed_is a h) (stepped_is a h es)

    -- the row that `later_row` leaves
    pub later_row_is : (l : List Float) {later : List Float} → ((a : ℕ) → a < k q ^ suc (p q) → steps ! a ≡ step_at q a)
        → later ≡ fill_at 0 (later_at rule (p q) (k q) power transition steps previous) (k q * power) l
        → Same (k q ^ suc (p q)) later (row_of (k q) (p q) (later_prediction rule q row))
    later_row_is l each el a h =
        let m : k q * power ≡ k q ^ suc (p q) = ap (λ (i : ℕ). k q * i) e ∙ mul_comm (k q) (k q ^ p q) ∙ sym (pow-suc (k q) (p q)) in
        let i : a < k q * power = rw m h in
        fill_at_lem (later_at rule (p q) (k q) power transition steps previous) (k q * power) l el a i
        ∙ later_is a h (each a h)
        ∙ sym (row_at (k q) (p q) (later_prediction rule q row) a h)
