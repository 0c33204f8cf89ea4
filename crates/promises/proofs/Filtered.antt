-- The filter's rows are such rows: densities are exponentials, transition entries that passed check 13 are not below zero, and so predictions are
-- not, where no share is. Assumes nothing.
use mathlib.Core.Path.{◌≡◌, sym, ap₂, subst, ◌∙◌}
use mathlib.Core.Bool.{true, not, ◌&&◌}
use mathlib.Core.List.{List, [], ◌∷◌}
use mathlib.Core.Logic.{⊎_elim}
use Prim.Native.Nat.{ℕ, zero, suc, ◌+◌, ◌*◌, ◌^◌, ◌<◌}
use native.Mathlib.Nat.{mod-lt, eq-or-lt_of_le, le_of_suc-le-suc, not-suc-le-zero}
use native.Mathlib.Omega.{arith}
use borrow.Author.Tests.{not-false}
use lib.Arith.{digits_lt}
use lib.Dec.{T}
use lib.Ieee.{Float, binary64, le}
use lib.Ieee.Fits.{and_l, and_r, sub-fits}
use lib.Ieee.Scale.{finite}
use Rattle.number.specs.Number.{◌⊕◌, ◌⊖◌, ◌⊗◌, ◌⊘◌, ◌<?◌, ◌=?◌, zero⁺, one, usable}
use Rattle.number.specs.Sums.{sum_up}
use Rattle.number.specs.Table.{◌!◌}
use Rattle.number.proofs.Sums.{sum_ext}
use Rattle.rounding.specs.NearOne.{NearOne}
use Rattle.window.specs.Windows.{label, labels, predecessor}
use Rattle.window.specs.Shape.{Shape}
use Rattle.window.specs.Time.{time_of}
use Rattle.window.specs.declared.Time.{Time}
use Rattle.window.proofs.Windows.{label_labels_any}
use Rattle.window.proofs.Neighbours.{predecessor_below}
use Rattle.refusal.specs.Checks.{Check, Passed, ◌when◌, each}
use Rattle.refusal.specs.declared.Refusal.TheVariants.{FewMeans, Beyond, Length}
use Rattle.refusal.proofs.Checks.{both, untrue}
use Rattle.params.specs.declared.MsarParams.{MsarParams}
use Rattle.params.specs.Parameters.{k, p, P}
use Rattle.params.specs.Checks.{slack, is_probability, mean_check, entry_check, parameter_check}
use Rattle.rows.specs.Rows.{entry, probability}
use Rattle.rows.proofs.Rows.{row_at}
use Rattle.density.specs.Density.{density, log_density, normal_exponent}
use Rattle.prediction.specs.Prediction.{first_to, first_prediction, mixes, later_prediction}
use Rattle.prediction.specs.declared.Rule.{Rule}
use Rattle.prediction.proofs.Rules.{by_test, mixes_at_zero}
use Rattle.prediction.proofs.Predicted.{one_label_below}
use Rattle.filter.specs.Filter.{weight, total, updated, predicted_row, filtered_row, likelihood, likelihood_check}
use Rattle.filter.proofs.Weights.{weight_at_lem}
use Rattle.promises.specs.Demand.{NotBelow}
use Rattle.promises.proofs.Signs.{not_below_lem, product_not_below, sums_not_below, exp_not_below}
use Rattle.promises.proofs.Update.{NoneBelow, Rows, rows_near_one}

-- ---- checks that passed

each_passed : (c : ℕ → Check) (n : ℕ) → each n c ≡ Passed → (i : ℕ) → i < n → c i ≡ Passed
unfolding each
each_passed c zero e i h = absurd (not-suc-le-zero h)
each_passed c (suc n) e i h =
    let b = both (each n c) e in
    ⊎_elim (λ w. rw w b.1) (λ l. each_passed c n b.0 i l) (eq-or-lt_of_le (le_of_suc-le-suc h))

is_not_below : (x : Float) → is_probability x ≡ true → NotBelow x
unfolding is_probability
is_not_below x e =
    let t = and_l (finite x && le zero⁺ x) (le x (one ⊕ slack)) (subst T (sym e) tt) in
    not_below_lem x (λ _. and_r (finite x) (le zero⁺ x) t)

module _ (q : MsarParams) (passed : parameter_check q ≡ Passed) where
  entries_passed : each (k q * k q) (entry_check q) ≡ Passed
  unfolding parameter_check
  entries_passed =
      let c₁ = both (FewMeans (k q) when k q <? 2) passed in
      let c₂ = both (Beyond (k q) when 16 <? k q) c₁.1 in
      let c₃ = both (Beyond (p q) when 7 <? p q) c₂.1 in
      let c₄ = both (each (k q) (mean_check q)) c₃.1 in
      let c₅ = both (Length (k q * k q) when not (q.transition_count =? k q * k q)) c₄.1 in
      (both (each (k q * k q) (entry_check q)) c₅.1).0

  -- 13 has passed: no probability of a step is below zero
  pub steps_not_below : (i j : ℕ) → i < k q → j < k q → NotBelow (P q i j)
  unfolding entry_check
  steps_not_below i j h l =
      is_not_below (P q i j) (not-false _ (untrue _ _ (each_passed (entry_check q) (k q * k q) entries_passed (i * k q + j) (digits_lt h l))))

-- ---- densities, whatever the parameters and the series

pub density_not_below : (q : MsarParams) (y : List Float) (t : Time) (w : List ℕ) → NotBelow (density q y t w)
unfolding density log_density normal_exponent
density_not_below q y t w = exp_not_below (_ ⊖ _) (sub-fits binary64 _ _)

-- ---- predictions

module _ (q : MsarParams) (pos : 0 < k q) (steps : (i j : ℕ) → i < k q → j < k q → NotBelow (P q i j)) where
  -- the labels of a window, past its end too
  label_within : (a l : ℕ) → a < k q ^ suc (p q) → label (labels (k q) (suc (p q)) a) l < k q
  label_within a l h = rw (label_labels_any (k q) pos (suc (p q)) a l h) (mod-lt _ pos)

  first_to_lem : (shares : List Float) → ((s : ℕ) → s < k q → NotBelow (shares ! s)) → (a : ℕ) → a < k q ^ suc (p q) → (l : ℕ)
      → NotBelow (first_to q shares (labels (k q) (suc (p q)) a) l)
  unfolding first_to
  first_to_lem shares given a h zero = given _ (label_within a (p q) h)
  first_to_lem shares given a h (suc l) = product_not_below _ _ (first_to_lem shares given a h l) (steps _ _ (label_within a l h) (label_within a (suc l) h))

  -- the first, from shares of which none is below zero
  pub first_not_below : (shares : List Float) → ((s : ℕ) → s < k q → NotBelow (shares ! s)) → (a : ℕ) → a < k q ^ suc (p q)
      → NotBelow (first_prediction q shares (labels (k q) (suc (p q)) a))
  unfolding first_prediction
  first_not_below shares given a h = first_to_lem shares given a h (p q)

  -- a later one, by either rule, from a row of which none is
  pub later_not_below : (rule : Rule) (row : List Float) → NoneBelow (k q) (p q) (◌!◌ row) → (a : ℕ) → a < k q ^ suc (p q)
      → NotBelow (later_prediction rule q row (labels (k q) (suc (p q)) a))
  unfolding later_prediction
  later_not_below rule row none a h = by_test (mixes rule (p q))
      (λ m. rw m
      (sums_not_below (λ x. P q (label (labels (k q) (suc (p q)) a) 0) x ⊗ entry (k q) row (x ∷ [])) (k q)
      (λ x l. product_not_below _ _ (steps _ x (label_within a 0 h) l) (none _ (one_label_below (k q) (p q) x (mixes_at_zero rule (p q) m) l)))))
      (λ m. rw m
      (product_not_below _ _ (steps _ _ (label_within a 0 h) (label_within a 1 h))
      (sums_not_below (λ x. entry (k q) row (predecessor (labels (k q) (suc (p q)) a) x)) (k q) (λ x l. none _ (predecessor_below (k q) (p q) pos a x l)))))

-- ---- the rows, from any shares, by any rule

module _ (rule : Rule) (q : MsarParams) (y shares : List Float) (shape : Shape (k q) (p q)) (passed : parameter_check q ≡ Passed)
    (given : (s : ℕ) → s < k q → NotBelow (shares ! s)) (n : ℕ) (usual : each n (likelihood_check rule q y shares) ≡ Passed) where
  some : 0 < k q
  some = omega (arith, shape.low)

  at : ℕ → ℕ → Float
  at i a = density q y (time_of (p q) (record { 0 = i })) (labels (k q) (suc (p q)) a)

  predicted : ℕ → ℕ → Float
  predicted i a = predicted_row rule q y shares i ! a

  weights_are : (i a : ℕ) → a < k q ^ suc (p q) → weight q y i (predicted_row rule q y shares i) (labels (k q) (suc (p q)) a) ≡ predicted i a ⊗ at i a
  unfolding at predicted
  weights_are i a h = sym (weight_at_lem q y i (predicted_row rule q y shares i) some a h)

  total_is : (i : ℕ) → total q y i (predicted_row rule q y shares i) ≡ sum_up (λ a. predicted i a ⊗ at i a) (k q ^ suc (p q))
  unfolding total
  total_is i = sum_ext _ _ (k q ^ suc (p q)) (weights_are i)

  is_usable : (i : ℕ) → i < n → usable (likelihood rule q y shares i) ≡ true
  unfolding likelihood_check
  is_usable i h = not-false _ (untrue _ _ (each_passed (likelihood_check rule q y shares) n usual i h))

  rows : Rows (k q) (p q) n predicted at (filtered_row rule q y shares)
  unfolding at predicted predicted_row filtered_row updated likelihood
  rows =
      record {
        updated = λ i a h. row_at (k q) (p q) _ a h ∙ ap₂ (λ (x t : Float). x ⊘ t) (weights_are i a h) (total_is i);
        likelihoods = λ i h. subst (λ (x : Float). usable x ≡ true) (total_is i) (is_usable i h);
        densities = λ i a _. density_not_below q y _ _;
        first = λ a h. subst NotBelow (sym (row_at (k q) (p q) (first_prediction q shares) a h)) (first_not_below q some (steps_not_below q passed) shares given a h);
        later =
            λ i none a h.
            subst NotBelow (sym (row_at (k q) (p q) (later_prediction rule q (filtered_row rule q y shares i)) a h))
            (later_not_below q some (steps_not_below q passed) rule (filtered_row rule q y shares i) none a h);
      }

  pub filtered_near_one : (i : ℕ) → i < n → NearOne (k q) (k q ^ suc (p q)) (probability (k q) (p q) (filtered_row rule q y shares i))
  filtered_near_one = rows_near_one some shape.few rows
