-- What the loop over rows keeps: the rows so far are the filter's, and so is the prediction of the next. Assumes nothing.
use Rattle.std.specs.Prelude.{Ok}
use Prim.Native.Nat.{ℕ, suc, ◌+◌, ◌*◌, ◌^◌, ◌<◌, ◌≤◌}
use mathlib.Core.Path.{◌≡◌, refl, sym, ap, subst, ◌∙◌}
use mathlib.Core.Bool.{true, false, not, true≢false}
use mathlib.Core.List.{List}
use mathlib.Core.Logic.{⊎_elim}
use native.Mathlib.Numerals.{add-one}
use native.Mathlib.Nat.{eq-or-lt_of_le, le_of_suc-le-suc, not-suc-le-zero, add-mul}
use native.Mathlib.Omega.{arith}
use lib.ListN.{length, drop}
use lib.Ieee.{Float}
use Rattle.number.specs.Number.{◌⊕◌, ◌⊗◌, ◌⊘◌, zero⁺, usable}
use Rattle.number.specs.Table.{◌!◌, fill_at}
use Rattle.number.proofs.Sums.{sum_none, sum_next, sum_ext}
use Rattle.number.proofs.Table.{fill_at_lem}
use Rattle.logarithm.specs.Log.{log_of}
use Rattle.refusal.specs.Checks.{Check, Passed, Failed, each}
use Rattle.refusal.specs.declared.Refusal.{Refusal}
use Rattle.refusal.specs.declared.Refusal.TheVariants.{Likelihood}
use Rattle.refusal.proofs.Each.{each_none, each_more, each_found}
use Rattle.refusal.proofs.Checks.{refused, passed}
use Rattle.window.specs.Windows.{labels}
use Rattle.window.specs.Time.{time_of}
use Rattle.window.proofs.Windows.{number_labels}
use Rattle.params.specs.declared.MsarParams.{MsarParams}
use Rattle.params.specs.Parameters.{k, p}
use Rattle.rows.specs.Rows.{Same, windows_of}
use Rattle.rows.specs.Memory.{predicted_from}
use Rattle.rows.proofs.Rows.{row_at}
use Rattle.rows.specs.Steps.{stored}
use Rattle.rows.proofs.Stored.{row_long, row_there, rows_before, rows_behind, rest_behind}
use Rattle.density.specs.Density.{density}
use Rattle.prediction.specs.declared.Rule.{Rule}
use Rattle.prediction.specs.Steps.{first_at, step_at, later_at}
use Rattle.prediction.proofs.Predicted.{first_row_is, step_at_lem, later_row_is}
use Rattle.filter.specs.Filter.{weight, total, updated, predicted_row, filtered_row, likelihood, likelihood_check, loglik_to, answer_after}
use Rattle.filter.specs.Steps.{Weighed, Held}

-- ---- a row counts by its first m places

module _ (q : MsarParams) (y : List Float) (i : ℕ) (pos : 0 < k q) (row row' : List Float) (same : Same (windows_of q) row row') where
  weight_same : (a : ℕ) → a < windows_of q → weight q y i row (labels (k q) (suc (p q)) a) ≡ weight q y i row' (labels (k q) (suc (p q)) a)
  unfolding weight
  weight_same a h =
      rw (number_labels (k q) pos (suc (p q)) a h)
      (ap (λ (x : Float). x ⊗ density q y (time_of (p q) (record { 0 = i })) (labels (k q) (suc (p q)) a)) (same a h))

  total_same : total q y i row ≡ total q y i row'
  unfolding total
  total_same = sum_ext _ _ (windows_of q) weight_same

-- ---- before row i

pub record Kept (rule : Rule) (q : MsarParams) (y shares : List Float) (n m kept : ℕ) (work₀ : List Float) (i : ℕ) (predicted : List Float) (loglik : Float) (work : List Float) : Type 0 where
  pub passed_so_far : each i (likelihood_check rule q y shares) ≡ Passed
  pub next : Same m predicted (predicted_row rule q y shares i)
  pub loglik_is : loglik ≡ loglik_to rule q y shares i
  pub long : length work ≡ length work₀
  pub rest : drop (kept * m) work ≡ drop (kept * m) work₀
  pub rows : Held rule q y shares n m kept i work

module _ (rule : Rule) (q : MsarParams) (y shares : List Float) (n m kept : ℕ) (work₀ : List Float) (pos : 0 < k q) (windows : m ≡ windows_of q) where
  in_row : (a : ℕ) → a < m → a < windows_of q
  in_row a h = subst (λ (x : ℕ). a < x) windows h

  of_row : (row row' : List Float) → Same m row row' → Same (windows_of q) row row'
  of_row row row' same a h = same a (subst (λ (x : ℕ). a < x) (sym windows) h)

  pub kept_none : (l predicted : List Float) → predicted ≡ fill_at 0 (first_at q shares) m l → Kept rule q y shares n m kept work₀ 0 predicted zero⁺ work₀
  unfolding predicted_row loglik_to
  kept_none l predicted e =
      record {
        passed_so_far = each_none _;
        next = λ a h. first_row_is q shares l (e ∙ ap (λ (x : ℕ). fill_at 0 (first_at q shares) x l) windows) a (in_row a h);
        loglik_is = sum_none _;
        long = refl;
        rest = refl;
        rows = record { predicted = λ j h g. absurd (not-suc-le-zero h); filtered = λ j h g. absurd (not-suc-le-zero h) };
      }

  module _ (i : ℕ) (predicted weights work : List Float) (ll lik : Float) (so_far : Kept rule q y shares n m kept work₀ i predicted ll work)
      (weighed : Weighed q y m i predicted weights lik) where
    likelihood_is : lik ≡ likelihood rule q y shares i
    unfolding likelihood
    likelihood_is = weighed.likelihood_is ∙ total_same q y i pos predicted (predicted_row rule q y shares i) (of_row predicted (predicted_row rule q y shares i) so_far.next)

    pub kept_bad : i < n → usable lik ≡ false → each n (likelihood_check rule q y shares) ≡ Failed (Likelihood i)
    unfolding likelihood_check
    kept_bad h u = each_found _ i so_far.passed_so_far n h (refused _ (ap (λ (x : Float). not (usable x)) likelihood_is) (rw u))

    -- row i is done: its weights are divided, and stored where they are kept; its prediction likewise, behind them
    module _ (steps filtered later work' l : List Float) (power : ℕ) (good : usable lik ≡ true)
        (steps-are : steps ≡ fill_at 0 (step_at q) m l) (power_is : power ≡ k q ^ p q)
        (filtered-are : filtered ≡ fill_at 0 (λ a. weights ! a ⊘ lik) m weights)
        (later-are : later ≡ fill_at 0 (later_at rule (p q) (k q) power q.transition steps filtered) m predicted)
        (counted : k q * power ≡ m)
        (work-is : work' ≡ stored m kept (n + i) predicted (stored m kept i filtered work))
        (inside : i < n) (fits : kept * m ≤ length work₀) (logarithm : Float) (logarithm-is : logarithm ≡ log_of lik) where
      filtered_is : Same m filtered (filtered_row rule q y shares i)
      unfolding filtered_row updated
      filtered_is a h =
          fill_at_lem _ m weights filtered-are a h
          ∙ ap (λ (x : Float). x ⊘ lik) (weighed.weights_are a h ∙ weight_same q y i pos predicted (predicted_row rule q y shares i) (of_row predicted (predicted_row rule q y shares i) so_far.next) a (in_row a h))
          ∙ ap (λ (x : Float). weight q y i (predicted_row rule q y shares i) (labels (k q) (suc (p q)) a) ⊘ x)
          (weighed.likelihood_is ∙ total_same q y i pos predicted (predicted_row rule q y shares i) (of_row predicted (predicted_row rule q y shares i) so_far.next))
          ∙ sym (row_at (k q) (p q) _ a (in_row a h))

      next_is : Same m later (predicted_row rule q y shares (i + 1))
      unfolding predicted_row filtered_row
      next_is a h =
          rw add-one
          (later_row_is q pos rule q.transition steps filtered (filtered_row rule q y shares i) refl power_is (of_row filtered (filtered_row rule q y shares i) filtered_is) predicted
          (step_at_lem q l (steps-are ∙ ap (λ (x : ℕ). fill_at 0 (step_at q) x l) windows))
          (later-are ∙ ap (λ (x : ℕ). fill_at 0 (later_at rule (p q) (k q) power q.transition steps filtered) x predicted) (sym counted))
          a (in_row a h))

      -- the filtered row is stored first, the prediction behind all filtered rows
      half : List Float
      half = stored m kept i filtered work

      room : kept * m ≤ length work
      room = omega (arith, fits, so_far.long)

      room_behind : kept * m ≤ length half
      unfolding half
      room_behind = omega (arith, room, row_long m kept i filtered work refl room)

      behind : (j : ℕ) → (n + j) * m ≡ predicted_from n m j
      behind j = add-mul n j m

      held : Held rule q y shares n m kept (i + 1) work'
      unfolding half
      held =
          record {
            filtered = λ j h g. ⊎_elim
                (λ (d : j ≡ i) a x. rows_before m kept (n + i) predicted half work-is room_behind j (omega (arith, d, inside)) a x
                ∙ subst (λ (b : ℕ). b < kept → drop (b * m) half ! a ≡ filtered_row rule q y shares b ! a) (sym d) (λ k. row_there m kept i filtered work refl room k a x ∙ filtered_is a x) g)
                (λ (l : j < i) a x. rows_before m kept (n + i) predicted half work-is room_behind j (omega arith) a x ∙ rows_before m kept i filtered work refl room j l a x ∙ so_far.rows.filtered j l g a x)
                (eq-or-lt_of_le (le_of_suc-le-suc (rw add-one at h)));
            predicted = λ j h g. subst (λ (b : ℕ). Same m (drop b work') (predicted_row rule q y shares j)) (behind j)
                (⊎_elim
                (λ (d : j ≡ i) a x. subst (λ (b : ℕ). n + b < kept → drop ((n + b) * m) work' ! a ≡ predicted_row rule q y shares b ! a) (sym d)
                (λ k. row_there m kept (n + i) predicted half work-is room_behind k a x ∙ so_far.next a x) g)
                (λ (l : j < i) a x. rows_before m kept (n + i) predicted half work-is room_behind (n + j) (omega arith) a x
                ∙ rows_behind m kept i filtered work refl room (n + j) (omega arith) a x
                ∙ ap (λ (b : ℕ). drop b work ! a) (behind j) ∙ so_far.rows.predicted j l g a x)
                (eq-or-lt_of_le (le_of_suc-le-suc (rw add-one at h))));
          }

      pub kept_more : Kept rule q y shares n m kept work₀ (i + 1) later (ll ⊕ logarithm) work'
      unfolding loglik_to likelihood_check half
      kept_more =
          record {
            passed_so_far = each_more _ i so_far.passed_so_far (passed _ (ap (λ (x : Float). not (usable x)) likelihood_is) (rw good));
            next = next_is;
            loglik_is = sum_next _ i so_far.loglik_is (logarithm-is ∙ ap log_of likelihood_is);
            long = row_long m kept (n + i) predicted half work-is room_behind ∙ row_long m kept i filtered work refl room ∙ so_far.long;
            rest = rest_behind m kept (n + i) predicted half work-is room_behind ∙ rest_behind m kept i filtered work refl room ∙ so_far.rest;
            rows = held;
          }

-- ---- after the last row

module _ (rule : Rule) (q : MsarParams) (y shares : List Float) (n m kept : ℕ) (work₀ : List Float) (i : ℕ) (predicted work : List Float) (ll : Float)
    (so_far : Kept rule q y shares n m kept work₀ i predicted ll work) (all : i ≡ n) where
  pub answer_is : Ok ll ≡ answer_after (each n (likelihood_check rule q y shares)) (loglik_to rule q y shares n)
  answer_is =
      ap (λ (x : Float). answer_after Passed x) (so_far.loglik_is ∙ ap (loglik_to rule q y shares) all)
      ∙ ap (λ (d : Check). answer_after d (loglik_to rule q y shares n)) (sym (sym (ap (λ (j : ℕ). each j (likelihood_check rule q y shares)) all) ∙ so_far.passed_so_far))

  pub all_held : Held rule q y shares n m kept n work
  all_held = subst (λ (j : ℕ). Held rule q y shares n m kept j work) all so_far.rows

-- ---- a refusal has not passed

pub refusal_stays : {r : Refusal} → Failed r ≡ Passed → ⊥
refusal_stays d = true≢false cc
