-- No second outcome satisfies a contract, of each public function of the library that has one: the entry points and what stands between crates.
-- After document 01, "How much a contract says". The entry points have it by one law, and of a function between crates two results, or two states of
-- its lent memory, are equal to the same. Assumes nothing.
use mathlib.Core.Path.{refl, sym}
use native.Mathlib.Nat.{mod-eq_of_lt}
use Rattle.promises.specs.EntryPoints.{EntryPoints}
use Rattle.promises.specs.BetweenCrates.{BetweenCrates}
use Rattle.promises.proofs.Contracts.{one_outcome, both, asked, both_clauses}
use Rattle.promises.proofs.EntryPoints.{entry_points}
use Rattle.promises.proofs.Unique.{same_sizes}

-- M: the logic's own resources, any
pub record EachHasOne (M : Type 1) : Type 2 where
  pub entry_points : EntryPoints M
  pub between_crates : BetweenCrates M

between_crates : (M : Type 1) → BetweenCrates M
between_crates M =
    record {
      of_whole = λ 𝓤 𝓛 mem run κs a g r r' ws ws'. both 𝓤 (λ e e'. (one_outcome e e', refl));
      first_failing = λ 𝓤 𝓛 mem run κs a g r r' ws ws'. both 𝓤 (λ e e'. (one_outcome e e', refl));
      copy = λ 𝓤 𝓛 mem run κs a g r r' ws ws'. both 𝓤 (λ e e'. (refl, λ i. (tt, (tt, (one_outcome e e' i, (tt, tt))))));
      label = λ 𝓤 𝓛 mem run κs a g r r' ws ws'. both 𝓤 (λ e e'. (one_outcome e e', refl));
      predecessor = λ 𝓤 𝓛 mem run κs a g r r' ws ws'. both 𝓤 (λ e e'. (one_outcome e e', refl));
      successor = λ 𝓤 𝓛 mem run κs a g r r' ws ws'. both 𝓤 (λ e e'. (one_outcome e e', refl));
      next_label = λ 𝓤 𝓛 mem run κs a g r r' ws ws'. asked 𝓤 (λ h e e'. let s = sym (mod-eq_of_lt h.0) in (one_outcome (e _ s) (e' _ s), refl));
      time_of = λ 𝓤 𝓛 mem run κs a g r r' ws ws'. both 𝓤 (λ e e'. (one_outcome e e', refl));
      sizes_of = λ 𝓤 𝓛 mem run κs a g r r' ws ws'. both_clauses 𝓤 (λ e e'. (same_sizes r r' (one_outcome e.0.0 e'.0.0) (one_outcome e.0.1 e'.0.1) (one_outcome e.1.0 e'.1.0) (one_outcome e.1.1 e'.1.1), refl));
      sizes_shaped = λ 𝓤 𝓛 mem run κs a g r r' ws ws'. both_clauses 𝓤 (λ e e'. (same_sizes r r' (one_outcome e.0.0 e'.0.0) (one_outcome e.0.1 e'.0.1) (one_outcome e.1.0 e'.1.0) (one_outcome e.1.1 e'.1.1), refl));
      column = λ 𝓤 𝓛 mem run κs a g r r' ws ws'. both 𝓤 (λ e e'. (one_outcome e e', refl));
      said = λ 𝓤 𝓛 mem run κs a g r r' ws ws'. both 𝓤 (λ e e'. (one_outcome e e', refl));
      tidied = λ 𝓤 𝓛 mem run κs a g r r' ws ws'. both 𝓤 (λ e e'. (one_outcome e e', refl));
      refused_params = λ r q. refl;
      solved_shares = λ 𝓤 𝓛 mem run κs a g r r' ws ws'. both 𝓤 (λ e e'. (one_outcome e e', refl));
      store = λ 𝓤 𝓛 mem run κs a g r r' ws ws'. both 𝓤 (λ e e'. (refl, λ i. (tt, (tt, (tt, (tt, (one_outcome e e' i, tt)))))));
      clear = λ 𝓤 𝓛 mem run κs a g r r' ws ws'. both 𝓤 (λ e e'. (refl, λ i. (one_outcome e e' i, (tt, tt))));
      tabulate = λ 𝓤 𝓛 mem run κs a g r r' ws ws'. both 𝓤 (λ e e'. (refl, λ i. (tt, (tt, (tt, (tt, (tt, (one_outcome e e' i, tt))))))));
      block_of = λ 𝓤 𝓛 mem run κs a g r r' ws ws'. both 𝓤 (λ e e'. (one_outcome e e', refl));
      variances = λ 𝓤 𝓛 mem run κs a g r r' ws ws'. both 𝓤 (λ e e'. (one_outcome e e', refl));
      deviations = λ 𝓤 𝓛 mem run κs a g r r' ws ws'. both 𝓤 (λ e e'. (one_outcome e e', refl));
      scales = λ 𝓤 𝓛 mem run κs a g r r' ws ws'. both_clauses 𝓤 (λ e e'. (λ i. record { deviations = one_outcome e.0 e'.0 i; logarithms = one_outcome e.1 e'.1 i }, refl));
      phis_of = λ 𝓤 𝓛 mem run κs a g r r' ws ws'. both 𝓤 (λ e e'. (one_outcome e e', refl));
      phis = λ 𝓤 𝓛 mem run κs a g r r' ws ws'. both 𝓤 (λ e e'. (one_outcome e e', refl));
      add_lags = λ 𝓤 𝓛 mem run κs a g r r' ws ws'. both 𝓤 (λ e e'. (refl, λ i. (tt, (tt, (tt, (tt, (tt, (one_outcome e e' i, tt))))))));
      weigh = λ 𝓤 𝓛 mem run κs a g r r' ws ws'. both_clauses 𝓤 (λ e e'. (one_outcome e.1 e'.1, λ i. (tt, (tt, (tt, (tt, (tt, (one_outcome e.0 e'.0 i, tt))))))));
      rule_of = λ 𝓤 𝓛 mem run κs a g r r' ws ws'. both 𝓤 (λ e e'. (one_outcome e e', refl));
      first_row = λ 𝓤 𝓛 mem run κs a g r r' ws ws'. both 𝓤 (λ e e'. (refl, λ i. (tt, (tt, (tt, (one_outcome e e' i, tt))))));
      steps = λ 𝓤 𝓛 mem run κs a g r r' ws ws'. both 𝓤 (λ e e'. (one_outcome e e', refl));
      later_row = λ 𝓤 𝓛 mem run κs a g r r' ws ws'. both 𝓤 (λ e e'. (refl, λ i. (tt, (tt, (tt, (tt, (tt, (tt, (tt, (one_outcome e e' i, tt))))))))));
      filter_need = λ 𝓤 𝓛 mem run κs a g r r' ws ws'. both 𝓤 (λ e e'. (one_outcome e e', refl));
      smooth_need = λ 𝓤 𝓛 mem run κs a g r r' ws ws'. both 𝓤 (λ e e'. (one_outcome e e', refl));
      call_memory = λ 𝓤 𝓛 mem run κs a g r r' ws ws'. both 𝓤 (λ e e'. (one_outcome e e', refl));
      refused_answer = λ r loglik. refl;
      divide = λ 𝓤 𝓛 mem run κs a g r r' ws ws'. both 𝓤 (λ e e'. (refl, λ i. (one_outcome e e' i, (tt, (tt, tt)))));
      sample_variance = λ 𝓤 𝓛 mem run κs a g r r' ws ws'. both 𝓤 (λ e e'. (one_outcome e e', refl));
      row_time = λ 𝓤 𝓛 mem run κs a g r r' ws ws'. both 𝓤 (λ e e'. (one_outcome e e', refl));
      solve_or_keep = λ 𝓤 𝓛 mem run κs a g r r' ws ws'. both 𝓤 (λ e e'. (one_outcome e e', refl));
      new_transition = λ 𝓤 𝓛 mem run κs a g r r' ws ws'. both 𝓤 (λ e e'. (one_outcome e e', refl));
      new_means = λ 𝓤 𝓛 mem run κs a g r r' ws ws'. both 𝓤 (λ e e'. (one_outcome e e', refl));
      new_ar = λ 𝓤 𝓛 mem run κs a g r r' ws ws'. both 𝓤 (λ e e'. (one_outcome e e', refl));
      new_variances = λ 𝓤 𝓛 mem run κs a g r r' ws ws'. both 𝓤 (λ e e'. (one_outcome e e', refl));
      step = λ 𝓤 𝓛 mem run κs a g r r' ws ws'. both 𝓤 (λ e e'. (one_outcome e e', refl));
      params_of = λ 𝓤 𝓛 mem run κs a g r r' ws ws'. both 𝓤 (λ e e'. (one_outcome e e', refl));
      spell = λ 𝓤 𝓛 mem run κs a g r r' ws ws'. both 𝓤 (λ e e'. (refl, λ i. (tt, (tt, (tt, ((one_outcome e e' i).whole, ((one_outcome e e' i).real, tt)))))));
      spell_windows = λ 𝓤 𝓛 mem run κs a g r r' ws ws'. both 𝓤 (λ e e'. (refl, λ i. (tt, ((one_outcome e e' i).whole, ((one_outcome e e' i).real, tt)))));
      spell_loglik = λ 𝓤 𝓛 mem run κs a g r r' ws ws'. both 𝓤 (λ e e'. (refl, λ i. (tt, ((one_outcome e e' i).whole, ((one_outcome e e' i).real, tt)))));
      spell_fit = λ 𝓤 𝓛 mem run κs a g r r' ws ws'. both 𝓤 (λ e e'. (refl, λ i. (tt, ((one_outcome e e' i).whole, ((one_outcome e e' i).real, tt)))));
      list = λ 𝓤 𝓛 mem run κs a g r r' ws ws'. both 𝓤 (λ e e'. (refl, λ i. (tt, ((one_outcome e e' i).values, ((one_outcome e e' i).whole, ((one_outcome e e' i).real, tt))))));
      lay_out = λ 𝓤 𝓛 mem run κs a g r r' ws ws'. both 𝓤 (λ e e'. (refl, λ i. (tt, (one_outcome e e' i, tt))));
    }

pub each_has_one : (M : Type 1) → EachHasOne M
each_has_one M = record { entry_points = entry_points M; between_crates = between_crates M }
