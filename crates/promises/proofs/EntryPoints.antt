-- Each entry point asks nothing and gives exactly its outcome: a line for each, in which the equation of its `ensures` is taken apart. Assumes nothing.
use mathlib.Core.Path.{refl, ap}
use Rattle.calls.specs.Calls.{Outcome}
use Rattle.fit.specs.Calls.{FitOutcome}
use Rattle.number.proofs.pattern as number-pattern-code
use Rattle.number.proofs.of_pattern as number-of_pattern-code
use Rattle.number.proofs.magnitude as number-magnitude-code
use Rattle.number.proofs.is_finite as number-is_finite-code
use Rattle.number.proofs.is_usable as number-is_usable-code
use Rattle.number.proofs.max as number-max-code
use Rattle.root.proofs.root as root-root-code
use Rattle.logarithm.proofs.log as log-log-code
use Rattle.exp.proofs.exp as exp-exp-code
use Rattle.normal.proofs.lnpdf as normal-lnpdf-code
use Rattle.linsolve.proofs.solve as linsolve-solve-code
use Rattle.refusal.proofs.first_of as refusal-first_of-code
use Rattle.refusal.proofs.Refusal.number as refusal-number-code
use Rattle.refusal.proofs.Refusal.place as refusal-place-code
use Rattle.refusal.proofs.Refusal.value as refusal-value-code
use Rattle.spec.proofs.MsarSpec.expanded_states as spec-expanded_states-code
use Rattle.params.proofs.MsarParams.new as params-new-code
use Rattle.params.proofs.MsarParams.k_regimes as params-k_regimes-code
use Rattle.params.proofs.MsarParams.order as params-order-code
use Rattle.params.proofs.MsarParams.switching_ar as params-switching_ar-code
use Rattle.params.proofs.MsarParams.switching_variance as params-switching_variance-code
use Rattle.params.proofs.MsarParams.matches_spec as params-matches_spec-code
use Rattle.params.proofs.MsarParams.check as params-check-code
use Rattle.params.proofs.MsarParams.expected_durations as params-expected_durations-code
use Rattle.stationary.proofs.stationary_shares as stationary-stationary_shares-code
use Rattle.binding.proofs.bind as binding-bind-code
use Rattle.binding.proofs.memory as binding-memory-code
use Rattle.binding.proofs.parameters as binding-parameters-code
use Rattle.binding.proofs.asked as binding-asked-code
use Rattle.calls.proofs.loglike as calls-loglike-code
use Rattle.calls.proofs.filter as calls-filter-code
use Rattle.calls.proofs.smooth as calls-smooth-code
use Rattle.fit.proofs.fit as fit-fit-code
use Rattle.record.proofs.MarkovSwitchingAr.new as record-new-code
use Rattle.record.proofs.MarkovSwitchingAr.loglike as record-loglike-code
use Rattle.record.proofs.MarkovSwitchingAr.filter as record-filter-code
use Rattle.record.proofs.MarkovSwitchingAr.smooth as record-smooth-code
use Rattle.record.proofs.MarkovSwitchingAr.fit as record-fit-code
use Rattle.record.proofs.check_of as record-check_of-code
use Rattle.record.proofs.loglike_of as record-loglike_of-code
use Rattle.record.proofs.filter_of as record-filter_of-code
use Rattle.record.proofs.smooth_of as record-smooth_of-code
use Rattle.record.proofs.fit_of as record-fit_of-code
use Rattle.text_decimal_read.proofs.read as text_decimal_read-read-code
use Rattle.text_decimal_write.proofs.write as text_decimal_write-write-code
use Rattle.c_interface.proofs.msar_loglike as c-loglike-code
use Rattle.c_interface.proofs.msar_filter as c-filter-code
use Rattle.c_interface.proofs.msar_smooth as c-smooth-code
use Rattle.c_interface.proofs.msar_fit as c-fit-code
use Rattle.c_interface.proofs.msar_windows as c-windows-code
use Rattle.c_interface.proofs.msar_check as c-check-code
use Rattle.c_interface.proofs.msar_durations as c-durations-code
use Rattle.c_interface.proofs.msar_shares as c-shares-code
use Rattle.c_interface.proofs.msar_matches as c-matches-code
use Rattle.c_interface.proofs.msar_root as c-root-code
use Rattle.c_interface.proofs.msar_log as c-log-code
use Rattle.c_interface.proofs.msar_exp as c-exp-code
use Rattle.c_interface.proofs.msar_lnpdf as c-lnpdf-code
use Rattle.promises.specs.EntryPoints.{EntryPoints}
use Rattle.promises.proofs.Contracts.{entry_point}

pub entry_points : (M : Type 1) → EntryPoints M
entry_points M =
    record {
      msar_loglike = entry_point (λ κs a r ws e. (refl, λ i. (tt, (tt, (tt, (tt, (tt, (tt, (tt, ((e i).work, (tt, ((e i).whole, ((e i).real, tt))))))))))))) c-loglike-code.Met.met;
      msar_filter = entry_point (λ κs a r ws e. (refl, λ i. (tt, (tt, (tt, (tt, (tt, (tt, (tt, ((e i).work, ((e i).filtered, (tt, ((e i).whole, ((e i).real, tt)))))))))))))) c-filter-code.Met.met;
      msar_smooth = entry_point (λ κs a r ws e. (refl, λ i. (tt, (tt, (tt, (tt, (tt, (tt, (tt, ((e i).work, ((e i).filtered, ((e i).smoothed, (tt, ((e i).whole, ((e i).real, tt))))))))))))))) c-smooth-code.Met.met;
      msar_fit = entry_point (λ κs a r ws e. (refl, λ i. (tt, (tt, (tt, (tt, (tt, (tt, (tt, ((e i).work, ((e i).smoothed, (tt, (tt, ((e i).fitted, ((e i).whole, ((e i).real, tt)))))))))))))))) c-fit-code.Met.met;
      msar_windows = entry_point (λ κs a r ws e. (refl, λ i. (tt, (tt, ((e i).whole, ((e i).real, tt)))))) c-windows-code.Met.met;
      msar_check = entry_point (λ κs a r ws e. (refl, λ i. (tt, (tt, ((e i).whole, ((e i).real, tt)))))) c-check-code.Met.met;
      msar_durations = entry_point (λ κs a r ws e. (refl, λ i. (tt, (tt, ((e i).values, ((e i).whole, ((e i).real, tt))))))) c-durations-code.Met.met;
      msar_shares = entry_point (λ κs a r ws e. (refl, λ i. (tt, (tt, ((e i).values, ((e i).whole, ((e i).real, tt))))))) c-shares-code.Met.met;
      msar_matches = entry_point (λ κs a r ws e. (e, refl)) c-matches-code.Met.met;
      loglike = entry_point (λ κs a r ws e. (ap (λ (x : Outcome). x.answer) e, λ i. (tt, (tt, (tt, (tt, ((e i).work, tt))))))) calls-loglike-code.Met.met;
      filter = entry_point (λ κs a r ws e. (ap (λ (x : Outcome). x.answer) e, λ i. (tt, (tt, (tt, (tt, ((e i).work, ((e i).filtered, tt)))))))) calls-filter-code.Met.met;
      smooth = entry_point (λ κs a r ws e. (ap (λ (x : Outcome). x.answer) e, λ i. (tt, (tt, (tt, (tt, ((e i).work, ((e i).filtered, ((e i).smoothed, tt))))))))) calls-smooth-code.Met.met;
      fit = entry_point (λ κs a r ws e. (ap (λ (x : FitOutcome). x.answer) e, λ i. (tt, (tt, (tt, (tt, (tt, ((e i).work, ((e i).smoothed, tt))))))))) fit-fit-code.Met.met;
      bind = entry_point (λ κs a r ws e. (e, refl)) binding-bind-code.Met.met;
      memory = entry_point (λ κs a r ws e. (e, refl)) binding-memory-code.Met.met;
      parameters = entry_point (λ κs a r ws e. (e, refl)) binding-parameters-code.Met.met;
      asked = entry_point (λ κs a r ws e. (e, refl)) binding-asked-code.Met.met;
      record_new = entry_point (λ κs a r ws e. (λ i. record { check = e.0 i; model = record { series = e.1 i; spec = e.2 i } }, refl)) record-new-code.Met.met;
      record_loglike = entry_point (λ κs a r ws e. (ap (λ (x : Outcome). x.answer) e, λ i. (tt, (tt, (tt, ((e i).work, tt)))))) record-loglike-code.Met.met;
      record_filter = entry_point (λ κs a r ws e. (ap (λ (x : Outcome). x.answer) e, λ i. (tt, (tt, (tt, ((e i).work, ((e i).filtered, tt))))))) record-filter-code.Met.met;
      record_smooth = entry_point (λ κs a r ws e. (ap (λ (x : Outcome). x.answer) e, λ i. (tt, (tt, (tt, ((e i).work, ((e i).filtered, ((e i).smoothed, tt)))))))) record-smooth-code.Met.met;
      record_fit = entry_point (λ κs a r ws e. (ap (λ (x : FitOutcome). x.answer) e, λ i. (tt, (tt, (tt, (tt, ((e i).work, ((e i).smoothed, tt)))))))) record-fit-code.Met.met;
      check_of = entry_point (λ κs a r ws e. (e, refl)) record-check_of-code.Met.met;
      loglike_of = entry_point (λ κs a r ws e. (ap (λ (x : Outcome). x.answer) e, λ i. (tt, (tt, (tt, (tt, ((e i).work, tt))))))) record-loglike_of-code.Met.met;
      filter_of = entry_point (λ κs a r ws e. (ap (λ (x : Outcome). x.answer) e, λ i. (tt, (tt, (tt, (tt, ((e i).work, ((e i).filtered, tt)))))))) record-filter_of-code.Met.met;
      smooth_of = entry_point (λ κs a r ws e. (ap (λ (x : Outcome). x.answer) e, λ i. (tt, (tt, (tt, (tt, ((e i).work, ((e i).filtered, ((e i).smoothed, tt))))))))) record-smooth_of-code.Met.met;
      fit_of = entry_point (λ κs a r ws e. (ap (λ (x : FitOutcome). x.answer) e, λ i. (tt, (tt, (tt, (tt, (tt, ((e i).work, ((e i).smoothed, tt))))))))) record-fit_of-code.Met.met;
      expanded_states = entry_point (λ κs a r ws e. (e, refl)) spec-expanded_states-code.Met.met;
      new = entry_point (λ κs a r ws e. (e, refl)) params-new-code.Met.met;
      check = entry_point (λ κs a r ws e. (e, refl)) params-check-code.Met.met;
      expected_durations = entry_point (λ κs a r ws e. (e, refl)) params-expected_durations-code.Met.met;
      matches_spec = entry_point (λ κs a r ws e. (e, refl)) params-matches_spec-code.Met.met;
      k_regimes = entry_point (λ κs a r ws e. (e, refl)) params-k_regimes-code.Met.met;
      order = entry_point (λ κs a r ws e. (e, refl)) params-order-code.Met.met;
      switching_ar = entry_point (λ κs a r ws e. (e, refl)) params-switching_ar-code.Met.met;
      switching_variance = entry_point (λ κs a r ws e. (e, refl)) params-switching_variance-code.Met.met;
      stationary_shares = entry_point (λ κs a r ws e. (e, refl)) stationary-stationary_shares-code.Met.met;
      number = entry_point (λ κs a r ws e. (e, refl)) refusal-number-code.Met.met;
      place = entry_point (λ κs a r ws e. (e, refl)) refusal-place-code.Met.met;
      value = entry_point (λ κs a r ws e. (e, refl)) refusal-value-code.Met.met;
      first_of = entry_point (λ κs a r ws e. (e, refl)) refusal-first_of-code.Met.met;
      solve = entry_point (λ κs a r ws e. (e, refl)) linsolve-solve-code.Met.met;
      root = entry_point (λ κs a r ws e. (e.0, refl)) root-root-code.Met.met;
      log = entry_point (λ κs a r ws e. (e, refl)) log-log-code.Met.met;
      exp = entry_point (λ κs a r ws e. (e, refl)) exp-exp-code.Met.met;
      lnpdf = entry_point (λ κs a r ws e. (e, refl)) normal-lnpdf-code.Met.met;
      msar_root = entry_point (λ κs a r ws e. (e.0, refl)) c-root-code.Met.met;
      msar_log = entry_point (λ κs a r ws e. (e, refl)) c-log-code.Met.met;
      msar_exp = entry_point (λ κs a r ws e. (e, refl)) c-exp-code.Met.met;
      msar_lnpdf = entry_point (λ κs a r ws e. (e, refl)) c-lnpdf-code.Met.met;
      pattern = entry_point (λ κs a r ws e. (e, refl)) number-pattern-code.Met.met;
      of_pattern = entry_point (λ κs a r ws e. (e, refl)) number-of_pattern-code.Met.met;
      magnitude = entry_point (λ κs a r ws e. (e, refl)) number-magnitude-code.Met.met;
      is_finite = entry_point (λ κs a r ws e. (e, refl)) number-is_finite-code.Met.met;
      is_usable = entry_point (λ κs a r ws e. (e, refl)) number-is_usable-code.Met.met;
      max = entry_point (λ κs a r ws e. (e, refl)) number-max-code.Met.met;
      read = entry_point (λ κs a r ws e. (e, refl)) text_decimal_read-read-code.Met.met;
      write = entry_point (λ κs a r ws e. (e, refl)) text_decimal_write-write-code.Met.met;
    }
