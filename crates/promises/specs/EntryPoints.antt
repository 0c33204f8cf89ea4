-- The whole promise to a caller: for each entry point of the library (what C and the record call, and what a program is meant to call) its type, the
-- outcome that it gives, by the definitions, and, in `EntryPoints`, that it asks nothing, gives exactly that, and has no second outcome
-- (`EntryPoint`, Promised.antt). After document 01, "How much a contract says", and include/msar.h. What isn't here is in BetweenCrates.antt or in
-- docs/CONTRACTS.md, "Exceptions".
use Rattle.std.specs.Prelude.{[], ◌∷◌}
use Rattle.std.specs.Float.Ieee.Scale.{finite}
use Rattle.std.specs.Borrow.{bool, f64, u64, unit, usize}
use denote.Triple.Clauses.{Ended}
use Rattle.number.specs.Number.{zero⁺, pattern_of, float, magnitude_of, usable, max_of}
use Rattle.root.specs.Root.{root_of}
use Rattle.logarithm.specs.Log.{log_of}
use Rattle.exp.specs.Exp.{exp_of}
use Rattle.normal.specs.Normal.{lnpdf_of}
use Rattle.linsolve.specs.Solver.{solve_of}
use Rattle.refusal.specs.Refusals.{said}
use Rattle.refusal.specs.Checks.{◌before◌}
use Rattle.spec.specs.Spec.{window_count}
use Rattle.params.specs.Parameters.{k, p, switches, matches_spec}
use Rattle.params.specs.Checks.{parameter_check}
use Rattle.params.specs.Durations.{durations_of}
use Rattle.params.specs.Built.{built_of}
use Rattle.stationary.specs.Stationary.{shares_of}
use Rattle.binding.specs.Binding.{bound_check, bound_of, memory_check, rule_check, params_check}
use Rattle.calls.specs.Calls.{loglike_call, filter_call, smooth_call}
use Rattle.fit.specs.Calls.{fit_call}
use Rattle.text_decimal_read.specs.Text.{read_of}
use Rattle.text_decimal_write.specs.Decimals.{written_of}
use Rattle.c_layout.specs.Layout.{params_of, spelled, windows_spelled, listed}
use Rattle.c_interface.specs.Interface.{spec_of, left, fit_left}
use Rattle.number.specs.contracts.pattern as number-pattern
use Rattle.number.proofs.pattern as number-pattern-code
use Rattle.number.specs.contracts.of_pattern as number-of_pattern
use Rattle.number.proofs.of_pattern as number-of_pattern-code
use Rattle.number.specs.contracts.magnitude as number-magnitude
use Rattle.number.proofs.magnitude as number-magnitude-code
use Rattle.number.specs.contracts.is_finite as number-is_finite
use Rattle.number.proofs.is_finite as number-is_finite-code
use Rattle.number.specs.contracts.is_usable as number-is_usable
use Rattle.number.proofs.is_usable as number-is_usable-code
use Rattle.number.specs.contracts.max as number-max
use Rattle.number.proofs.max as number-max-code
use Rattle.root.specs.contracts.root as root-root
use Rattle.root.proofs.root as root-root-code
use Rattle.logarithm.specs.contracts.log as log-log
use Rattle.logarithm.proofs.log as log-log-code
use Rattle.exp.specs.contracts.exp as exp-exp
use Rattle.exp.proofs.exp as exp-exp-code
use Rattle.normal.specs.contracts.lnpdf as normal-lnpdf
use Rattle.normal.proofs.lnpdf as normal-lnpdf-code
use Rattle.linsolve.specs.contracts.solve as linsolve-solve
use Rattle.linsolve.proofs.solve as linsolve-solve-code
use Rattle.refusal.specs.contracts.first_of as refusal-first_of
use Rattle.refusal.proofs.first_of as refusal-first_of-code
use Rattle.refusal.specs.contracts.Refusal.number as refusal-number
use Rattle.refusal.proofs.Refusal.number as refusal-number-code
use Rattle.refusal.specs.contracts.Refusal.place as refusal-place
use Rattle.refusal.proofs.Refusal.place as refusal-place-code
use Rattle.refusal.specs.contracts.Refusal.value as refusal-value
use Rattle.refusal.proofs.Refusal.value as refusal-value-code
use Rattle.spec.specs.contracts.MsarSpec.expanded_states as spec-expanded_states
use Rattle.spec.proofs.MsarSpec.expanded_states as spec-expanded_states-code
use Rattle.params.specs.contracts.MsarParams.new as params-new
use Rattle.params.proofs.MsarParams.new as params-new-code
use Rattle.params.specs.contracts.MsarParams.k_regimes as params-k_regimes
use Rattle.params.proofs.MsarParams.k_regimes as params-k_regimes-code
use Rattle.params.specs.contracts.MsarParams.order as params-order
use Rattle.params.proofs.MsarParams.order as params-order-code
use Rattle.params.specs.contracts.MsarParams.switching_ar as params-switching_ar
use Rattle.params.proofs.MsarParams.switching_ar as params-switching_ar-code
use Rattle.params.specs.contracts.MsarParams.switching_variance as params-switching_variance
use Rattle.params.proofs.MsarParams.switching_variance as params-switching_variance-code
use Rattle.params.specs.contracts.MsarParams.matches_spec as params-matches_spec
use Rattle.params.proofs.MsarParams.matches_spec as params-matches_spec-code
use Rattle.params.specs.contracts.MsarParams.check as params-check
use Rattle.params.proofs.MsarParams.check as params-check-code
use Rattle.params.specs.contracts.MsarParams.expected_durations as params-expected_durations
use Rattle.params.proofs.MsarParams.expected_durations as params-expected_durations-code
use Rattle.stationary.specs.contracts.stationary_shares as stationary-stationary_shares
use Rattle.stationary.proofs.stationary_shares as stationary-stationary_shares-code
use Rattle.binding.specs.contracts.bind as binding-bind
use Rattle.binding.proofs.bind as binding-bind-code
use Rattle.binding.specs.contracts.memory as binding-memory
use Rattle.binding.proofs.memory as binding-memory-code
use Rattle.binding.specs.contracts.parameters as binding-parameters
use Rattle.binding.proofs.parameters as binding-parameters-code
use Rattle.binding.specs.contracts.asked as binding-asked
use Rattle.binding.proofs.asked as binding-asked-code
use Rattle.calls.specs.contracts.loglike as calls-loglike
use Rattle.calls.proofs.loglike as calls-loglike-code
use Rattle.calls.specs.contracts.filter as calls-filter
use Rattle.calls.proofs.filter as calls-filter-code
use Rattle.calls.specs.contracts.smooth as calls-smooth
use Rattle.calls.proofs.smooth as calls-smooth-code
use Rattle.fit.specs.contracts.fit as fit-fit
use Rattle.fit.proofs.fit as fit-fit-code
use Rattle.record.specs.contracts.MarkovSwitchingAr.new as record-new
use Rattle.record.proofs.MarkovSwitchingAr.new as record-new-code
use Rattle.record.specs.contracts.MarkovSwitchingAr.loglike as record-loglike
use Rattle.record.proofs.MarkovSwitchingAr.loglike as record-loglike-code
use Rattle.record.specs.contracts.MarkovSwitchingAr.filter as record-filter
use Rattle.record.proofs.MarkovSwitchingAr.filter as record-filter-code
use Rattle.record.specs.contracts.MarkovSwitchingAr.smooth as record-smooth
use Rattle.record.proofs.MarkovSwitchingAr.smooth as record-smooth-code
use Rattle.record.specs.contracts.MarkovSwitchingAr.fit as record-fit
use Rattle.record.proofs.MarkovSwitchingAr.fit as record-fit-code
use Rattle.record.specs.contracts.check_of as record-check_of
use Rattle.record.proofs.check_of as record-check_of-code
use Rattle.record.specs.contracts.loglike_of as record-loglike_of
use Rattle.record.proofs.loglike_of as record-loglike_of-code
use Rattle.record.specs.contracts.filter_of as record-filter_of
use Rattle.record.proofs.filter_of as record-filter_of-code
use Rattle.record.specs.contracts.smooth_of as record-smooth_of
use Rattle.record.proofs.smooth_of as record-smooth_of-code
use Rattle.record.specs.contracts.fit_of as record-fit_of
use Rattle.record.proofs.fit_of as record-fit_of-code
use Rattle.text_decimal_read.specs.contracts.read as text_decimal_read-read
use Rattle.text_decimal_read.proofs.read as text_decimal_read-read-code
use Rattle.text_decimal_write.specs.contracts.write as text_decimal_write-write
use Rattle.text_decimal_write.proofs.write as text_decimal_write-write-code
use Rattle.c_interface.specs.contracts.msar_loglike as c-loglike
use Rattle.c_interface.proofs.msar_loglike as c-loglike-code
use Rattle.c_interface.specs.contracts.msar_filter as c-filter
use Rattle.c_interface.proofs.msar_filter as c-filter-code
use Rattle.c_interface.specs.contracts.msar_smooth as c-smooth
use Rattle.c_interface.proofs.msar_smooth as c-smooth-code
use Rattle.c_interface.specs.contracts.msar_fit as c-fit
use Rattle.c_interface.proofs.msar_fit as c-fit-code
use Rattle.c_interface.specs.contracts.msar_windows as c-windows
use Rattle.c_interface.proofs.msar_windows as c-windows-code
use Rattle.c_interface.specs.contracts.msar_check as c-check
use Rattle.c_interface.proofs.msar_check as c-check-code
use Rattle.c_interface.specs.contracts.msar_durations as c-durations
use Rattle.c_interface.proofs.msar_durations as c-durations-code
use Rattle.c_interface.specs.contracts.msar_shares as c-shares
use Rattle.c_interface.proofs.msar_shares as c-shares-code
use Rattle.c_interface.specs.contracts.msar_matches as c-matches
use Rattle.c_interface.proofs.msar_matches as c-matches-code
use Rattle.c_interface.specs.contracts.msar_root as c-root
use Rattle.c_interface.proofs.msar_root as c-root-code
use Rattle.c_interface.specs.contracts.msar_log as c-log
use Rattle.c_interface.proofs.msar_log as c-log-code
use Rattle.c_interface.specs.contracts.msar_exp as c-exp
use Rattle.c_interface.proofs.msar_exp as c-exp-code
use Rattle.c_interface.specs.contracts.msar_lnpdf as c-lnpdf
use Rattle.c_interface.proofs.msar_lnpdf as c-lnpdf-code
use Rattle.promises.specs.Promised.{OutcomeOf, EntryPoint}
use Rattle.promises.specs.Types.{fn, value, table, reals, reals_mut, bytes, real_array, real_array_mut, whole_array, whole_array_mut, model, made, refusable, Check, Refusal, MsarSpec, Solution, MsarParams, Sixteen, Bound, Fitted, NumberOrPlace, Written}

-- Below, `fn n parameters result` is a function's type (Types.antt), with the references numbered from 0. Its arguments are a tuple in the order of its
-- parameters, and `now x` is what a reference x refers to at entry. An outcome is the result beside a tuple of the same order: what each parameter
-- that is lent by `&mut` holds at exit, `tt` for every other.

-- ---- what C calls, on a series: seven parameters describe spec, series and parameters; the last two, `whole` and `real`, take the answer; the rule
-- number stands before them, but not in `msar_fit`

abbrev pub msar_loglike_type : Ended
msar_loglike_type = fn 6 (value usize ∷ value usize ∷ value bool ∷ value bool ∷ reals 0 tt ∷ whole_array 1 tt 6 ∷ real_array 2 tt 400 ∷ reals_mut 3 tt ∷ value usize ∷ whole_array_mut 4 tt 4 ∷ real_array_mut 5 tt 2 ∷ []) (value unit)

abbrev pub msar_loglike_outcome : OutcomeOf msar_loglike_type
msar_loglike_outcome κs (k, (order, (ar, (variance, (series, (counts, (numbers, (work, (rule, _))))))))) =
    let o = left (loglike_call (spec_of k order ar variance) series.now (params_of counts.now numbers.now) rule work.now) in
    (tt, (tt, (tt, (tt, (tt, (tt, (tt, (tt, (o.work, (tt, (o.whole, (o.real, tt))))))))))))

abbrev pub msar_filter_type : Ended
msar_filter_type = fn 7 (value usize ∷ value usize ∷ value bool ∷ value bool ∷ reals 0 tt ∷ whole_array 1 tt 6 ∷ real_array 2 tt 400 ∷ reals_mut 3 tt ∷ reals_mut 4 tt ∷ value usize ∷ whole_array_mut 5 tt 4 ∷ real_array_mut 6 tt 2 ∷ []) (value unit)

abbrev pub msar_filter_outcome : OutcomeOf msar_filter_type
msar_filter_outcome κs (k, (order, (ar, (variance, (series, (counts, (numbers, (work, (filtered, (rule, _)))))))))) =
    let o = left (filter_call (spec_of k order ar variance) series.now (params_of counts.now numbers.now) rule work.now filtered.now) in
    (tt, (tt, (tt, (tt, (tt, (tt, (tt, (tt, (o.work, (o.filtered, (tt, (o.whole, (o.real, tt)))))))))))))

abbrev pub msar_smooth_type : Ended
msar_smooth_type = fn 8 (value usize ∷ value usize ∷ value bool ∷ value bool ∷ reals 0 tt ∷ whole_array 1 tt 6 ∷ real_array 2 tt 400 ∷ reals_mut 3 tt ∷ reals_mut 4 tt ∷ reals_mut 5 tt ∷ value usize ∷ whole_array_mut 6 tt 4 ∷ real_array_mut 7 tt 2 ∷ []) (value unit)

abbrev pub msar_smooth_outcome : OutcomeOf msar_smooth_type
msar_smooth_outcome κs (k, (order, (ar, (variance, (series, (counts, (numbers, (work, (filtered, (smoothed, (rule, _))))))))))) =
    let o = left (smooth_call (spec_of k order ar variance) series.now (params_of counts.now numbers.now) rule work.now filtered.now smoothed.now) in
    (tt, (tt, (tt, (tt, (tt, (tt, (tt, (tt, (o.work, (o.filtered, (o.smoothed, (tt, (o.whole, (o.real, tt))))))))))))))

abbrev pub msar_fit_type : Ended
msar_fit_type = fn 8 (value usize ∷ value usize ∷ value bool ∷ value bool ∷ reals 0 tt ∷ whole_array 1 tt 6 ∷ real_array 2 tt 400 ∷ reals_mut 3 tt ∷ reals_mut 4 tt ∷ value usize ∷ value f64 ∷ real_array_mut 5 tt 400 ∷ whole_array_mut 6 tt 4 ∷ real_array_mut 7 tt 2 ∷ []) (value unit)

abbrev pub msar_fit_outcome : OutcomeOf msar_fit_type
msar_fit_outcome κs (k, (order, (ar, (variance, (series, (counts, (numbers, (work, (smoothed, (maxIter, (tol, (fitted, _)))))))))))) =
    let o = fit_left (fit_call (spec_of k order ar variance) series.now (params_of counts.now numbers.now) maxIter tol work.now smoothed.now) fitted.now in
    (tt, (tt, (tt, (tt, (tt, (tt, (tt, (tt, (o.work, (o.smoothed, (tt, (tt, (o.fitted, (o.whole, (o.real, tt)))))))))))))))

-- ---- what C calls, on a spec or on parameters alone

abbrev pub msar_windows_type : Ended
msar_windows_type = fn 2 (value usize ∷ value usize ∷ whole_array_mut 0 tt 4 ∷ real_array_mut 1 tt 2 ∷ []) (value unit)

abbrev pub msar_windows_outcome : OutcomeOf msar_windows_type
msar_windows_outcome κs (k, (order, _)) =
    let o = windows_spelled (window_count k order) in
    (tt, (tt, (tt, (o.whole, (o.real, tt)))))

abbrev pub msar_check_type : Ended
msar_check_type = fn 4 (whole_array 0 tt 6 ∷ real_array 1 tt 400 ∷ whole_array_mut 2 tt 4 ∷ real_array_mut 3 tt 2 ∷ []) (value unit)

abbrev pub msar_check_outcome : OutcomeOf msar_check_type
msar_check_outcome κs (counts, (numbers, _)) =
    let o = spelled (parameter_check (params_of counts.now numbers.now)) 0 zero⁺ in
    (tt, (tt, (tt, (o.whole, (o.real, tt)))))

abbrev pub msar_durations_type : Ended
msar_durations_type = fn 5 (whole_array 0 tt 6 ∷ real_array 1 tt 400 ∷ real_array_mut 2 tt 16 ∷ whole_array_mut 3 tt 4 ∷ real_array_mut 4 tt 2 ∷ []) (value unit)

abbrev pub msar_durations_outcome : OutcomeOf msar_durations_type
msar_durations_outcome κs (counts, (numbers, (durations, _))) =
    let o = listed (durations_of (params_of counts.now numbers.now)) durations.now in
    (tt, (tt, (tt, (o.values, (o.whole, (o.real, tt))))))

abbrev pub msar_shares_type : Ended
msar_shares_type = fn 5 (whole_array 0 tt 6 ∷ real_array 1 tt 400 ∷ real_array_mut 2 tt 16 ∷ whole_array_mut 3 tt 4 ∷ real_array_mut 4 tt 2 ∷ []) (value unit)

abbrev pub msar_shares_outcome : OutcomeOf msar_shares_type
msar_shares_outcome κs (counts, (numbers, (shares, _))) =
    let o = listed (shares_of (params_of counts.now numbers.now)) shares.now in
    (tt, (tt, (tt, (o.values, (o.whole, (o.real, tt))))))

abbrev pub msar_matches_type : Ended
msar_matches_type = fn 2 (value usize ∷ value usize ∷ value bool ∷ value bool ∷ whole_array 0 tt 6 ∷ real_array 1 tt 400 ∷ []) (value bool)

abbrev pub msar_matches_outcome : OutcomeOf msar_matches_type
msar_matches_outcome κs (k, (order, (ar, (variance, (counts, (numbers, _)))))) = (matches_spec (spec_of k order ar variance) (params_of counts.now numbers.now), (tt, (tt, (tt, (tt, (tt, (tt, tt)))))))

-- ---- the calls on a series: answer, work memory, tables

abbrev pub loglike_type : Ended
loglike_type = fn 2 (value MsarSpec ∷ reals 0 tt ∷ value MsarParams ∷ value usize ∷ reals_mut 1 tt ∷ []) (value (refusable f64))

abbrev pub loglike_outcome : OutcomeOf loglike_type
loglike_outcome κs (s, (series, (q, (rule, (work, _))))) =
    let o = loglike_call s series.now q rule work.now in
    (o.answer, (tt, (tt, (tt, (tt, (o.work, tt))))))

abbrev pub filter_type : Ended
filter_type = fn 3 (value MsarSpec ∷ reals 0 tt ∷ value MsarParams ∷ value usize ∷ reals_mut 1 tt ∷ reals_mut 2 tt ∷ []) (value (refusable f64))

abbrev pub filter_outcome : OutcomeOf filter_type
filter_outcome κs (s, (series, (q, (rule, (work, (filtered, _)))))) =
    let o = filter_call s series.now q rule work.now filtered.now in
    (o.answer, (tt, (tt, (tt, (tt, (o.work, (o.filtered, tt)))))))

abbrev pub smooth_type : Ended
smooth_type = fn 4 (value MsarSpec ∷ reals 0 tt ∷ value MsarParams ∷ value usize ∷ reals_mut 1 tt ∷ reals_mut 2 tt ∷ reals_mut 3 tt ∷ []) (value (refusable f64))

abbrev pub smooth_outcome : OutcomeOf smooth_type
smooth_outcome κs (s, (series, (q, (rule, (work, (filtered, (smoothed, _))))))) =
    let o = smooth_call s series.now q rule work.now filtered.now smoothed.now in
    (o.answer, (tt, (tt, (tt, (tt, (o.work, (o.filtered, (o.smoothed, tt))))))))

abbrev pub fit_type : Ended
fit_type = fn 3 (value MsarSpec ∷ reals 0 tt ∷ value MsarParams ∷ value usize ∷ value f64 ∷ reals_mut 1 tt ∷ reals_mut 2 tt ∷ []) (value (refusable Fitted))

abbrev pub fit_outcome : OutcomeOf fit_type
fit_outcome κs (s, (series, (start, (maxIter, (tol, (work, (smoothed, _))))))) =
    let o = fit_call s series.now start maxIter tol work.now smoothed.now in
    (o.answer, (tt, (tt, (tt, (tt, (tt, (o.work, (o.smoothed, tt))))))))

-- ---- the checks of what a call is handed: 1 to 6 with the counts, 7, those of the parameters, and these behind 29

abbrev pub bind_type : Ended
bind_type = fn 1 (value MsarSpec ∷ reals 0 tt ∷ []) (value (refusable Bound))

abbrev pub bind_outcome : OutcomeOf bind_type
bind_outcome κs (s, (series, _)) = (bound_of s series.now, (tt, (tt, tt)))

abbrev pub memory_type : Ended
memory_type = fn 0 (value usize ∷ value usize ∷ []) (value Check)

abbrev pub memory_outcome : OutcomeOf memory_type
memory_outcome κs (lent, (needed, _)) = (memory_check lent needed, (tt, (tt, tt)))

abbrev pub parameters_type : Ended
parameters_type = fn 0 (value MsarSpec ∷ value MsarParams ∷ []) (value Check)

abbrev pub parameters_outcome : OutcomeOf parameters_type
parameters_outcome κs (s, (q, _)) = (params_check s q, (tt, (tt, tt)))

abbrev pub asked_type : Ended
asked_type = fn 0 (value usize ∷ value MsarSpec ∷ value MsarParams ∷ []) (value Check)

abbrev pub asked_outcome : OutcomeOf asked_type
asked_outcome κs (rule, (s, (q, _))) = (rule_check rule before params_check s q, (tt, (tt, (tt, tt))))

-- ---- the record: `new` keeps the very series and spec, and each method is the plain call on them

abbrev pub record_new_type : Ended
record_new_type = fn 1 (reals 0 tt ∷ value MsarSpec ∷ []) (made 0 tt)

abbrev pub record_new_outcome : OutcomeOf record_new_type
record_new_outcome κs (series, (s, _)) = (record { check = bound_check s series.now; model = record { series = series; spec = s } }, (tt, (tt, tt)))

abbrev pub record_loglike_type : Ended
record_loglike_type = fn 2 (model 0 tt ∷ value MsarParams ∷ value usize ∷ reals_mut 1 tt ∷ []) (value (refusable f64))

abbrev pub record_loglike_outcome : OutcomeOf record_loglike_type
record_loglike_outcome κs (self, (q, (rule, (work, _)))) =
    let o = loglike_call self.spec self.series.now q rule work.now in
    (o.answer, (tt, (tt, (tt, (o.work, tt)))))

abbrev pub record_filter_type : Ended
record_filter_type = fn 3 (model 0 tt ∷ value MsarParams ∷ value usize ∷ reals_mut 1 tt ∷ reals_mut 2 tt ∷ []) (value (refusable f64))

abbrev pub record_filter_outcome : OutcomeOf record_filter_type
record_filter_outcome κs (self, (q, (rule, (work, (filtered, _))))) =
    let o = filter_call self.spec self.series.now q rule work.now filtered.now in
    (o.answer, (tt, (tt, (tt, (o.work, (o.filtered, tt))))))

abbrev pub record_smooth_type : Ended
record_smooth_type = fn 4 (model 0 tt ∷ value MsarParams ∷ value usize ∷ reals_mut 1 tt ∷ reals_mut 2 tt ∷ reals_mut 3 tt ∷ []) (value (refusable f64))

abbrev pub record_smooth_outcome : OutcomeOf record_smooth_type
record_smooth_outcome κs (self, (q, (rule, (work, (filtered, (smoothed, _)))))) =
    let o = smooth_call self.spec self.series.now q rule work.now filtered.now smoothed.now in
    (o.answer, (tt, (tt, (tt, (o.work, (o.filtered, (o.smoothed, tt)))))))

abbrev pub record_fit_type : Ended
record_fit_type = fn 3 (model 0 tt ∷ value MsarParams ∷ value usize ∷ value f64 ∷ reals_mut 1 tt ∷ reals_mut 2 tt ∷ []) (value (refusable Fitted))

abbrev pub record_fit_outcome : OutcomeOf record_fit_type
record_fit_outcome κs (self, (start, (maxIter, (tol, (work, (smoothed, _)))))) =
    let o = fit_call self.spec self.series.now start maxIter tol work.now smoothed.now in
    (o.answer, (tt, (tt, (tt, (tt, (o.work, (o.smoothed, tt)))))))

-- ---- the record made and used once: the check of `new`, and the plain calls

abbrev pub check_of_type : Ended
check_of_type = fn 1 (value MsarSpec ∷ reals 0 tt ∷ []) (value Check)

abbrev pub check_of_outcome : OutcomeOf check_of_type
check_of_outcome κs (s, (series, _)) = (bound_check s series.now, (tt, (tt, tt)))

-- ---- the spec, the parameters, the stationary shares

abbrev pub expanded_states_type : Ended
expanded_states_type = fn 0 (value MsarSpec ∷ []) (value (refusable usize))

abbrev pub expanded_states_outcome : OutcomeOf expanded_states_type
expanded_states_outcome κs (s, _) = (window_count s.k_regimes s.order, (tt, tt))

abbrev pub new_type : Ended
new_type = fn 0 (value MsarParams ∷ []) (value (refusable MsarParams))

abbrev pub new_outcome : OutcomeOf new_type
new_outcome κs (q, _) = (built_of q, (tt, tt))

abbrev pub check_type : Ended
check_type = fn 0 (value MsarParams ∷ []) (value Check)

abbrev pub check_outcome : OutcomeOf check_type
check_outcome κs (q, _) = (parameter_check q, (tt, tt))

abbrev pub expected_durations_type : Ended
expected_durations_type = fn 0 (value MsarParams ∷ []) (value (refusable Sixteen))

abbrev pub expected_durations_outcome : OutcomeOf expected_durations_type
expected_durations_outcome κs (q, _) = (durations_of q, (tt, tt))

abbrev pub matches_spec_type : Ended
matches_spec_type = fn 0 (value MsarParams ∷ value MsarSpec ∷ []) (value bool)

abbrev pub matches_spec_outcome : OutcomeOf matches_spec_type
matches_spec_outcome κs (q, (s, _)) = (matches_spec s q, (tt, (tt, tt)))

abbrev pub k_regimes_type : Ended
k_regimes_type = fn 0 (value MsarParams ∷ []) (value usize)

abbrev pub k_regimes_outcome : OutcomeOf k_regimes_type
k_regimes_outcome κs (q, _) = (k q, (tt, tt))

abbrev pub order_type : Ended
order_type = fn 0 (value MsarParams ∷ []) (value usize)

abbrev pub order_outcome : OutcomeOf order_type
order_outcome κs (q, _) = (p q, (tt, tt))

abbrev pub switching_ar_type : Ended
switching_ar_type = fn 0 (value MsarParams ∷ []) (value bool)

abbrev pub switching_ar_outcome : OutcomeOf switching_ar_type
switching_ar_outcome κs (q, _) = (switches q.ar_blocks, (tt, tt))

abbrev pub switching_variance_type : Ended
switching_variance_type = fn 0 (value MsarParams ∷ []) (value bool)

abbrev pub switching_variance_outcome : OutcomeOf switching_variance_type
switching_variance_outcome κs (q, _) = (switches q.variances_count, (tt, tt))

abbrev pub stationary_shares_type : Ended
stationary_shares_type = fn 0 (value MsarParams ∷ []) (value (refusable Sixteen))

abbrev pub stationary_shares_outcome : OutcomeOf stationary_shares_type
stationary_shares_outcome κs (q, _) = (shares_of q, (tt, tt))

-- ---- refusals: what document 01's table says of each, and the first of two checks

abbrev pub number_type : Ended
number_type = fn 0 (value Refusal ∷ []) (value usize)

abbrev pub number_outcome : OutcomeOf number_type
number_outcome κs (r, _) = ((said r).number, (tt, tt))

abbrev pub place_type : Ended
place_type = fn 0 (value Refusal ∷ []) (value usize)

abbrev pub place_outcome : OutcomeOf place_type
place_outcome κs (r, _) = ((said r).place, (tt, tt))

abbrev pub value_type : Ended
value_type = fn 0 (value Refusal ∷ []) (value f64)

abbrev pub value_outcome : OutcomeOf value_type
value_outcome κs (r, _) = ((said r).value, (tt, tt))

abbrev pub first_of_type : Ended
first_of_type = fn 0 (value Check ∷ value Check ∷ []) (value Check)

abbrev pub first_of_outcome : OutcomeOf first_of_type
first_of_outcome κs (first, (second, _)) = (first before second, (tt, (tt, tt)))

-- ---- the solver, and elementary functions, here and from C

abbrev pub solve_type : Ended
solve_type = fn 0 (table 256 ∷ table 16 ∷ value usize ∷ []) (value Solution)

abbrev pub solve_outcome : OutcomeOf solve_type
solve_outcome κs (a, (b, (n, _))) = (solve_of n a b, (tt, (tt, (tt, tt))))

abbrev pub root_type : Ended
root_type = fn 0 (value f64 ∷ []) (value f64)

abbrev pub root_outcome : OutcomeOf root_type
root_outcome κs (x, _) = (root_of x, (tt, tt))

abbrev pub log_type : Ended
log_type = fn 0 (value f64 ∷ []) (value f64)

abbrev pub log_outcome : OutcomeOf log_type
log_outcome κs (x, _) = (log_of x, (tt, tt))

abbrev pub exp_type : Ended
exp_type = fn 0 (value f64 ∷ []) (value f64)

abbrev pub exp_outcome : OutcomeOf exp_type
exp_outcome κs (x, _) = (exp_of x, (tt, tt))

abbrev pub lnpdf_type : Ended
lnpdf_type = fn 0 (value f64 ∷ []) (value f64)

abbrev pub lnpdf_outcome : OutcomeOf lnpdf_type
lnpdf_outcome κs (z, _) = (lnpdf_of z, (tt, tt))

-- ---- numbers: bit patterns, magnitude, is finite, finite and above zero, the larger

abbrev pub pattern_type : Ended
pattern_type = fn 0 (value f64 ∷ []) (value u64)

abbrev pub pattern_outcome : OutcomeOf pattern_type
pattern_outcome κs (x, _) = (pattern_of x, (tt, tt))

abbrev pub of_pattern_type : Ended
of_pattern_type = fn 0 (value u64 ∷ []) (value f64)

abbrev pub of_pattern_outcome : OutcomeOf of_pattern_type
of_pattern_outcome κs (n, _) = (float n, (tt, tt))

abbrev pub magnitude_type : Ended
magnitude_type = fn 0 (value f64 ∷ []) (value f64)

abbrev pub magnitude_outcome : OutcomeOf magnitude_type
magnitude_outcome κs (x, _) = (magnitude_of x, (tt, tt))

abbrev pub is_finite_type : Ended
is_finite_type = fn 0 (value f64 ∷ []) (value bool)

abbrev pub is_finite_outcome : OutcomeOf is_finite_type
is_finite_outcome κs (x, _) = (finite x, (tt, tt))

abbrev pub is_usable_type : Ended
is_usable_type = fn 0 (value f64 ∷ []) (value bool)

abbrev pub is_usable_outcome : OutcomeOf is_usable_type
is_usable_outcome κs (x, _) = (usable x, (tt, tt))

abbrev pub max_type : Ended
max_type = fn 0 (value f64 ∷ value f64 ∷ []) (value f64)

abbrev pub max_outcome : OutcomeOf max_type
max_outcome κs (x, (y, _)) = (max_of x y, (tt, (tt, tt)))

-- ---- decimals: a text read, a number written

abbrev pub read_type : Ended
read_type = fn 1 (bytes 0 tt ∷ []) (value NumberOrPlace)

abbrev pub read_outcome : OutcomeOf read_type
read_outcome κs (text, _) = (read_of text.now, (tt, tt))

abbrev pub write_type : Ended
write_type = fn 0 (value f64 ∷ []) (value Written)

abbrev pub write_outcome : OutcomeOf write_type
write_outcome κs (x, _) = (written_of x, (tt, tt))

-- ---- and each of them is so. M: the logic's own resources, any

pub record EntryPoints (M : Type 1) : Type 2 where
  -- what C calls, on a series
  pub msar_loglike : EntryPoint M msar_loglike_type (λ 𝓤 𝓛. c-loglike.clauses 𝓛) c-loglike-code.Symbol.code c-loglike-code.Symbol.name msar_loglike_outcome
  pub msar_filter : EntryPoint M msar_filter_type (λ 𝓤 𝓛. c-filter.clauses 𝓛) c-filter-code.Symbol.code c-filter-code.Symbol.name msar_filter_outcome
  pub msar_smooth : EntryPoint M msar_smooth_type (λ 𝓤 𝓛. c-smooth.clauses 𝓛) c-smooth-code.Symbol.code c-smooth-code.Symbol.name msar_smooth_outcome
  pub msar_fit : EntryPoint M msar_fit_type (λ 𝓤 𝓛. c-fit.clauses 𝓛) c-fit-code.Symbol.code c-fit-code.Symbol.name msar_fit_outcome
  -- what C calls, on a spec or on parameters alone
  pub msar_windows : EntryPoint M msar_windows_type (λ 𝓤 𝓛. c-windows.clauses 𝓛) c-windows-code.Symbol.code c-windows-code.Symbol.name msar_windows_outcome
  pub msar_check : EntryPoint M msar_check_type (λ 𝓤 𝓛. c-check.clauses 𝓛) c-check-code.Symbol.code c-check-code.Symbol.name msar_check_outcome
  pub msar_durations : EntryPoint M msar_durations_type (λ 𝓤 𝓛. c-durations.clauses 𝓛) c-durations-code.Symbol.code c-durations-code.Symbol.name msar_durations_outcome
  pub msar_shares : EntryPoint M msar_shares_type (λ 𝓤 𝓛. c-shares.clauses 𝓛) c-shares-code.Symbol.code c-shares-code.Symbol.name msar_shares_outcome
  pub msar_matches : EntryPoint M msar_matches_type (λ 𝓤 𝓛. c-matches.clauses 𝓛) c-matches-code.Symbol.code c-matches-code.Symbol.name msar_matches_outcome
  -- the calls on a series
  pub loglike : EntryPoint M loglike_type (λ 𝓤 𝓛. calls-loglike.clauses 𝓛) calls-loglike-code.Symbol.code calls-loglike-code.Symbol.name loglike_outcome
  pub filter : EntryPoint M filter_type (λ 𝓤 𝓛. calls-filter.clauses 𝓛) calls-filter-code.Symbol.code calls-filter-code.Symbol.name filter_outcome
  pub smooth : EntryPoint M smooth_type (λ 𝓤 𝓛. calls-smooth.clauses 𝓛) calls-smooth-code.Symbol.code calls-smooth-code.Symbol.name smooth_outcome
  pub fit : EntryPoint M fit_type (λ 𝓤 𝓛. fit-fit.clauses 𝓛) fit-fit-code.Symbol.code fit-fit-code.Symbol.name fit_outcome
  -- the checks of what a call is handed
  pub bind : EntryPoint M bind_type (λ 𝓤 𝓛. binding-bind.clauses 𝓛) binding-bind-code.Symbol.code binding-bind-code.Symbol.name bind_outcome
  pub memory : EntryPoint M memory_type (λ 𝓤 𝓛. binding-memory.clauses 𝓛) binding-memory-code.Symbol.code binding-memory-code.Symbol.name memory_outcome
  pub parameters : EntryPoint M parameters_type (λ 𝓤 𝓛. binding-parameters.clauses 𝓛) binding-parameters-code.Symbol.code binding-parameters-code.Symbol.name parameters_outcome
  pub asked : EntryPoint M asked_type (λ 𝓤 𝓛. binding-asked.clauses 𝓛) binding-asked-code.Symbol.code binding-asked-code.Symbol.name asked_outcome
  -- the record
  pub record_new : EntryPoint M record_new_type (λ 𝓤 𝓛. record-new.clauses 𝓛) record-new-code.Symbol.code record-new-code.Symbol.name record_new_outcome
  pub record_loglike : EntryPoint M record_loglike_type (λ 𝓤 𝓛. record-loglike.clauses 𝓛) record-loglike-code.Symbol.code record-loglike-code.Symbol.name record_loglike_outcome
  pub record_filter : EntryPoint M record_filter_type (λ 𝓤 𝓛. record-filter.clauses 𝓛) record-filter-code.Symbol.code record-filter-code.Symbol.name record_filter_outcome
  pub record_smooth : EntryPoint M record_smooth_type (λ 𝓤 𝓛. record-smooth.clauses 𝓛) record-smooth-code.Symbol.code record-smooth-code.Symbol.name record_smooth_outcome
  pub record_fit : EntryPoint M record_fit_type (λ 𝓤 𝓛. record-fit.clauses 𝓛) record-fit-code.Symbol.code record-fit-code.Symbol.name record_fit_outcome
  -- the record made and used once
  pub check_of : EntryPoint M check_of_type (λ 𝓤 𝓛. record-check_of.clauses 𝓛) record-check_of-code.Symbol.code record-check_of-code.Symbol.name check_of_outcome
  pub loglike_of : EntryPoint M loglike_type (λ 𝓤 𝓛. record-loglike_of.clauses 𝓛) record-loglike_of-code.Symbol.code record-loglike_of-code.Symbol.name loglike_outcome
  pub filter_of : EntryPoint M filter_type (λ 𝓤 𝓛. record-filter_of.clauses 𝓛) record-filter_of-code.Symbol.code record-filter_of-code.Symbol.name filter_outcome
  pub smooth_of : EntryPoint M smooth_type (λ 𝓤 𝓛. record-smooth_of.clauses 𝓛) record-smooth_of-code.Symbol.code record-smooth_of-code.Symbol.name smooth_outcome
  pub fit_of : EntryPoint M fit_type (λ 𝓤 𝓛. record-fit_of.clauses 𝓛) record-fit_of-code.Symbol.code record-fit_of-code.Symbol.name fit_outcome
  -- the spec, the parameters, the stationary shares
  pub expanded_states : EntryPoint M expanded_states_type (λ 𝓤 𝓛. spec-expanded_states.clauses 𝓛) spec-expanded_states-code.Symbol.code spec-expanded_states-code.Symbol.name expanded_states_outcome
  pub new : EntryPoint M new_type (λ 𝓤 𝓛. params-new.clauses 𝓛) params-new-code.Symbol.code params-new-code.Symbol.name new_outcome
  pub check : EntryPoint M check_type (λ 𝓤 𝓛. params-check.clauses 𝓛) params-check-code.Symbol.code params-check-code.Symbol.name check_outcome
  pub expected_durations : EntryPoint M expected_durations_type (λ 𝓤 𝓛. params-expected_durations.clauses 𝓛) params-expected_durations-code.Symbol.code params-expected_durations-code.Symbol.name expected_durations_outcome
  pub matches_spec : EntryPoint M matches_spec_type (λ 𝓤 𝓛. params-matches_spec.clauses 𝓛) params-matches_spec-code.Symbol.code params-matches_spec-code.Symbol.name matches_spec_outcome
  pub k_regimes : EntryPoint M k_regimes_type (λ 𝓤 𝓛. params-k_regimes.clauses 𝓛) params-k_regimes-code.Symbol.code params-k_regimes-code.Symbol.name k_regimes_outcome
  pub order : EntryPoint M order_type (λ 𝓤 𝓛. params-order.clauses 𝓛) params-order-code.Symbol.code params-order-code.Symbol.name order_outcome
  pub switching_ar : EntryPoint M switching_ar_type (λ 𝓤 𝓛. params-switching_ar.clauses 𝓛) params-switching_ar-code.Symbol.code params-switching_ar-code.Symbol.name switching_ar_outcome
  pub switching_variance : EntryPoint M switching_variance_type (λ 𝓤 𝓛. params-switching_variance.clauses 𝓛) params-switching_variance-code.Symbol.code params-switching_variance-code.Symbol.name switching_variance_outcome
  pub stationary_shares : EntryPoint M stationary_shares_type (λ 𝓤 𝓛. stationary-stationary_shares.clauses 𝓛) stationary-stationary_shares-code.Symbol.code stationary-stationary_shares-code.Symbol.name stationary_shares_outcome
  -- refusals
  pub number : EntryPoint M number_type (λ 𝓤 𝓛. refusal-number.clauses 𝓛) refusal-number-code.Symbol.code refusal-number-code.Symbol.name number_outcome
  pub place : EntryPoint M place_type (λ 𝓤 𝓛. refusal-place.clauses 𝓛) refusal-place-code.Symbol.code refusal-place-code.Symbol.name place_outcome
  pub value : EntryPoint M value_type (λ 𝓤 𝓛. refusal-value.clauses 𝓛) refusal-value-code.Symbol.code refusal-value-code.Symbol.name value_outcome
  pub first_of : EntryPoint M first_of_type (λ 𝓤 𝓛. refusal-first_of.clauses 𝓛) refusal-first_of-code.Symbol.code refusal-first_of-code.Symbol.name first_of_outcome
  -- the solver, and elementary functions, here and from C
  pub solve : EntryPoint M solve_type (λ 𝓤 𝓛. linsolve-solve.clauses 𝓛) linsolve-solve-code.Symbol.code linsolve-solve-code.Symbol.name solve_outcome
  pub root : EntryPoint M root_type (λ 𝓤 𝓛. root-root.clauses 𝓛) root-root-code.Symbol.code root-root-code.Symbol.name root_outcome
  pub log : EntryPoint M log_type (λ 𝓤 𝓛. log-log.clauses 𝓛) log-log-code.Symbol.code log-log-code.Symbol.name log_outcome
  pub exp : EntryPoint M exp_type (λ 𝓤 𝓛. exp-exp.clauses 𝓛) exp-exp-code.Symbol.code exp-exp-code.Symbol.name exp_outcome
  pub lnpdf : EntryPoint M lnpdf_type (λ 𝓤 𝓛. normal-lnpdf.clauses 𝓛) normal-lnpdf-code.Symbol.code normal-lnpdf-code.Symbol.name lnpdf_outcome
  pub msar_root : EntryPoint M root_type (λ 𝓤 𝓛. c-root.clauses 𝓛) c-root-code.Symbol.code c-root-code.Symbol.name root_outcome
  pub msar_log : EntryPoint M log_type (λ 𝓤 𝓛. c-log.clauses 𝓛) c-log-code.Symbol.code c-log-code.Symbol.name log_outcome
  pub msar_exp : EntryPoint M exp_type (λ 𝓤 𝓛. c-exp.clauses 𝓛) c-exp-code.Symbol.code c-exp-code.Symbol.name exp_outcome
  pub msar_lnpdf : EntryPoint M lnpdf_type (λ 𝓤 𝓛. c-lnpdf.clauses 𝓛) c-lnpdf-code.Symbol.code c-lnpdf-code.Symbol.name lnpdf_outcome
  -- numbers
  pub pattern : EntryPoint M pattern_type (λ 𝓤 𝓛. number-pattern.clauses 𝓛) number-pattern-code.Symbol.code number-pattern-code.Symbol.name pattern_outcome
  pub of_pattern : EntryPoint M of_pattern_type (λ 𝓤 𝓛. number-of_pattern.clauses 𝓛) number-of_pattern-code.Symbol.code number-of_pattern-code.Symbol.name of_pattern_outcome
  pub magnitude : EntryPoint M magnitude_type (λ 𝓤 𝓛. number-magnitude.clauses 𝓛) number-magnitude-code.Symbol.code number-magnitude-code.Symbol.name magnitude_outcome
  pub is_finite : EntryPoint M is_finite_type (λ 𝓤 𝓛. number-is_finite.clauses 𝓛) number-is_finite-code.Symbol.code number-is_finite-code.Symbol.name is_finite_outcome
  pub is_usable : EntryPoint M is_usable_type (λ 𝓤 𝓛. number-is_usable.clauses 𝓛) number-is_usable-code.Symbol.code number-is_usable-code.Symbol.name is_usable_outcome
  pub max : EntryPoint M max_type (λ 𝓤 𝓛. number-max.clauses 𝓛) number-max-code.Symbol.code number-max-code.Symbol.name max_outcome
  -- decimals
  pub read : EntryPoint M read_type (λ 𝓤 𝓛. text_decimal_read-read.clauses 𝓛) text_decimal_read-read-code.Symbol.code text_decimal_read-read-code.Symbol.name read_outcome
  pub write : EntryPoint M write_type (λ 𝓤 𝓛. text_decimal_write-write.clauses 𝓛) text_decimal_write-write-code.Symbol.code text_decimal_write-write-code.Symbol.name write_outcome
