-- Functions that are `pub` for the crates above alone: most ask what those are proved to meet, and where it is met no two outcomes satisfy the
-- contract, as it stands in the source. After document 01, "How much a contract says". What has no field is in docs/CONTRACTS.md, "Exceptions".
use Rattle.std.specs.Prelude.{◌≡◌, Float, Ok, Err}
use seplogic.Ra.Ura.{Ura}
use base.Logic.{SProp}
use contract.Monad.{Fun}
use prog.Memory.{Memory}
use prog.Routine.{Routine}
use types.Logic.{Logic}
use denote.Triple.Clauses.{Ended}
use Rattle.number.specs.contracts.of_whole as number-of_whole
use Rattle.number.specs.contracts.first_failing as number-first_failing
use Rattle.number.specs.contracts.copy as number-copy
use Rattle.window.specs.contracts.label as window-label
use Rattle.window.specs.contracts.predecessor as window-predecessor
use Rattle.window.specs.contracts.successor as window-successor
use Rattle.window.specs.contracts.next_label as window-next_label
use Rattle.window.specs.contracts.time_of as window-time_of
use Rattle.window.specs.contracts.sizes.Sizes.of as window-sizes_of
use Rattle.window.specs.contracts.sizes.Sizes.shaped as window-sizes_shaped
use Rattle.refusal.specs.contracts.Refusal.said as refusal-said
use Rattle.linsolve.specs.contracts.Unsolved.column as linsolve-column
use Rattle.rows.specs.contracts.smoothed.Smoothed.time_of as rows-time_of
use Rattle.params.specs.contracts.tidy.tidied as params-tidied
use Rattle.stationary.specs.contracts.solved_shares as stationary-solved_shares
use Rattle.rows.specs.contracts.store as rows-store
use Rattle.rows.specs.contracts.clear as rows-clear
use Rattle.rows.specs.contracts.tabulate as rows-tabulate
use Rattle.density.specs.contracts.block_of as density-block_of
use Rattle.density.specs.contracts.variances as density-variances
use Rattle.density.specs.contracts.deviations as density-deviations
use Rattle.density.specs.contracts.Scales.of as density-scales
use Rattle.density.specs.contracts.phis_of as density-phis_of
use Rattle.density.specs.contracts.phis as density-phis
use Rattle.density.specs.contracts.add_lags as density-add_lags
use Rattle.density.specs.contracts.weigh as density-weigh
use Rattle.prediction.specs.contracts.rule_of as prediction-rule_of
use Rattle.prediction.specs.contracts.first_row as prediction-first_row
use Rattle.prediction.specs.contracts.steps as prediction-steps
use Rattle.prediction.specs.contracts.later_row as prediction-later_row
use Rattle.binding.specs.contracts.filter_need as binding-filter_need
use Rattle.binding.specs.contracts.smooth_need as binding-smooth_need
use Rattle.calls.specs.contracts.memory as calls-memory
use Rattle.filter.specs.contracts.divide as filter-divide
use Rattle.em_sample_variance.specs.contracts.sample_variance as em_sample_variance-sample_variance
use Rattle.em_ridge.specs.contracts.solve_or_keep as em_ridge-solve_or_keep
use Rattle.em_counts.specs.contracts.new_transition as em_counts-new_transition
use Rattle.em_means.specs.contracts.new_means as em_means-new_means
use Rattle.em_coefficients.specs.contracts.new_ar as em_coefficients-new_ar
use Rattle.em_variances.specs.contracts.new_variances as em_variances-new_variances
use Rattle.em_step.specs.contracts.step as em_step-step
use Rattle.c_layout.specs.contracts.given.params_of as c_layout-params_of
use Rattle.c_layout.specs.contracts.told.spell as c_layout-spell
use Rattle.c_layout.specs.contracts.told.spell_windows as c_layout-spell_windows
use Rattle.c_layout.specs.contracts.told.spell_loglik as c_layout-spell_loglik
use Rattle.c_layout.specs.contracts.told.spell_fit as c_layout-spell_fit
use Rattle.c_layout.specs.contracts.told.list as c_layout-list
use Rattle.c_layout.specs.contracts.told.lay_out as c_layout-lay_out
use Rattle.refusal.specs.Checks.{Failed, ◌before◌}
use Rattle.refusal.specs.declared.Refusal.{Refusal}
use Rattle.params.specs.declared.MsarParams.{MsarParams}
use Rattle.filter.specs.Filter.{answer_after}
use Rattle.promises.specs.Promised.{OneOutcome, OneOutcomeAsked, Contract}

module _ (M : Type 1) (T : Ended) (c : Contract M T) where
  abbrev pub One : Type 2
  One = (𝓤 : Ura M) (𝓛 : Logic 𝓤) (mem : Memory → SProp 𝓤) (run : Routine → Fun 𝓤) → OneOutcome 𝓤 T (c 𝓤 𝓛 mem run)

  abbrev pub OneAsked : Type 2
  OneAsked = (𝓤 : Ura M) (𝓛 : Logic 𝓤) (mem : Memory → SProp 𝓤) (run : Routine → Fun 𝓤) → OneOutcomeAsked 𝓤 T (c 𝓤 𝓛 mem run)

pub record BetweenCrates (M : Type 1) : Type 2 where
  -- whole numbers and rows
  pub of_whole : One M number-of_whole.ended (λ 𝓤 𝓛. number-of_whole.clauses 𝓛)
  pub first_failing : One M number-first_failing.ended (λ 𝓤 𝓛. number-first_failing.clauses 𝓛)
  pub copy : One M number-copy.ended (λ 𝓤 𝓛. number-copy.clauses 𝓛)
  -- windows and times
  pub label : One M window-label.ended (λ 𝓤 𝓛. window-label.clauses 𝓛)
  pub predecessor : One M window-predecessor.ended (λ 𝓤 𝓛. window-predecessor.clauses 𝓛)
  pub successor : One M window-successor.ended (λ 𝓤 𝓛. window-successor.clauses 𝓛)
  pub next_label : OneAsked M window-next_label.ended (λ 𝓤 𝓛. window-next_label.clauses 𝓛)
  pub time_of : One M window-time_of.ended (λ 𝓤 𝓛. window-time_of.clauses 𝓛)
  pub sizes_of : One M window-sizes_of.ended (λ 𝓤 𝓛. window-sizes_of.clauses 𝓛)
  pub sizes_shaped : One M window-sizes_shaped.ended (λ 𝓤 𝓛. window-sizes_shaped.clauses 𝓛)
  -- the column that a refusal names
  pub column : One M linsolve-column.ended (λ 𝓤 𝓛. linsolve-column.clauses 𝓛)
  -- what a refusal says, parameters tidied, the shares of a table; after a refusal there are no parameters, whatever they were made from
  pub said : One M refusal-said.ended (λ 𝓤 𝓛. refusal-said.clauses 𝓛)
  pub tidied : One M params-tidied.ended (λ 𝓤 𝓛. params-tidied.clauses 𝓛)
  pub refused_params : (r : Refusal) (q : MsarParams) → (Failed r before Ok q) ≡ Err r
  pub solved_shares : One M stationary-solved_shares.ended (λ 𝓤 𝓛. stationary-solved_shares.clauses 𝓛)
  -- rows in memory, densities, predictions, the filter's parts, the lengths needed
  pub store : One M rows-store.ended (λ 𝓤 𝓛. rows-store.clauses 𝓛)
  pub clear : One M rows-clear.ended (λ 𝓤 𝓛. rows-clear.clauses 𝓛)
  pub tabulate : One M rows-tabulate.ended (λ 𝓤 𝓛. rows-tabulate.clauses 𝓛)
  pub block_of : One M density-block_of.ended (λ 𝓤 𝓛. density-block_of.clauses 𝓛)
  pub variances : One M density-variances.ended (λ 𝓤 𝓛. density-variances.clauses 𝓛)
  pub deviations : One M density-deviations.ended (λ 𝓤 𝓛. density-deviations.clauses 𝓛)
  pub scales : One M density-scales.ended (λ 𝓤 𝓛. density-scales.clauses 𝓛)
  pub phis_of : One M density-phis_of.ended (λ 𝓤 𝓛. density-phis_of.clauses 𝓛)
  pub phis : One M density-phis.ended (λ 𝓤 𝓛. density-phis.clauses 𝓛)
  pub add_lags : One M density-add_lags.ended (λ 𝓤 𝓛. density-add_lags.clauses 𝓛)
  pub weigh : One M density-weigh.ended (λ 𝓤 𝓛. density-weigh.clauses 𝓛)
  pub rule_of : One M prediction-rule_of.ended (λ 𝓤 𝓛. prediction-rule_of.clauses 𝓛)
  pub first_row : One M prediction-first_row.ended (λ 𝓤 𝓛. prediction-first_row.clauses 𝓛)
  pub steps : One M prediction-steps.ended (λ 𝓤 𝓛. prediction-steps.clauses 𝓛)
  pub later_row : One M prediction-later_row.ended (λ 𝓤 𝓛. prediction-later_row.clauses 𝓛)
  pub filter_need : One M binding-filter_need.ended (λ 𝓤 𝓛. binding-filter_need.clauses 𝓛)
  pub smooth_need : One M binding-smooth_need.ended (λ 𝓤 𝓛. binding-smooth_need.clauses 𝓛)
  pub call_memory : One M calls-memory.ended (λ 𝓤 𝓛. calls-memory.clauses 𝓛)
  pub refused_answer : (r : Refusal) (loglik : Float) → answer_after (Failed r) loglik ≡ Err r
  pub divide : One M filter-divide.ended (λ 𝓤 𝓛. filter-divide.clauses 𝓛)
  -- the EM step and its parts
  pub sample_variance : One M em_sample_variance-sample_variance.ended (λ 𝓤 𝓛. em_sample_variance-sample_variance.clauses 𝓛)
  pub row_time : One M rows-time_of.ended (λ 𝓤 𝓛. rows-time_of.clauses 𝓛)
  pub solve_or_keep : One M em_ridge-solve_or_keep.ended (λ 𝓤 𝓛. em_ridge-solve_or_keep.clauses 𝓛)
  pub new_transition : One M em_counts-new_transition.ended (λ 𝓤 𝓛. em_counts-new_transition.clauses 𝓛)
  pub new_means : One M em_means-new_means.ended (λ 𝓤 𝓛. em_means-new_means.clauses 𝓛)
  pub new_ar : One M em_coefficients-new_ar.ended (λ 𝓤 𝓛. em_coefficients-new_ar.clauses 𝓛)
  pub new_variances : One M em_variances-new_variances.ended (λ 𝓤 𝓛. em_variances-new_variances.clauses 𝓛)
  pub step : One M em_step-step.ended (λ 𝓤 𝓛. em_step-step.clauses 𝓛)
  -- the arrays of the C interface
  pub params_of : One M c_layout-params_of.ended (λ 𝓤 𝓛. c_layout-params_of.clauses 𝓛)
  pub spell : One M c_layout-spell.ended (λ 𝓤 𝓛. c_layout-spell.clauses 𝓛)
  pub spell_windows : One M c_layout-spell_windows.ended (λ 𝓤 𝓛. c_layout-spell_windows.clauses 𝓛)
  pub spell_loglik : One M c_layout-spell_loglik.ended (λ 𝓤 𝓛. c_layout-spell_loglik.clauses 𝓛)
  pub spell_fit : One M c_layout-spell_fit.ended (λ 𝓤 𝓛. c_layout-spell_fit.clauses 𝓛)
  pub list : One M c_layout-list.ended (λ 𝓤 𝓛. c_layout-list.clauses 𝓛)
  pub lay_out : One M c_layout-lay_out.ended (λ 𝓤 𝓛. c_layout-lay_out.clauses 𝓛)
