-- `Refusal::said`: in each arm the refusal is the one that the arm names.
use mathlib.Core.Path.{◌≡◌, sym, ap, ◌∙◌}
use Rattle.refusal.specs.Refusals.{said}
use Rattle.refusal.specs.declared.Refusal.{Refusal}
use Rattle.refusal.specs.declared.Said.{Said}
use Rattle.refusal.proofs.Refusal.said.Goals as goal

told : {r q : Refusal} {s : Said} → s ≡ said q → r ≡ q → s ≡ said r
told f e = f ∙ sym (ap said e)

pub returns-in-FewRegimes : goal.returns-in-FewRegimes
returns-in-FewRegimes c = told c.saying.ensures c.in-FewRegimes.is

pub returns-in-ManyWindows : goal.returns-in-ManyWindows
returns-in-ManyWindows c = told c.saying-in-ManyWindows.ensures c.in-ManyWindows.is

pub returns-in-ManyRegimes : goal.returns-in-ManyRegimes
returns-in-ManyRegimes c = told c.saying-in-ManyRegimes.ensures c.in-ManyRegimes.is

pub returns-in-ShortSeries : goal.returns-in-ShortSeries
returns-in-ShortSeries c = told c.saying-in-ShortSeries.ensures c.in-ShortSeries.is

pub returns-in-LongSeries : goal.returns-in-LongSeries
returns-in-LongSeries c = told c.saying-in-LongSeries.ensures c.in-LongSeries.is

pub returns-in-Reading : goal.returns-in-Reading
returns-in-Reading c = told c.saying-in-Reading.ensures c.in-Reading.is

pub returns-in-Memory : goal.returns-in-Memory
returns-in-Memory c = told c.saying-in-Memory.ensures c.in-Memory.is

pub returns-in-FewMeans : goal.returns-in-FewMeans
returns-in-FewMeans c = told c.saying-in-FewMeans.ensures c.in-FewMeans.is

pub returns-in-Beyond : goal.returns-in-Beyond
returns-in-Beyond c = told c.saying-in-Beyond.ensures c.in-Beyond.is

pub returns-in-Mean : goal.returns-in-Mean
returns-in-Mean c = told c.saying-in-Mean.ensures c.in-Mean.is

pub returns-in-Length : goal.returns-in-Length
returns-in-Length c = told c.saying-in-Length.ensures c.in-Length.is

pub returns-in-Transition : goal.returns-in-Transition
returns-in-Transition c = told c.saying-in-Transition.ensures c.in-Transition.is

pub returns-in-Column : goal.returns-in-Column
returns-in-Column c = told c.saying-in-Column.ensures c.in-Column.is

pub returns-in-NoAr : goal.returns-in-NoAr
returns-in-NoAr c = told c.saying-in-NoAr.ensures c.in-NoAr.is

pub returns-in-Ar : goal.returns-in-Ar
returns-in-Ar c = told c.saying-in-Ar.ensures c.in-Ar.is

pub returns-in-Variance : goal.returns-in-Variance
returns-in-Variance c = told c.saying-in-Variance.ensures c.in-Variance.is

pub returns-in-Shape : goal.returns-in-Shape
returns-in-Shape c = told c.saying-in-Shape.ensures c.in-Shape.is

pub returns-in-Singular : goal.returns-in-Singular
returns-in-Singular c = told c.saying-in-Singular.ensures c.in-Singular.is

pub returns-in-Share : goal.returns-in-Share
returns-in-Share c = told c.saying-in-Share.ensures c.in-Share.is

pub returns-in-Likelihood : goal.returns-in-Likelihood
returns-in-Likelihood c = told c.saying-in-Likelihood.ensures c.in-Likelihood.is

pub returns-in-OrderZero : goal.returns-in-OrderZero
returns-in-OrderZero c = told c.saying-in-OrderZero.ensures c.in-OrderZero.is

pub returns-in-SampleVariance : goal.returns-in-SampleVariance
returns-in-SampleVariance c = told c.saying-in-SampleVariance.ensures c.in-SampleVariance.is

pub returns-in-Loglike : goal.returns-in-Loglike
returns-in-Loglike c = told c.saying-in-Loglike.ensures c.in-Loglike.is

pub returns-in-OtherRule : goal.returns-in-OtherRule
returns-in-OtherRule c = told c.saying-in-OtherRule.ensures c.in-OtherRule.is
