-- All signs are turned, place by place.
use mathlib.Core.Path.{◌≡◌}
use lib.Ieee.{neg}
use Rattle.number.specs.Table.{◌!◌, fill_at}
use Rattle.em_variances.proofs.turn.Given as goal

abbrev pub invariant-loop-phi : goal.invariant-loop-phi
invariant-loop-phi l = l.phis ≡ fill_at 0 (λ x. neg (l.initial.phis ! x)) l.phi-index l.initial.phis
