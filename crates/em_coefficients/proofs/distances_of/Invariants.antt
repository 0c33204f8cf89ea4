-- The distances of a window, label by label.
use Prim.Native.Nat.{◌/◌, ◌^◌}
use mathlib.Core.Path.{◌≡◌}
use Rattle.number.specs.Table.{fill_at}
use Rattle.em_coefficients.specs.Steps.{distance_of}
use Rattle.em_coefficients.proofs.distances_of.Given as goal

abbrev pub invariant-loop-l : goal.invariant-loop-l
invariant-loop-l l =
    record {
      labels : l.rest ≡ l.a / l.k ^ l.l;
      read : l.x ≡ fill_at 0 (distance_of l.k l.fn.sizes.order l.distances l.a) l.l l.initial.x;
    }
