use Prim.Native.Nat.{◌+◌, ◌≤◌}
use mathlib.Core.Path.{◌≡◌}
use native.Mathlib.Omega.{arith}
use Rattle.number.proofs.Table.{fill_at_none, fill_more}
use Rattle.window.proofs.Arithmetic.{divided_none, divided_more}
use Rattle.em_coefficients.proofs.Parts.{distance_read}
use Rattle.em_coefficients.proofs.distances_of.Goals.{In-loop-l}
use Rattle.em_coefficients.proofs.distances_of.Goals as goal

pub loop-l-init : goal.loop-l-init
loop-l-init c = record { labels = divided_none _ _; read = fill_at_none 0 _ _ }

pub loop-l-preserved : goal.loop-l-preserved
loop-l-preserved c =
    let inv = c.loop-l.invariant in
    let lag : c.loop-l.l ≤ c.args.sizes.order = omega (arith, c.loop-l-test.true) in
    record {
      labels = divided_more _ _ _ inv.labels;
      read = fill_more _ _ _ inv.read (distance_read c.args.sizes.k c.args.a c.args.sizes.order c.args.distances.now _ lag inv.labels) (omega arith);
    }

pub returns : goal.returns
returns c = let e : c.loop-l.l ≡ c.args.sizes.order + 1 = omega arith in rw e at c.loop-l.invariant.read
