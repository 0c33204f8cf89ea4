-- `passes` meets its contract: the state is that after i passes, and stays where they do not go on.
use Prim.Native.Nat.{◌*◌}
use mathlib.Core.Path.{◌≡◌}
use lib.ListN.{length, drop}
use Rattle.fit.specs.Fit.{passes_to}
use Rattle.fit.proofs.passes.Given as goal

abbrev pub invariant-loop-i : goal.invariant-loop-i
invariant-loop-i l =
    (l.state ≡ passes_to l.y l.tol l.initial.state.params l.i) × (length l.work ≡ length l.initial.work) × (drop (2 * (l.n * l.sizes.windows)) l.work ≡ drop (2 * (l.n * l.sizes.windows)) l.initial.work)
