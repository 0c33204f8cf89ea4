-- What was read stands within the buffer.
use Rattle.std.proofs.Common.{◌≤◌, length}
use Rattle.host_io.proofs.read_full.Given as goal

abbrev pub invariant-loop : goal.invariant-loop
invariant-loop g l = l.done ≤ length l.buf
