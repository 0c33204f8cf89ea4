-- Where n rows of m windows stand in work memory during a run, as far as they are kept (`Held`, crates/filter): the filtered weights of row i, later
-- its smoothed ones, from place i·m on, so that place e of the smoothed table is place e of memory; the predicted weights behind all of them. A
-- reader of the calls need not know it: at their end this memory holds positive zero.
use Rattle.std.specs.Prelude.{ℕ, ◌+◌, ◌*◌}

abbrev pub filtered_from : ℕ → ℕ → ℕ
filtered_from m i = i * m

abbrev pub predicted_from : ℕ → ℕ → ℕ → ℕ
predicted_from n m i = n * m + i * m
