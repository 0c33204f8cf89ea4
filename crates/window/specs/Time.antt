-- Rows and readings. Row i of a table of results speaks of the reading at time p + i: the first p readings only begin the window.
-- Document 01, "Labels, windows and time"; model.rs has `t = p + t_idx`.
use Rattle.std.specs.Prelude.{ℕ, ◌+◌}
use Rattle.window.specs.declared.Row.{Row}
use Rattle.window.specs.declared.Time.{Time}

-- the time of a row's reading, at order p
abbrev pub time_of : ℕ → Row → Time
time_of p r = record { 0 = p + r.0 }
