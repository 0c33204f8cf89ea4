-- The places of the smoothed table, over which the EM step sums: row i of m windows has its weights at places i·m, .., i·m + m - 1.
-- After Hamilton (1990), Kim and Nelson (1999), 4.3, and document 01, "EM step".
use Rattle.std.specs.Prelude.{ℕ, suc, ◌-◌, ◌*◌, ◌/◌, ◌%◌, Bool, List, drop, Float}
use Rattle.std.specs.Float.Ieee.{ne}
use Rattle.number.specs.Number.{◌⊖◌, ◌⊘◌, zero⁺}
use Rattle.number.specs.Table.{◌!◌}
use Rattle.window.specs.Windows.{labels, label}
use Rattle.window.specs.Time.{time_of}
use Rattle.window.specs.declared.Time.{Time}
use Rattle.params.specs.declared.MsarParams.{MsarParams}
use Rattle.params.specs.Parameters.{k, p, μ, variance}
use Rattle.rows.specs.Rows.{windows_of}
use Rattle.rows.specs.Memory.{filtered_from}

-- the smoothed rows that stand in work memory
abbrev pub rows_in : MsarParams → List Float → ℕ → List Float
rows_in q work i = drop (filtered_from (windows_of q) i) work

-- n rows of m windows
abbrev pub places : MsarParams → ℕ → ℕ
places q n = n * windows_of q

-- the label s_l of the window at place e
abbrev pub label_at : MsarParams → ℕ → ℕ → ℕ
label_at q e l = label (labels (k q) (suc (p q)) (e % windows_of q)) l

-- the time of its row's reading
abbrev pub time_at : MsarParams → ℕ → Time
time_at q e = time_of (p q) (record { 0 = e / windows_of q })

-- the smoothed weight there; rows are those of the smoothed table
abbrev pub weight_at : MsarParams → (ℕ → List Float) → ℕ → Float
weight_at q rows e = rows (e / windows_of q) ! (e % windows_of q)

-- windows with a smoothed weight equal to zero are skipped
abbrev pub seen : MsarParams → (ℕ → List Float) → ℕ → Bool
seen q rows e = ne (weight_at q rows e) zero⁺

-- smoothed weight over variance
abbrev pub precision : MsarParams → (ℕ → List Float) → ℕ → Float
precision q rows e = weight_at q rows e ⊘ variance q (label_at q e 0)

-- the reading l before, less the mean of its label: y[t-l] - μ[s_l]
abbrev pub distance : MsarParams → List Float → ℕ → ℕ → Float
distance q y e l = y ! ((time_at q e).0 - l) ⊖ μ q (label_at q e l)
