-- What the command `msar verdict` says of regime r, from the smoothed table (n rows of k probabilities) and the regime's expected duration d.
-- A run of the regime is settled once it lasts three expected durations. Of the stays in a regime that the model expects, fewer than one in
-- twenty last three times their mean ((1 - 1/d)^(3d - 1) < 1/20), so a run as long as that is no passing visit. And thirty readings in a row,
-- a month of shows, are acted on whether or not the model expects the stay to end.
use Rattle.std.specs.Prelude.{ℕ, zero, suc, ◌+◌, ◌-◌, ◌*◌, Bool, List, get_or, Float, if◌then◌else◌}
use Rattle.std.specs.Float.Ieee.{lt, le}
use Rattle.number.specs.Number.{◌≤?◌, ◌=?◌, ◌⊗◌, of_whole, float, zero⁺, half}
use Rattle.msar_verdict.specs.declared.Verdict.{Verdict}
use Rattle.msar_verdict.specs.declared.Verdict.TheVariants.{No, NotSettled, Settled}
use Rattle.msar_verdict.specs.declared.Finding.{Finding}

-- ---- the run

-- the number at place e of the table; a place beyond the table reads as +0
abbrev pub at : List Float → ℕ → Float
at table e = get_or table e zero⁺

module _ (table : List Float) (k r : ℕ) where
  -- the smoothed probability of r in row i
  unfoldable pub share_of : ℕ → Float
  share_of i = at table (i * k + r)

  -- above one half; one half itself is not, and a NaN is not
  unfoldable pub is_above : ℕ → Bool
  is_above i = lt half (share_of i)

  -- the run: how many of n rows, one behind the other up to the last, are above one half; 0 where the last is not
  unfoldable pub run_of : ℕ → ℕ
  run_of zero = 0
  run_of (suc i) = if is_above i then suc (run_of i) else 0

  -- the probability at the end: the last row's, +0 where there is no row
  unfoldable pub last_of : ℕ → Float
  last_of zero = zero⁺
  last_of (suc i) = share_of i

-- ---- how many readings a run needs

abbrev pub three : Float
three = float 0x4008_0000_0000_0000

-- m is at least three expected durations; where the duration is a NaN, no m is
unfoldable pub is_enough : Float → ℕ → Bool
is_enough d m = le (three ⊗ d) (of_whole m)

-- the least whole number from m up that is enough, but never more than m + more
unfoldable pub least_from : Float → ℕ → ℕ → ℕ
least_from d m zero = m
least_from d m (suc more) = if is_enough d m then m else least_from d (suc m) more

-- needed: the least whole number from 3 up that is at least three expected durations, but never more than 30; 30 where the duration is a NaN
unfoldable pub needed_of : Float → ℕ
needed_of d = least_from d 3 (30 - 3)

-- ---- the verdict

-- settled: needed ≤ run; not settled: a run, but a shorter one
unfoldable pub verdict_of : ℕ → ℕ → Verdict
verdict_of run needed = if run =? 0 then No else (if needed ≤? run then Settled else NotSettled)

-- since: the row with which the run begins, n where there is none
unfoldable pub finding_of : List Float → ℕ → ℕ → ℕ → Float → Finding
finding_of table n k r d =
    let run = run_of table k r n in
    let needed = needed_of d in
    record { verdict = verdict_of run needed; run = run; needed = needed; since = n - run; share = last_of table k r n }
