-- The tables that are made once a call: variances by label, deviations and their logarithms. Assumes nothing.
use Rattle.std.specs.Prelude.{if◌then◌else◌}
use Prim.Native.Nat.{ℕ, ◌%◌, ◌<◌, ◌≤◌}
use mathlib.Core.Path.{◌≡◌, refl, ap, ◌∙◌}
use mathlib.Core.Bool.{Bool, true, false}
use mathlib.Core.List.{List}
use native.Mathlib.Nat.{mod-lt, mod-mod}
use native.Mathlib.Omega.{arith}
use lib.ListN.{replicate}
use lib.Ieee.{Float}
use Rattle.number.specs.Number.{◌=?◌, zero⁺}
use Rattle.number.specs.Table.{◌!◌, fill_at}
use Rattle.number.proofs.Table.{fill_at_ext, fill_at_lem}
use Rattle.root.specs.Root.{root_of}
use Rattle.logarithm.specs.Log.{log_of}
use Rattle.params.specs.declared.MsarParams.{MsarParams}
use Rattle.params.specs.Parameters.{k, block_of, variance}
use Rattle.density.specs.Steps.{variances_from, deviation_at, log_at}

-- a block is among the labels
block_cases : (t : Bool) (s n : ℕ) → s < n → (if t then 0 else s) < n
block_cases true s n h = omega arith
block_cases false s n h = h

pub block_below : (count s n : ℕ) → s < n → block_of count s < n
block_below count s n h = block_cases (count =? 1) s n h

-- the variances by label are the variances of the labels
pub variances_at : (q : MsarParams) (s : ℕ) → s < k q → variances_from q.variances q.variances_count (k q) ! s ≡ variance q s
unfolding variances_from
variances_at q s h = fill_at_lem _ (k q) (replicate 16 zero⁺) refl s h

pub deviations_filled : (q : MsarParams) (m : ℕ) (l own : List Float) {r : List Float} → own ≡ variances_from q.variances q.variances_count (k q) → 0 < k q
    → r ≡ fill_at 0 (λ a. root_of (own ! (a % k q))) m l → r ≡ fill_at 0 (deviation_at q) m l
unfolding deviation_at
deviations_filled q m l own e h e' = e' ∙ fill_at_ext 0 _ m l _ (λ a _. ap root_of (ap (λ (x : List Float). x ! (a % k q)) e ∙ variances_at q (a % k q) (mod-lt a h)))

-- a window has the deviation of its label now
deviation_again : (q : MsarParams) (a : ℕ) → deviation_at q (a % k q) ≡ deviation_at q a
unfolding deviation_at
deviation_again q a = rw mod-mod

pub logs_filled : (q : MsarParams) (n m : ℕ) (l l' : List Float) {d r : List Float} → k q ≡ n → d ≡ fill_at 0 (deviation_at q) m l
    → r ≡ fill_at 0 (λ a. log_of (d ! (a % n))) m l' → 0 < n → n ≤ m → r ≡ fill_at 0 (log_at q) m l'
unfolding log_at
logs_filled q n m l l' {d} {r} c e e' h i =
    let at : (a : ℕ) → d ! (a % n) ≡ deviation_at q (a % n) = λ a. fill_at_lem (deviation_at q) m l e (a % n) (omega (arith, mod-lt a h)) in
    let same : (a : ℕ) → deviation_at q (a % n) ≡ deviation_at q a = λ a. rw (← c) (deviation_again q a) in
    e' ∙ fill_at_ext 0 _ m l' (log_at q) (λ a j. ap log_of (at a ∙ same a))
