-- A list filled at all places is the row that it was filled with; an answer of 16 numbers is what its definition says. Assumes nothing.
use Rattle.std.specs.Prelude.{Result}
use Prim.Native.Nat.{ℕ}
use mathlib.Core.Path.{◌≡◌, ap, ◌∙◌}
use mathlib.Core.List.{List, append-nil}
use native.Mathlib.Nat.{zero-add}
use lib.ListN.{length}
use lib.Seq.{drop-length}
use lib.Ieee.{Float}
use Rattle.number.specs.Number.{zero⁺}
use Rattle.number.specs.Table.{tab, fill_at}
use Rattle.refusal.specs.Checks.{check_of}
use Rattle.refusal.specs.declared.Refusal.{Refusal}
use Rattle.c_layout.specs.Layout.{Spelled, spelled, Listed, values_after, listed}

pub filled_whole : (f : ℕ → Float) (l : List Float) {m : List Float} {n : ℕ} → m ≡ fill_at 0 f n l → n ≡ length l → m ≡ tab f (length l)
unfolding fill_at
filled_whole f l e h = rw (e, h, zero-add, drop-length, append-nil)

-- an answer of 16 numbers
pub lists : (a : Result (List Float) Refusal) (found : List Float) {lent : List Float} {whole : List ℕ} {real : List Float} → lent ≡ values_after a found
    → ◌≡◌ {A = Spelled} (record { whole = whole; real = real }) (spelled (check_of a) 0 zero⁺)
    → ◌≡◌ {A = Listed} (record { values = lent; whole = whole; real = real }) (listed a found)
unfolding listed
lists a found {lent} e told =
    ap (λ (s : Spelled). record { values = lent; whole = s.whole; real = s.real }) told
    ∙ ap (λ (l : List Float). record { values = l; whole = (spelled (check_of a) 0 zero⁺).whole; real = (spelled (check_of a) 0 zero⁺).real }) e
