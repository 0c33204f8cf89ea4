-- Which limbs are zero: those below a place, and those from a place on. Assumes nothing.
use mathlib.Core.Path.{◌≡◌, refl, sym}
use mathlib.Core.Bool.{Bool, true, false}
use mathlib.Core.List.{List, [], ◌∷◌}
use Prim.Native.Nat.{ℕ, zero, suc, ◌+◌, ◌≤◌, ◌<◌}
use native.Mathlib.Omega.{arith}
use borrow.Author.Tests.{eq-eqb, ne_eqb}
use lib.Dec.{eqb}
use Rattle.std.proofs.Common.{IsTrue, ◌↔◌, EachIndex}
use lib.ListN.{length, get_or, drop}
use Rattle.text_limbs.specs.Limbs.{value}

-- ---- all of them

zero_limb : (l : List ℕ) (i : ℕ) → value l ≡ 0 → get_or l i 0 ≡ 0
unfolding value
zero_limb [] i e = refl
zero_limb (x ∷ l) zero e = omega arith
zero_limb (x ∷ l) (suc i) e = zero_limb l i (omega arith)

pub zero_value : (l : List ℕ) → ((i : ℕ) → i < length l → get_or l i 0 ≡ 0) → value l ≡ 0
unfolding value
zero_value [] h = refl
zero_value (x ∷ l) h =
    let first = h 0 (omega arith) in
    let rest = zero_value l (λ i k. h (suc i) (omega arith)) in
    omega arith

pub all_are : (l : List ℕ) (r : Bool) → IsTrue r ↔ EachIndex l (λ k. get_or l k 0 ≡ 0) → r ≡ eqb (value l) 0
all_are l true h = sym (eq-eqb (value l) 0 (zero_value l (h.0 refl)))
all_are l false h = sym (ne_eqb (value l) 0 (λ e. let z : false ≡ true = h.1 (λ k i. zero_limb l k e) in cc))

-- ---- those from a place on

from_on : (l : List ℕ) (i : ℕ) → ((k : ℕ) → k < length l → i ≤ k → get_or l k 0 ≡ 0) → value (drop i l) ≡ 0
from_on l zero h = zero_value l (λ k b. h k b (omega arith))
from_on [] (suc i) h = zero_value [] (λ k b. absurd (omega arith))
from_on (x ∷ l) (suc i) h = from_on l i (λ k b e. h (suc k) (omega arith) (omega arith))

pub zero_above : (l : List ℕ) (i : ℕ) → ((k : ℕ) → k < length l → i < k → get_or l k 0 ≡ 0) → value (drop (i + 1) l) ≡ 0
zero_above l i h = from_on l (i + 1) (λ k b e. h k b (omega arith))
