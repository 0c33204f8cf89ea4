-- The sums over lists of crates/rounding are document 01's sums upward; those over a label's places run over i, i + k, i + 2-k, .. Assumes nothing.
use mathlib.Core.Path.{◌≡◌, refl, ap, ◌∙◌}
use mathlib.Core.Bool.{Bool, true, false, cond}
use mathlib.Core.List.{List, [], ◌∷◌, ◌++◌, map}
use mathlib.Core.Logic.{inl, inr}
use Prim.Native.Nat.{ℕ, zero, suc, ◌+◌, ◌*◌, ◌%◌, ◌<◌, ◌≤◌, zero-le}
use native.Mathlib.Nat.{add-zero, zero-add, add-suc, add_comm, suc-mul, zero-mul, eq-or-lt_of_le, ne_of_lt, ne_of_gt, le_refl}
use native.Mathlib.Omega.{arith}
use borrow.Author.Tests.{eq-eqb, ne_eqb, lt-ltb, le-ltb}
use lib.Arith.{digits_mod}
use lib.Dec.{T, eqb}
use lib.ListN.{length}
use lib.Ieee.{Float, Format, binary64, add}
use lib.Ieee.Fits.{and_i, and_l, and_r}
use Rattle.number.specs.Number.{◌=?◌, ◌<?◌, ◌⊕◌, zero⁺}
use Rattle.number.specs.Sums.{sum_up, sum_where}
use Rattle.number.specs.Table.{tab}
use Rattle.number.proofs.Table.{length_tab}
use Rattle.rounding.specs.Sums.{every, sum_from, total}
use Rattle.rounding.specs.Shares.{part}
use Rattle.rounding.proofs.Choose.{le_or_lt}

-- ---- a list one number longer

from_append : (f : Format) (a : Float) (xs ys : List Float) → sum_from f a (xs ++ ys) ≡ sum_from f (sum_from f a xs) ys
from_append f a [] ys = refl
from_append f a (x ∷ xs) ys = from_append f (add f a x) xs ys

map_more : (h : Float → Float) (xs : List Float) (x : Float) → map h (xs ++ (x ∷ [])) ≡ map h xs ++ (h x ∷ [])
map_more h [] x = refl
map_more h (y ∷ xs) x = ap (λ (l : List Float). h y ∷ l) (map_more h xs x)

every_more : (test : Float → Bool) (xs : List Float) (x : Float) → T (every test xs) → T (test x) → T (every test (xs ++ (x ∷ [])))
every_more test [] x h t = and_i (test x) true t tt
every_more test (y ∷ xs) x h t = and_i (test y) (every test (xs ++ (x ∷ []))) (and_l (test y) (every test xs) h) (every_more test xs x (and_r (test y) (every test xs) h) t)

part_more : (k i j : ℕ) (xs : List Float) (x : Float) → part k i j (xs ++ (x ∷ [])) ≡ part k i j xs ++ part k i (j + length xs) (x ∷ [])
part_more k i j [] x = rw (add-zero j)
part_more k i j (y ∷ xs) x = go (eqb (j % k) i) (part k i (suc j) xs) (part k i (j + suc (length xs)) (x ∷ [])) (part_more k i (suc j) xs x ∙ ap (λ (n : ℕ). part k i (suc j) xs ++ part k i n (x ∷ [])) (move j (length xs)))
  where
    move : (j n : ℕ) → suc j + n ≡ j + suc n
    move j n = omega arith

    go : (b : Bool) (vs ws : List Float) {us : List Float} → us ≡ vs ++ ws → cond b (y ∷ us) us ≡ cond b (y ∷ vs) vs ++ ws
    go true vs ws e = ap (λ (l : List Float). y ∷ l) e
    go false vs ws e = e

-- ---- the list f 0, f 1, .., f (n - 1)

pub total_tab : (f : ℕ → Float) (n : ℕ) → total binary64 (tab f n) ≡ sum_up f n
unfolding tab sum_up
total_tab f zero = refl
total_tab f (suc n) = from_append binary64 zero⁺ (tab f n) (f n ∷ []) ∙ ap (λ (s : Float). s ⊕ f n) (total_tab f n)

pub map_tab : (h : Float → Float) (f : ℕ → Float) (n : ℕ) → map h (tab f n) ≡ tab (λ a. h (f a)) n
unfolding tab
map_tab h f zero = refl
map_tab h f (suc n) = map_more h (tab f n) (f n) ∙ ap (λ (l : List Float). l ++ (h (f n) ∷ [])) (map_tab h f n)

pub every_tab : (test : Float → Bool) (f : ℕ → Float) (n : ℕ) → ((a : ℕ) → a < n → T (test (f a))) → T (every test (tab f n))
unfolding tab
every_tab test f zero h = tt
every_tab test f (suc n) h = every_more test (tab f n) (f n) (every_tab test f n (λ a l. h a (omega arith))) (h n (omega arith))

-- ---- what label i of k has of it

module _ (k i : ℕ) (f : ℕ → Float) where
  has : ℕ → Bool
  has a = a % k =? i

  part_where : (n : ℕ) → total binary64 (part k i 0 (tab f n)) ≡ sum_where has f n
  unfolding tab sum_where has
  part_where zero = refl
  part_where (suc n) =
      ap (total binary64) (part_more k i 0 (tab f n) (f n) ∙ ap (λ (j : ℕ). part k i 0 (tab f n) ++ part k i j (f n ∷ [])) (zero-add (length (tab f n)) ∙ length_tab f n))
      ∙ from_append binary64 zero⁺ (part k i 0 (tab f n)) (part k i n (f n ∷ []))
      ∙ last (has n) (part_where n)
    where
      last : (b : Bool) {s u : Float} → s ≡ u → sum_from binary64 s (cond b (f n ∷ []) []) ≡ cond b (u ⊕ f n) u
      last true e = ap (λ (s : Float). s ⊕ f n) e
      last false e = e

  -- from a multiple c-k on, the place i + c-k alone is met
  one_more : (c r : ℕ) (s : Float)
      → cond (r =? i) (cond (i <? r) (s ⊕ f (i + c * k)) s ⊕ f (c * k + r)) (cond (i <? r) (s ⊕ f (i + c * k)) s) ≡ cond (i <? suc r) (s ⊕ f (i + c * k)) s
  one_more c r s = elim (le_or_lt r i) [
    | inl l ↦ elim (eq-or-lt_of_le l) [
      | inl e ↦ rw (eq-eqb r i e, le-ltb i r l, lt-ltb i (suc r) (omega arith), e, add_comm (c * k) i)
      | inr g ↦ rw (ne_eqb r i (ne_of_lt g), le-ltb i r l, le-ltb i (suc r) g)
    ]
    | inr g ↦ rw (ne_eqb r i (ne_of_gt g), lt-ltb i r g, lt-ltb i (suc r) (omega arith))
  ]

  block : (c r : ℕ) → r ≤ k → sum_where has f (c * k + r) ≡ cond (i <? r) (sum_where has f (c * k) ⊕ f (i + c * k)) (sum_where has f (c * k))
  unfolding sum_where has
  block c zero h = rw (add-zero (c * k), le-ltb i 0 zero-le)
  block c (suc r) h = rw (add-suc (c * k) r, block c r (omega arith), digits_mod c h) (one_more c r (sum_where has f (c * k)))

  where_tab : i < k → (power : ℕ) → sum_where has f (power * k) ≡ sum_up (λ j. f (i + j * k)) power
  unfolding sum_up sum_where
  where_tab h zero = rw (zero-mul k)
  where_tab h (suc c) =
      ap (sum_where has f) (suc-mul c k)
      ∙ block c k (le_refl k)
      ∙ ap (λ (b : Bool). cond b (sum_where has f (c * k) ⊕ f (i + c * k)) (sum_where has f (c * k))) (lt-ltb i k h)
      ∙ ap (λ (s : Float). s ⊕ f (i + c * k)) (where_tab h c)

  -- their sum is the sum upward of the places i, i + k, i + 2-k, ..
  pub part_tab : i < k → (power : ℕ) → total binary64 (part k i 0 (tab f (power * k))) ≡ sum_up (λ j. f (i + j * k)) power
  part_tab h power = part_where (power * k) ∙ where_tab h power
