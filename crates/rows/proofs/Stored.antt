-- A row stored in memory: m places from s on are written anew, and every other place is as it was. And a row that is stored as row j, where the first
-- `kept` rows have a place. Assumes nothing.
use Prim.Native.Nat.{ℕ, ◌+◌, ◌*◌, ◌<◌, ◌≤◌}
use mathlib.Core.Path.{◌≡◌, sym, ap, ◌∙◌}
use mathlib.Core.List.{List}
use native.Mathlib.Nat.{lt_of_not-le}
use native.Mathlib.Decide.{dec_le}
use native.Mathlib.Omega.{arith}
use borrow.Author.Tests.{lt-ltb, le-ltb}
use lib.ListN.{length, drop}
use lib.Ieee.{Float}
use Rattle.number.specs.Table.{◌!◌, fill_at}
use Rattle.number.proofs.Table.{fill_at_long, fill_at_at, fill_at_before, fill_at_past, fill_at_rest, row_before}
use Rattle.rows.specs.Rows.{Same}
use Rattle.rows.specs.Steps.{stored}
use Rattle.rows.proofs.Places.{place}

module _ (s m : ℕ) (f : ℕ → Float) (l : List Float) (b : s + m ≤ length l) {l' : List Float} (e : l' ≡ fill_at s f m l) where
  pub stored_long : length l' ≡ length l
  stored_long = fill_at_long s f m l e b

  pub stored_there : (a : ℕ) → a < m → drop s l' ! a ≡ f a
  stored_there a x = place l' s a ∙ fill_at_at s f m l e a x (omega arith)

  -- a row that ends before it, one that begins behind it, and all that lies behind it
  pub stored_before : (u : ℕ) → u + m ≤ s → Same m (drop u l') (drop u l)
  stored_before u h a x = place l' u a ∙ fill_at_before s f m l e (u + a) (omega arith) (omega arith) ∙ sym (place l u a)

  pub stored_behind : (u : ℕ) → s + m ≤ u → Same m (drop u l') (drop u l)
  stored_behind u h a x = place l' u a ∙ fill_at_past s f m l e (u + a) (omega arith) (omega arith) ∙ sym (place l u a)

  pub stored_rest : (u : ℕ) → s + m ≤ u → drop u l' ≡ drop u l
  stored_rest u h = ap (drop u) e ∙ fill_at_rest s f m l u h (omega arith)

-- ---- row j, of which the first `kept` have a place

module _ (m kept j : ℕ) (row l : List Float) {l' : List Float} (e : l' ≡ stored m kept j row l) where
  pub is_kept : j < kept → l' ≡ fill_at (j * m) (λ a. row ! a) m l
  unfolding stored
  is_kept h = rw (lt-ltb _ _ h) at e

  pub not_kept : kept ≤ j → l' ≡ l
  unfolding stored
  not_kept h = rw (le-ltb _ _ h) at e

  module _ (b : kept * m ≤ length l) where
    in_room : j < kept → j * m + m ≤ length l
    in_room h = omega (arith, row_before m j kept h)

    pub row_long : length l' ≡ length l
    row_long = elim (dec_le kept j) [
      | yes h ↦ ap length (not_kept h)
      | no f ↦ (let h : j < kept = lt_of_not-le f in stored_long (j * m) m _ l (in_room h) (is_kept h))
    ]

    pub row_there : j < kept → Same m (drop (j * m) l') row
    row_there h = stored_there (j * m) m _ l (in_room h) (is_kept h)

    -- the rows before it, those behind it, and all that lies behind the kept ones
    pub rows_before : (i : ℕ) → i < j → Same m (drop (i * m) l') (drop (i * m) l)
    rows_before i g = elim (dec_le kept j) [
      | yes h ↦ λ a x. ap (λ (w : List Float). drop (i * m) w ! a) (not_kept h)
      | no f ↦ (let h : j < kept = lt_of_not-le f in stored_before (j * m) m _ l (in_room h) (is_kept h) (i * m) (row_before m i j g))
    ]

    pub rows_behind : (i : ℕ) → j < i → Same m (drop (i * m) l') (drop (i * m) l)
    rows_behind i g = elim (dec_le kept j) [
      | yes h ↦ λ a x. ap (λ (w : List Float). drop (i * m) w ! a) (not_kept h)
      | no f ↦ (let h : j < kept = lt_of_not-le f in stored_behind (j * m) m _ l (in_room h) (is_kept h) (i * m) (row_before m j i g))
    ]

    pub rest_behind : drop (kept * m) l' ≡ drop (kept * m) l
    rest_behind = elim (dec_le kept j) [
      | yes h ↦ ap (drop (kept * m)) (not_kept h)
      | no f ↦ (let h : j < kept = lt_of_not-le f in stored_rest (j * m) m _ l (in_room h) (is_kept h) (kept * m) (row_before m j kept h))
    ]
