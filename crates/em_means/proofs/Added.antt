-- One window added to the table and the right-hand side, label by label. Assumes nothing.
use Prim.Native.Nat.{ℕ, zero, suc, ◌+◌, ◌*◌, ◌<◌, ◌≤◌}
use mathlib.Core.Path.{◌≡◌, refl, sym, ap, ◌∙◌}
use mathlib.Core.Bool.{true, false}
use mathlib.Core.List.{List}
use native.Mathlib.Numerals.{add-one}
use native.Mathlib.Nat.{zero-add, suc-mul}
use native.Mathlib.Omega.{arith}
use lib.Arith.{digits_div, digits_mod}
use lib.ListN.{length, set}
use lib.Seq.{set-get_or}
use lib.Ieee.{Float, nan, eq, ne}
use Rattle.number.specs.Number.{◌⊕◌, ◌⊖◌, ◌⊗◌, ◌⊘◌, zero⁺}
use Rattle.number.specs.Table.{◌!◌, fill_at}
use Rattle.number.proofs.Table.{fill_at_none, fill_at_ext, fill_at_more, fill_at_past, fill_more, fill_join}
use Rattle.em_means.specs.Steps.{cell_added, side_added, cell_seen, side_seen}

-- a part filled with its own numbers leaves the list as it is
pub fill_at_own : (s : ℕ) (f : ℕ → Float) (n : ℕ) (l : List Float) → ((i : ℕ) → i < n → f i ≡ l ! (s + i)) → s + n ≤ length l → l ≡ fill_at s f n l
fill_at_own s f zero l h b = fill_at_none s f l
fill_at_own s f (suc n) l h b =
    sym (set-get_or l (s + n) nan)
    ∙ rw (add-one n) at (fill_at_more s f n l (fill_at_own s f n l (λ i j. h i (omega arith)) (omega arith)) (sym (h n (omega arith))) (omega arith))

equal_not : (x y : Float) → eq x y ≡ true → ne x y ≡ false
unfolding ne
equal_not x y h = rw h

unequal : (x y : Float) → eq x y ≡ false → ne x y ≡ true
unfolding ne
unequal x y h = rw h

-- a row of the table, place by place
pub scaled_more : (row : List Float) (at : ℕ) (f : Float) (c : ℕ) (l : List Float) {m : List Float}
    → m ≡ fill_at at (λ c. l ! (at + c) ⊕ f ⊗ row ! c) c l → at + c < length l
    → set m (at + c) (m ! (at + c) ⊕ f ⊗ row ! c) ≡ fill_at at (λ c. l ! (at + c) ⊕ f ⊗ row ! c) (c + 1) l
scaled_more row at f c l e h =
    fill_at_more at _ c l e (ap (λ (x : Float). x ⊕ f ⊗ row ! c) (fill_at_past at _ c l e (at + c) (omega arith) (omega arith))) h

module _ (row : List Float) (count : ℕ) (gw : Float) where
  -- ---- label r

  module _ (r : ℕ) where
    -- place c of row r
    cell_skipped : eq (row ! r) zero⁺ ≡ true → (l : List Float) (c : ℕ) → c < count
        → cell_added row count gw l (r * count + c) ≡ l ! (r * count + c)
    unfolding cell_added
    cell_skipped h l c i = rw (digits_div r i, equal_not _ _ h)

    cell_felt : eq (row ! r) zero⁺ ≡ false → (l : List Float) (c : ℕ) → c < count
        → l ! (r * count + c) ⊕ gw ⊗ row ! r ⊗ row ! c ≡ cell_added row count gw l (r * count + c)
    unfolding cell_added
    cell_felt h l c i = rw (digits_div r i, digits_mod r i, unequal _ _ h)

    pub label_skipped : eq (row ! r) zero⁺ ≡ true → (l : List Float) → r * count + count ≤ length l
        → l ≡ fill_at (r * count) (λ c. cell_added row count gw l (r * count + c)) count l
    label_skipped h l b = fill_at_own _ _ count l (λ c i. cell_skipped h l c i) b

    pub label_added : eq (row ! r) zero⁺ ≡ false → (l : List Float) {m : List Float}
        → m ≡ fill_at (r * count) (λ c. l ! (r * count + c) ⊕ gw ⊗ row ! r ⊗ row ! c) count l
        → m ≡ fill_at (r * count) (λ c. cell_added row count gw l (r * count + c)) count l
    label_added h l e = e ∙ fill_at_ext (r * count) _ count l _ (λ c i. cell_felt h l c i)

    module _ (d : Float) (l : List Float) where
      pub side_skipped : eq (row ! r) zero⁺ ≡ true → l ≡ set l r (side_added row count gw d l r)
      unfolding side_added
      side_skipped h = rw (equal_not _ _ h) (sym (set-get_or l r nan))

      pub side_added_lem : eq (row ! r) zero⁺ ≡ false
          → set l r (l ! r ⊖ gw ⊗ d ⊗ row ! r) ≡ set l r (side_added row count gw d l r)
      unfolding side_added
      side_added_lem h = rw (unequal _ _ h)

  -- ---- the labels one after another

  cell_same : (l m : List Float) (x : ℕ) → m ! x ≡ l ! x → cell_added row count gw m x ≡ cell_added row count gw l x
  unfolding cell_added
  cell_same l m x e = rw e

  pub cells_more : (r : ℕ) (l : List Float) {m m' : List Float} → m ≡ fill_at 0 (cell_added row count gw l) (r * count) l
      → m' ≡ fill_at (r * count) (λ c. cell_added row count gw m (r * count + c)) count m → r * count + count ≤ length l
      → m' ≡ fill_at 0 (cell_added row count gw l) ((r + 1) * count) l
  cells_more r l {m} e e' b =
      let f = cell_added row count gw l in
      rw (add-one r, suc-mul r count)
      (e'
      ∙ fill_at_ext (r * count) _ count m (λ c. f (r * count + c))
      (λ c i. cell_same l m (r * count + c) (fill_at_past 0 f (r * count) l e (r * count + c) (omega arith) (omega arith)))
      ∙ fill_join f (λ c. f (r * count + c)) (r * count) count l e (omega arith) (λ c i. refl))

  module _ (d : Float) where
    side_same : (l m : List Float) (x : ℕ) → m ! x ≡ l ! x → side_added row count gw d m x ≡ side_added row count gw d l x
    unfolding side_added
    side_same l m x e = rw e

    pub sides_more : (r : ℕ) (l : List Float) {m m' : List Float} → m ≡ fill_at 0 (side_added row count gw d l) r l
        → m' ≡ set m r (side_added row count gw d m r) → r < length l
        → m' ≡ fill_at 0 (side_added row count gw d l) (r + 1) l
    sides_more r l {m} e e' b =
        e' ∙ fill_more _ r l e (side_same l m r (fill_at_past 0 _ r l e r (omega arith) (omega arith))) b

-- ---- a window with its weight

module _ (row : List Float) (count : ℕ) (v g : Float) where
  module _ (h : eq g zero⁺ ≡ true) (l : List Float) where
    pub window_skipped : count * count ≤ length l → l ≡ fill_at 0 (cell_seen row count v g l) (count * count) l
    unfolding cell_seen
    window_skipped b = fill_at_own 0 _ (count * count) l (λ x i. rw (equal_not _ _ h, zero-add x)) (omega arith)

    pub window_side_skipped : (d : Float) → count ≤ length l → l ≡ fill_at 0 (side_seen row count v g d l) count l
    unfolding side_seen
    window_side_skipped d b = fill_at_own 0 _ count l (λ x i. rw (equal_not _ _ h, zero-add x)) (omega arith)

  module _ (h : eq g zero⁺ ≡ false) (l : List Float) {m : List Float} where
    pub window_added : m ≡ fill_at 0 (cell_added row count (g ⊘ v) l) (count * count) l
        → m ≡ fill_at 0 (cell_seen row count v g l) (count * count) l
    unfolding cell_seen
    window_added e = e ∙ fill_at_ext 0 _ (count * count) l _ (λ x i. rw (unequal _ _ h))

    pub window_side_added : (d : Float) → m ≡ fill_at 0 (side_added row count (g ⊘ v) d l) count l
        → m ≡ fill_at 0 (side_seen row count v g d l) count l
    unfolding side_seen
    window_side_added d e = e ∙ fill_at_ext 0 _ count l _ (λ x i. rw (unequal _ _ h))
