-- The sums that the code makes place by place are those of the definition, and so are the blocks that they give; and what the rows hold past their first m
-- places does not count. Assumes nothing.
use Rattle.std.specs.Prelude.{Result, if◌then◌else◌}
use Prim.Native.Nat.{ℕ, suc, ◌+◌, ◌*◌, ◌/◌, ◌%◌, ◌^◌, ◌<◌, ◌≤◌}
use mathlib.Core.Path.{◌≡◌, refl, ◌∙◌}
use mathlib.Core.List.{List}
use native.Mathlib.Nat.{mod-lt, div-lt_iff_lt-mul, mul-pos}
use native.Mathlib.Omega.{arith}
use lib.Arith.{digits_lt, digits_div, digits_mod}
use lib.ListN.{length, replicate}
use lib.Ieee.{Float, ne}
use Rattle.number.specs.Number.{◌⊗◌, zero⁺}
use Rattle.number.specs.Table.{◌!◌, fill_at}
use Rattle.number.proofs.Sums.{where_ext}
use Rattle.number.proofs.Table.{fill_at_ext, fill_at_lem, fill_long}
use Rattle.window.specs.Windows.{label, labels}
use Rattle.window.specs.Time.{time_of}
use Rattle.window.proofs.Windows.{label_below}
use Rattle.params.specs.declared.MsarParams.{MsarParams}
use Rattle.params.specs.Parameters.{k, p, block_of}
use Rattle.rows.specs.Rows.{Same, windows_of}
use Rattle.rows.specs.Smoothed.{rows_in, places}
use Rattle.rows.specs.Steps.{cell_at, counts_for, precision_in}
use Rattle.rows.proofs.Cells.{cells_none}
use Rattle.rows.proofs.ByPlace.{counts_in, precision_in_lem}
use Rattle.rows.proofs.SmoothedTable.{seen_same, precision_same}
use Rattle.density.specs.Steps.{variances_from}
use Rattle.density.proofs.Tables.{variances_at}
use Rattle.refusal.specs.declared.Refusal.{Refusal}
use Rattle.em_coefficients.specs.Coefficients.{blocks_of, in_block, product_at, ar_cell, ar_side, new_block, new_ar}
use Rattle.em_coefficients.specs.Steps.{distance_by, distance_of, distance_in, table_term, side_term, added_to, row_table, row_side, Summed, block_from}
use Rattle.em_coefficients.proofs.Walk.{block_more}
use Rattle.em_coefficients.proofs.Parts.{side_fits, table_fits, answers_ext}

-- ---- the sums, a place further

module _ (k p blocks : ℕ) (work : List Float) (w : ℕ → Float) (x : ℕ → ℕ → Float) where
  pub summed_none : Summed k p blocks work w x 0 (replicate 784 zero⁺) (replicate 112 zero⁺)
  summed_none = record { tabled = cells_none _ _ 784 784 (omega arith); sided = cells_none _ _ 112 112 (omega arith) }

  module _ {e : ℕ} {tables sides : List Float} (S : Summed k p blocks work w x e tables sides) where
    pub tables_long : length tables ≡ 784
    tables_long = fill_long _ 784 (replicate 784 zero⁺) S.tabled (omega arith)

    pub sides_long : length sides ≡ 112
    sides_long = fill_long _ 112 (replicate 112 zero⁺) S.sided (omega arith)

    -- place e, of label s now and block b, weight g and distances d
    pub summed_more : {g v : Float} {d : ℕ → Float} {tables' sides' : List Float} → 0 < p → p ≤ 7 → (b s : ℕ) → b < 16 → b ≡ block_of blocks s → e % k ≡ s → g ≡ work ! e
        → v ≡ w e → ((l : ℕ) → l ≤ p → d l ≡ x e l)
        → tables' ≡ (if ne g zero⁺ then added_to b (p * p) (table_term p v d) tables else tables)
        → sides' ≡ (if ne g zero⁺ then added_to b p (side_term v d) sides else sides)
        → Summed k p blocks work w x (e + 1) tables' sides'
    unfolding counts_for row_table row_side table_term side_term
    summed_more {g} {v} {d} pos few b s low eb now eg ev ed et es = record {
      tabled =
          block_more _ _ 784 e _ S.tabled (omega arith) b (p * p) (mul-pos pos pos) (table_fits low few) (ne g zero⁺) _
          (λ c. rw (eg, eb, now))
          (λ c h. rw (digits_mod b h, ev, ed (suc (c / p)) ((div-lt_iff_lt-mul pos).1 h), ed (suc (c % p)) (mod-lt c pos)))
          et;
      sided =
          block_more _ _ 112 e _ S.sided (omega arith) b p pos (side_fits low few) (ne g zero⁺) _
          (λ c. rw (eg, eb, now))
          (λ c h. rw (digits_mod b h, ev, ed (suc c) h, ed 0 (omega arith)))
          es;
    }

-- ---- the distances by place

pub distance_there : (k order m i a l : ℕ) (y means d : List Float) {distances : List Float} → 0 < k → a < m → l ≤ order
    → distances ≡ fill_at 0 (distance_by k y (time_of order (record { 0 = i })) means) (suc order * k) d
    → distance_of k order distances a l ≡ distance_in k order m y means (i * m + a) l
unfolding distance_of distance_in distance_by
distance_there k order m i a l y means d pos h hl e =
    let lag : l < suc order = omega arith in
    let s = label_below k pos (suc order) a l lag in
    fill_at_lem _ (suc order * k) d e (l * k + label (labels k (suc order) a) l) (digits_lt lag s) ∙ rw (digits_div l s, digits_mod l s, digits_div i h, digits_mod i h)

-- ---- the blocks

module _ (q : MsarParams) (positive : 0 < k q) (pos : 0 < p q) (small : p q ≤ 7) (y work : List Float) (n : ℕ) where
  abbrev own : List Float
  own = variances_from q.variances q.variances_count (k q)

  abbrev w : ℕ → Float
  w = precision_in (k q) own work

  abbrev x : ℕ → ℕ → Float
  x = distance_in (k q) (p q) (windows_of q) y q.means

  counted : (b e : ℕ) → e < places q n → counts_for (k q) q.ar_blocks work b e ≡ in_block q (rows_in q work) b e
  unfolding in_block
  counted b e _ = counts_in q positive e work q.ar_blocks b

  product_is : (i j e : ℕ) → w e ⊗ x e i ⊗ x e j ≡ product_at q y (rows_in q work) i j e
  unfolding product_at distance_in
  product_is i j e = rw (precision_in_lem q positive e work own (variances_at q (e % k q) (mod-lt e positive)))

  cell_is : (b c : ℕ) → b < 16 → c < p q * p q
      → fill_at 0 (cell_at (λ c. counts_for (k q) q.ar_blocks work (c / (p q * p q))) (row_table (p q) w x) (places q n)) 784 (replicate 784 zero⁺) ! (b * (p q * p q) + c)
      ≡ ar_cell q y n (rows_in q work) b (c / p q) (c % p q)
  unfolding ar_cell cell_at row_table table_term
  cell_is b c hb hc =
      fill_at_lem _ 784 (replicate 784 zero⁺) refl (b * (p q * p q) + c) (omega (arith, table_fits hb small))
      ∙ where_ext _ _ _ _ (places q n) (λ e h. rw (digits_div b hc) (counted b e h)) (λ e _. rw (digits_mod b hc) (product_is (suc (c / p q)) (suc (c % p q)) e))

  side_is : (b l : ℕ) → b < 16 → l < p q
      → fill_at 0 (cell_at (λ c. counts_for (k q) q.ar_blocks work (c / p q)) (row_side (p q) w x) (places q n)) 112 (replicate 112 zero⁺) ! (b * p q + l)
      ≡ ar_side q y n (rows_in q work) b l
  unfolding ar_side cell_at row_side side_term
  side_is b l hb hl =
      fill_at_lem _ 112 (replicate 112 zero⁺) refl (b * p q + l) (omega (arith, side_fits hb small))
      ∙ where_ext _ _ _ _ (places q n) (λ e h. rw (digits_div b hl) (counted b e h)) (λ e _. rw (digits_mod b hl) (product_is (suc l) 0 e))

  abbrev tables : List Float
  tables = fill_at 0 (cell_at (λ c. counts_for (k q) q.ar_blocks work (c / (p q * p q))) (row_table (p q) w x) (places q n)) 784 (replicate 784 zero⁺)

  abbrev sides : List Float
  sides = fill_at 0 (cell_at (λ c. counts_for (k q) q.ar_blocks work (c / p q)) (row_side (p q) w x) (places q n)) 112 (replicate 112 zero⁺)

  ar_are : q.ar_blocks ≤ 16 → blocks_of (p q) q.ar_blocks (block_from (p q) tables sides q.ar) q.ar ≡ new_ar q y n (rows_in q work)
  unfolding new_ar block_from new_block
  ar_are h =
      answers_ext (p q) _ q.ar q.ar_blocks (new_block q y n (rows_in q work)) pos
      (λ b hb.
      let b' : b < 16 = omega arith in
      rw (
        fill_at_ext 0 _ (p q * p q) (replicate 256 zero⁺) (λ e. ar_cell q y n (rows_in q work) b (e / p q) (e % p q)) (λ c hc. cell_is b c b' hc),
        fill_at_ext 0 _ (p q) (replicate 16 zero⁺) (ar_side q y n (rows_in q work) b) (λ l hl. side_is b l b' hl),
      ))

  pub solved : (k' order m : ℕ) {variances tables' sides' : List Float} {r : Result (List Float) Refusal} → k' ≡ k q → order ≡ p q → m ≡ k' ^ suc order → q.ar_blocks ≤ 16
      → variances ≡ variances_from q.variances q.variances_count k'
      → Summed k' order q.ar_blocks work (precision_in k' variances work) (distance_in k' order m y q.means) (n * m) tables' sides'
      → r ≡ blocks_of (p q) q.ar_blocks (block_from (p q) tables' sides' q.ar) q.ar
      → r ≡ new_ar q y n (rows_in q work)
  solved k' order m l o w h v S e =
      let all = rw (w, v, l, o) at S in
      rw (all.tabled, all.sided) at e ∙ ar_are h

-- ---- rows that hold the same in their first m places

module _ (q : MsarParams) (y : List Float) (n : ℕ) (rows rows' : ℕ → List Float) (positive : 0 < k q)
    (same : (i : ℕ) → i < n → Same (windows_of q) (rows i) (rows' i)) where
  test_same : (b e : ℕ) → e < places q n → in_block q rows b e ≡ in_block q rows' b e
  unfolding in_block
  test_same b e h = rw (seen_same q positive n rows rows' same e h)

  product_same : (i j e : ℕ) → e < places q n → product_at q y rows i j e ≡ product_at q y rows' i j e
  unfolding product_at
  product_same i j e h = rw (precision_same q positive n rows rows' same e h)

  block_same : (b : ℕ) → new_block q y n rows b ≡ new_block q y n rows' b
  unfolding new_block ar_cell ar_side
  block_same b =
      rw (
        fill_at_ext 0 (λ e. ar_cell q y n rows b (e / p q) (e % p q)) (p q * p q) (replicate 256 zero⁺) (λ e. ar_cell q y n rows' b (e / p q) (e % p q))
            (λ e _. where_ext _ _ _ _ (places q n) (test_same b) (product_same (suc (e / p q)) (suc (e % p q)))),
        fill_at_ext 0 (ar_side q y n rows b) (p q) (replicate 16 zero⁺) (ar_side q y n rows' b)
            (λ l _. where_ext _ _ _ _ (places q n) (test_same b) (product_same (suc l) 0)),
      )

  pub ar_same : 0 < p q → new_ar q y n rows ≡ new_ar q y n rows'
  unfolding new_ar
  ar_same pos = answers_ext (p q) (new_block q y n rows) q.ar q.ar_blocks (new_block q y n rows') pos (λ b _. block_same b)
