-- The sums that the code makes place by place are those of the definition, and so are the variances that they give; and what the rows hold past their
-- first m places does not count. Assumes nothing.
use Rattle.std.specs.Prelude.{if◌then◌else◌}
use Prim.Native.Nat.{ℕ, zero, suc, ◌+◌, ◌*◌, ◌/◌, ◌%◌, ◌^◌, ◌<◌, ◌≤◌}
use mathlib.Core.Path.{◌≡◌, refl, sym, ◌∙◌}
use mathlib.Core.Bool.{◌&&◌}
use mathlib.Core.List.{List}
use native.Mathlib.Nat.{sub-zero, mul-le-mul, le_refl}
use native.Mathlib.Omega.{arith}
use lib.Arith.{digits_lt, digits_div, digits_mod}
use lib.ListN.{length, set, replicate}
use lib.Ieee.{Float, neg, ne}
use Rattle.number.specs.Number.{◌=?◌, ◌⊕◌, ◌⊖◌, ◌⊗◌, zero⁺}
use Rattle.number.specs.Table.{◌!◌, fill_at}
use Rattle.number.proofs.Sums.{where_ext}
use Rattle.number.proofs.Table.{fill_at_ext, fill_at_lem, fill_long}
use Rattle.window.specs.Windows.{labels}
use Rattle.window.proofs.Windows.{label_below}
use Rattle.params.specs.declared.MsarParams.{MsarParams}
use Rattle.params.specs.Parameters.{k, p, φ, block_of}
use Rattle.rows.specs.Rows.{Same, windows_of}
use Rattle.rows.specs.Smoothed.{rows_in, places, label_at}
use Rattle.rows.specs.Steps.{cell_at, counts_for}
use Rattle.rows.proofs.Cells.{cells_none, cells_if}
use Rattle.rows.proofs.ByPlace.{counts_in}
use Rattle.rows.proofs.SmoothedTable.{weight_in_memory, weight_same, seen_same}
use Rattle.density.specs.Steps.{lags_to, phis_from, phis_of}
use Rattle.density.proofs.Means.{phi_at}
use Rattle.em_sample_variance.specs.Series.{sample_variance}
use Rattle.em_ridge.specs.Ridge.{small}
use Rattle.em_variances.specs.Variances.{residual_to, in_block, square_at, squares, weights, new_variance, new_variances}
use Rattle.em_variances.specs.Steps.{turned, residual_by, residual_in, Summed, variance_of, variances_by}
use Rattle.em_variances.proofs.Turned.{less_is}

-- ---- the sums, a place further

module _ (k count : ℕ) (work : List Float) (ε : ℕ → Float) where
  pub summed_none : Summed k count work ε 0 (replicate 16 zero⁺) (replicate 16 zero⁺)
  summed_none = record { squared = cells_none _ _ 16 16 (omega arith); weighed = cells_none _ _ 16 16 (omega arith) }

  module _ {e : ℕ} {squares weights : List Float} (S : Summed k count work ε e squares weights) where
    pub squares_long : length squares ≡ 16
    squares_long = fill_long _ 16 (replicate 16 zero⁺) S.squared (omega arith)

    pub weights_long : length weights ≡ 16
    weights_long = fill_long _ 16 (replicate 16 zero⁺) S.weighed (omega arith)

    -- place e, whose block is b
    pub summed_more : {b : ℕ} {g x : Float} {squares' weights' : List Float} → b < 16 → (s : ℕ) → b ≡ block_of count s → e % k ≡ s → g ≡ work ! e → x ≡ ε e
        → squares' ≡ (if ne g zero⁺ then set squares b (squares ! b ⊕ g ⊗ x ⊗ x) else squares)
        → weights' ≡ (if ne g zero⁺ then set weights b (weights ! b ⊕ g) else weights)
        → Summed k count work ε (e + 1) squares' weights'
    unfolding counts_for
    summed_more {b} {g} {x} hb s eb now eg ex es ew =
        let tests : (c : ℕ) → counts_for k count work c e ≡ (ne g zero⁺ && b =? c) = λ c. rw (eg, eb, now) in
        record {
          squared = cells_if _ _ 16 e _ S.squared (omega arith) (ne g zero⁺) b hb tests (rw (eg, ex)) es;
          weighed = cells_if _ _ 16 e _ S.weighed (omega arith) (ne g zero⁺) b hb tests eg ew;
        }

-- ---- the residuals by place

module _ (k order : ℕ) (phis means y : List Float) where
  pub residual_there : (m i a : ℕ) (d : List Float) {row : List Float} → a < m → row ≡ fill_at 0 (residual_by k order phis means y (order + i)) m d
      → row ! a ≡ residual_in k order m phis means y (i * m + a)
  unfolding residual_in
  residual_there m i a d h e = fill_at_lem _ m d e a h ∙ rw (digits_div i h, digits_mod i h)

turned_at : (phis : List Float) (e : ℕ) → e < 112 → turned phis ! e ≡ neg (phis ! e)
unfolding turned
turned_at phis e h = fill_at_lem _ 112 phis refl e h

module _ (q : MsarParams) (pos : 0 < k q) (high : k q ≤ 16) (few : p q ≤ 7) (y : List Float) (e : ℕ) where
  residual_is : (l : ℕ) → l ≤ p q
      → lags_to (λ s. y ! (p q + e / windows_of q) ⊖ q.means ! s) (k q) (turned (phis_of q)) q.means y (p q + e / windows_of q) (labels (k q) (suc (p q)) (e % windows_of q)) l
      ≡ residual_to q y e l
  unfolding lags_to residual_to φ
  residual_is zero h = rw sub-zero
  residual_is (suc l) h =
      let s : label_at q e 0 < k q = label_below (k q) pos (suc (p q)) (e % windows_of q) 0 (omega arith) in
      let place : l * k q + label_at q e 0 < 112 = omega (arith, digits_lt h s, mul-le-mul few high) in
      rw (residual_is l (omega arith), turned_at (phis_of q) (l * k q + label_at q e 0) place, phi_at q.ar q.ar_blocks (k q) (p q) l (label_at q e 0) h s, less_is)

  residual_in_lem : residual_in (k q) (p q) (windows_of q) (turned (phis_of q)) q.means y e ≡ residual_to q y e (p q)
  unfolding residual_in residual_by
  residual_in_lem = residual_is (p q) (le_refl (p q))

-- ---- the variances

pub variances_by_lem : (q : MsarParams) (y : List Float) (floor : Float) (n : ℕ) (work : List Float) (k' order m : ℕ) {phis squares weights r : List Float}
    → k' ≡ k q → order ≡ p q → m ≡ k' ^ suc order → phis ≡ turned (phis_from q.ar q.ar_blocks (k q) (p q)) → q.variances_count ≤ 16
    → Summed k' q.variances_count work (residual_in k' order m phis q.means y) (n * m) squares weights
    → r ≡ fill_at 0 (λ b. variance_of floor (squares ! b) (weights ! b) (q.variances ! b)) q.variances_count q.variances
    → r ≡ variances_by q y floor n work
unfolding variances_by
variances_by_lem q y floor n work k' order m l o w f h S e =
    let all = rw (w, l, o, f) at S in
    e ∙ fill_at_ext 0 _ q.variances_count q.variances _ (λ b i. rw (fill_at_lem _ 16 _ all.squared b (omega arith), fill_at_lem _ 16 _ all.weighed b (omega arith)))

module _ (q : MsarParams) (pos : 0 < k q) (high : k q ≤ 16) (few : p q ≤ 7) (y work : List Float) (n : ℕ) where
  abbrev ε : ℕ → Float
  ε = residual_in (k q) (p q) (windows_of q) (turned (phis_of q)) q.means y

  counted : (b e : ℕ) → e < places q n → counts_for (k q) q.variances_count work b e ≡ in_block q (rows_in q work) b e
  unfolding in_block
  counted b e _ = counts_in q pos e work q.variances_count b

  squares_are : (b : ℕ) → cell_at (counts_for (k q) q.variances_count work) (λ _ x. work ! x ⊗ ε x ⊗ ε x) (places q n) b ≡ squares q y n (rows_in q work) b
  unfolding cell_at squares square_at
  squares_are b = where_ext _ _ _ _ (places q n) (counted b) (λ e _. rw (residual_in_lem q pos high few y e, weight_in_memory q work e))

  weights_are : (b : ℕ) → cell_at (counts_for (k q) q.variances_count work) (λ _ x. work ! x) (places q n) b ≡ weights q y n (rows_in q work) b
  unfolding cell_at weights
  weights_are b = where_ext _ _ _ _ (places q n) (counted b) (λ e _. sym (weight_in_memory q work e))

  pub variances_are : (floor : Float) → floor ≡ small ⊗ sample_variance y
      → variances_by q y floor n work ≡ new_variances q y n (rows_in q work)
  unfolding variances_by new_variances new_variance variance_of
  variances_are floor e = fill_at_ext 0 _ q.variances_count q.variances _ (λ b _. rw (e, squares_are b, weights_are b))

-- ---- rows that hold the same in their first m places

module _ (q : MsarParams) (y : List Float) (n : ℕ) (rows rows' : ℕ → List Float) (pos : 0 < k q)
    (same : (i : ℕ) → i < n → Same (windows_of q) (rows i) (rows' i)) where
  test_same : (b e : ℕ) → e < places q n → in_block q rows b e ≡ in_block q rows' b e
  unfolding in_block
  test_same b e h = rw (seen_same q pos n rows rows' same e h)

  square_same : (e : ℕ) → e < places q n → square_at q y rows e ≡ square_at q y rows' e
  unfolding square_at
  square_same e h = rw (weight_same q pos n rows rows' same e h)

  pub variances_same : new_variances q y n rows ≡ new_variances q y n rows'
  unfolding new_variances new_variance squares weights
  variances_same =
      fill_at_ext 0 _ q.variances_count q.variances _
      (λ b l. rw (where_ext _ _ _ _ (places q n) (test_same b) square_same, where_ext _ _ _ _ (places q n) (test_same b) (weight_same q pos n rows rows' same)))
