-- The windows of a row lag by lag: with l lags a window depends on its newest labels 0, .., l alone; and that the means made so are the definition's.
-- Assumes nothing.
use Prim.Native.Nat.{ℕ, zero, suc, ◌+◌, ◌-◌, ◌*◌, ◌/◌, ◌%◌, ◌^◌, ◌<◌, ◌≤◌}
use mathlib.Core.Path.{◌≡◌, refl, sym, ap, ◌∙◌}
use mathlib.Core.List.{List}
use native.Mathlib.Numerals.{add-one}
use native.Mathlib.Nat.{mul_comm, suc-mul, mul-le-mul, mul-le-mul_left, mul-le-mul_right, mul-mod_left, pow-succ', pow-le-pow_right, pow-suc, pow-zero, one-mul, mod-lt, mod-eq_of_lt, one-le-pow, div-lt_iff_lt-mul, le_refl}
use native.Mathlib.Omega.{arith}
use lib.Arith.{digits_lt, digits_div, digits_mod}
use lib.ListN.{length, drop, replicate}
use lib.Seq.{get_or-drop}
use lib.Ieee.{Float, nan}
use Rattle.number.specs.Number.{zero⁺}
use Rattle.number.specs.Table.{◌!◌, fill_at}
use Rattle.number.proofs.Table.{fill_at_ext, fill_at_rest, fill_at_over, fill_at_lem, fill_is}
use Rattle.window.specs.Windows.{label, labels}
use Rattle.window.specs.declared.Time.{Time}
use Rattle.window.specs.Shape.{Shape}
use Rattle.window.proofs.Windows.{label_labels, label_cut}
use Rattle.window.proofs.Shape.{order_at_most_7}
use Rattle.params.specs.declared.MsarParams.{MsarParams}
use Rattle.params.specs.Parameters.{k, p, φ, block_of}
use Rattle.density.specs.Density.{mean_to}
use Rattle.density.specs.Steps.{mean_at, lags_to, phis_from, lagged_at, Parts}

-- ---- the row with l lags, from the row `first` that has a number for each label now

module _ (first : List Float) (k order : ℕ) (phis means y : List Float) (t : ℕ) where
  abbrev pub lagged_row : ℕ → ℕ → Float
  lagged_row l a = lags_to (λ s. first ! s) k phis means y t (labels k (suc order) a) l

  lags_ext : (w w' : List ℕ) (l : ℕ) → ((j : ℕ) → j ≤ l → label w j ≡ label w' j)
      → lags_to (λ s. first ! s) k phis means y t w l ≡ lags_to (λ s. first ! s) k phis means y t w' l
  unfolding lags_to
  lags_ext w w' zero h = rw (h 0 (omega arith))
  lags_ext w w' (suc l) h = rw (lags_ext w w' l (λ j i. h j (omega arith)), h 0 (omega arith), h (suc l) (omega arith))

  pub lags_none : k ≤ length first → first ≡ fill_at 0 (lagged_row 0) k first
  unfolding lags_to labels
  lags_none h = fill_is _ k first h refl (λ s i. rw (mod-eq_of_lt i)) (λ _ _. refl)

  module _ (pos : 0 < k) where
    lag_more : (l c : ℕ) (d : List Float) {row : List Float} → row ≡ fill_at 0 (lagged_row l) (k ^ suc l) d → l < order → c < k * k ^ suc l
        → lagged_at row (drop (l * k) phis) means (y ! (t - suc l)) k (k ^ suc l) c ≡ lagged_row (suc l) c
    unfolding lagged_at lags_to labels
    lag_more l c d {row} e h i =
        let some = one-le-pow (suc l) k pos in
        let from : row ! (c % k ^ suc l) ≡ lagged_row l c = fill_at_lem _ _ d e (c % k ^ suc l) (mod-lt c some) ∙ lags_ext (labels k (suc order) (c % k ^ suc l)) (labels k (suc order) c) l (label_cut k pos (suc order) l c) in
        let oldest : c / k ^ suc l < k = (div-lt_iff_lt-mul some).1 i in
        let older : label (labels k (suc order) c) (suc l) ≡ c / k ^ suc l = label_labels k (suc order) c (suc l) (omega arith) ∙ mod-eq_of_lt oldest in
        rw (get_or-drop (l * k) phis (c % k) nan, from, ← older)

    pub lags_more : (l step : ℕ) {row r : List Float} → row ≡ fill_at 0 (lagged_row l) step first → step ≡ k ^ suc l → l < order
        → r ≡ fill_at 0 (lagged_at row (drop (l * k) phis) means (y ! (t - l - 1)) k step) (k * step) row
        → r ≡ fill_at 0 (lagged_row (l + 1)) (step * k) first
    lags_more l step {row} {r} e z h e' =
        let w : 1 * step ≤ k * step = mul-le-mul_right step pos in
        let rest : drop (k * step) row ≡ drop (k * step) first = rw e (fill_at_rest 0 _ step first (k * step) (omega arith) (omega arith)) in
        let v : t - l - 1 ≡ t - suc l = omega arith in
        rw (add-one l, mul_comm step k)
        (rw v at e' ∙ fill_at_over _ (k * step) row first rest ∙ fill_at_ext 0 _ (k * step) first (lagged_row (suc l)) (λ c i. rw z (lag_more l c first (rw z at e) h (rw z at i))))

  -- in all, where the first row was filled by f
  module _ (f : ℕ → Float) where
    lags_same : (w : List ℕ) → first ! label w 0 ≡ f (label w 0) → (l : ℕ) → lags_to (λ s. first ! s) k phis means y t w l ≡ lags_to f k phis means y t w l
    unfolding lags_to
    lags_same w e zero = e
    lags_same w e (suc l) = rw (lags_same w e l)

    pub lags_on : (d : List Float) {row : List Float} → 0 < k → first ≡ fill_at 0 f k d → row ≡ fill_at 0 (lagged_row order) (k ^ suc order) first
        → row ≡ fill_at 0 (λ a. lags_to f k phis means y t (labels k (suc order) a) order) (k ^ suc order) d
    unfolding labels
    lags_on d pos e e' =
        let w : k * 1 ≤ k ^ suc order = rw pow-succ' (mul-le-mul_left k (one-le-pow order k pos)) in
        e'
        ∙ fill_at_over _ (k ^ suc order) first d (rw e (fill_at_rest 0 _ k d (k ^ suc order) (omega arith) (omega arith)))
        ∙ fill_at_ext 0 _ (k ^ suc order) d _ (λ a _. lags_same (labels k (suc order) a) (fill_at_lem f k d e (a % k) (mod-lt a pos)) order)

-- ---- φ_(l+1) of label s

pub phi_at : (ar : List Float) (blocks k order l s : ℕ) → l < order → s < k → phis_from ar blocks k order ! (l * k + s) ≡ ar ! (block_of blocks s * order + l)
unfolding phis_from
phi_at ar blocks k order l s h i = fill_at_lem _ (order * k) (replicate 112 zero⁺) refl (l * k + s) (digits_lt h i) ∙ rw (digits_mod l i, digits_div l i)

-- ---- the means, their parts lent one by one

module _ {q : MsarParams} {count order : ℕ} {means phis : List Float} (parts : Parts q count order means phis) (y : List Float) (t : Time) where
  mean_is : (w : List ℕ) → label w 0 < count → (l : ℕ) → l ≤ order → lags_to (λ s. means ! s) count phis means y t.0 w l ≡ mean_to q y t w l
  unfolding lags_to mean_to φ
  mean_is w b zero h = rw parts.means_are
  mean_is w b (suc l) h =
      let coefficient : phis ! (l * count + label w 0) ≡ q.ar ! (block_of q.ar_blocks (label w 0) * order + l)
      = rw (← parts.phis_are, parts.count_is, parts.order_is) (phi_at q.ar q.ar_blocks count order l (label w 0) h b) in
      let own : phis ! (l * count + label w 0) ≡ q.ar ! (block_of q.ar_blocks (label w 0) * q.order + l) = rw parts.order_is coefficient in
      let mean : means ! label w (suc l) ≡ q.means ! label w (suc l) = rw parts.means_are in
      rw (mean_is w b l (omega arith), own, mean)

  pub means_are : (d : List Float) {row : List Float} → 0 < count
      → row ≡ fill_at 0 (λ a. lags_to (λ s. means ! s) count phis means y t.0 (labels count (suc order) a) order) (count ^ suc order) d
      → row ≡ fill_at 0 (mean_at q y t order) (count ^ suc order) d
  unfolding mean_at labels
  means_are d pos e =
      e
      ∙ fill_at_ext 0 _ (count ^ suc order) d _
      (λ a _.
      let same : labels count (suc order) a ≡ labels (k q) (suc (p q)) a
      = ap (λ (x : ℕ). labels x (suc order) a) (sym parts.count_is) ∙ ap (λ (x : ℕ). labels (k q) (suc x) a) (sym parts.order_is) in
      mean_is (labels count (suc order) a) (mod-lt a pos) order (le_refl order) ∙ ap (λ (w : List ℕ). mean_to q y t w order) same)

-- ---- the count of windows of l + 1 labels, `step`, and what fits the arrays

module _ {k order : ℕ} (shape : Shape k order) (l : ℕ) (h : l < order) where
  pub step_fits : k * k ^ suc l ≤ 256
  step_fits =
      let low : 0 < k = omega (arith, shape.low) in
      let few : k ^ suc (suc l) ≤ k ^ suc order = pow-le-pow_right low (omega arith) in
      rw (← pow-succ') (omega (arith, shape.few))

  pub phis_fit : l * k + k ≤ 112
  phis_fit =
      let o : suc l ≤ 7 = omega (arith, order_at_most_7 k order shape.low shape.few) in
      omega (arith, suc-mul l k, mul-le-mul o shape.high)

pub step_whole : (k l : ℕ) → k ^ suc l % k ≡ 0
step_whole k l = rw pow-suc (mul-mod_left (k ^ l) k)

pub step_first : (k : ℕ) → k ≡ k ^ suc 0
step_first k = rw (pow-suc k 0, pow-zero, one-mul)

pub step_next : (k l : ℕ) {step : ℕ} → step ≡ k ^ suc l → step * k ≡ k ^ suc (l + 1)
step_next k l e = rw (e, add-one l, pow-suc k (suc l))
