-- The sums followed place by place, and that they are those of the definition. Assumes nothing.
use Rattle.std.specs.Prelude.{Result, if◌then◌else◌}
use Prim.Native.Nat.{ℕ, suc, ◌+◌, ◌*◌, ◌/◌, ◌%◌, ◌^◌, ◌<◌, ◌≤◌}
use mathlib.Core.Path.{◌≡◌, refl, ap, ◌∙◌}
use native.Mathlib.Omega.{arith}
use mathlib.Core.Bool.{Bool, true, false, ◌&&◌}
use mathlib.Core.List.{List}
use native.Mathlib.Nat.{mod-lt, div-lt_iff_lt-mul, mul-le-mul, le_refl}
use lib.Arith.{digits_div}
use lib.ListN.{replicate}
use lib.Ieee.{Float, neg, ne, sub}
use Rattle.number.specs.Number.{◌⊕◌, ◌⊖◌, ◌⊘◌, zero⁺}
use Rattle.number.specs.Table.{◌!◌, fill_at}
use Rattle.number.proofs.Sums.{where_ext}
use Rattle.number.proofs.Table.{fill_at_ext, fill_at_lem}
use Rattle.refusal.specs.declared.Refusal.{Refusal}
use Rattle.params.specs.declared.MsarParams.{MsarParams}
use Rattle.params.specs.Parameters.{k, p}
use Rattle.rows.specs.declared.smoothed.Smoothed.{Smoothed}
use Rattle.rows.specs.Rows.{windows_of}
use Rattle.rows.specs.Smoothed.{rows_in, places, precision}
use Rattle.rows.specs.Steps.{cell_at, precision_in}
use Rattle.rows.proofs.Cells.{cells_none, cells_more}
use Rattle.rows.proofs.ByPlace.{precision_in_lem}
use Rattle.rows.proofs.SmoothedTable.{weight_in_memory}
use Rattle.density.specs.Steps.{variances_from, phis_of}
use Rattle.density.proofs.Tables.{variances_at}
use Rattle.em_ridge.specs.Ridge.{solve_or_keep}
use Rattle.em_means.specs.Means.{d_to, sensitive, means_cell, means_side, new_means}
use Rattle.em_means.specs.declared.Equations.{Equations}
use Rattle.em_means.specs.Steps.{sensitivity_to, sensitivities_of, less_lags_at, less_lags_in, cell_added, side_added, cell_seen, side_seen, felt, cell_term, side_term, felt_in, cell_in, side_in, Summed}
use Rattle.em_means.proofs.Lags.{sensitivity_at, sensitivity_is, less_lags_is}

-- two tests one after the other are one
both : {A : Type 0} (b c : Bool) (x y : A) → (if b then (if c then x else y) else y) ≡ (if b && c then x else y)
both true c x y = refl
both false c x y = refl

-- a term that is subtracted
less_is : (x t : Float) → x ⊖ t ≡ x ⊕ neg t
unfolding sub
less_is x t = refl

-- ---- the sums, a place further

module _ (s : Smoothed) (phis variances : List Float) where
  square : s.sizes.k * s.sizes.k ≤ 256
  square = mul-le-mul s.sizes.shape.high s.sizes.shape.high

  pub summed_none : Summed s phis variances 0 (record { table = replicate 256 zero⁺; side = replicate 16 zero⁺ })
  summed_none = record { cells = cells_none _ _ (s.sizes.k * s.sizes.k) 256 square; sides = cells_none _ _ s.sizes.k 16 s.sizes.shape.high }

  module _ {e : ℕ} {sums : Equations} (S : Summed s phis variances e sums) (g v d : Float) (eg : g ≡ s.work.now ! e) (ev : g ⊘ v ≡ precision_in s.sizes.k variances s.work.now e) (ed : d ≡ less_lags_in s.sizes.k s.sizes.order s.sizes.windows phis s.y.now e) where
    pos : 0 < s.sizes.k
    pos = omega (arith, s.sizes.shape.low)

    cell_next : (x : ℕ) → x < s.sizes.k * s.sizes.k
        → cell_seen (sensitivities_of s.sizes.k s.sizes.order phis e) s.sizes.k v g sums.table x ≡ (if felt_in s phis variances (x / s.sizes.k) e then (sums.table ! x ⊕ cell_in s phis variances x e) else (sums.table ! x))
    unfolding cell_seen cell_added felt cell_term
    cell_next x h =
        rw (ev, eg, sensitivity_at s.sizes.k s.sizes.order phis e (x / s.sizes.k) ((div-lt_iff_lt-mul pos).1 h), sensitivity_at s.sizes.k s.sizes.order phis e (x % s.sizes.k) (mod-lt x pos))
        (both (ne (s.work.now ! e) zero⁺) (ne (sensitivity_to s.sizes.k phis e (x / s.sizes.k) s.sizes.order) zero⁺) _ _)

    side_next : (r : ℕ) → r < s.sizes.k
        → side_seen (sensitivities_of s.sizes.k s.sizes.order phis e) s.sizes.k v g d sums.side r ≡ (if felt_in s phis variances r e then (sums.side ! r ⊕ side_in s phis variances r e) else (sums.side ! r))
    unfolding side_seen side_added felt side_term
    side_next r h =
        rw (ev, eg, ed, sensitivity_at s.sizes.k s.sizes.order phis e r h, less_is)
        (both (ne (s.work.now ! e) zero⁺) (ne (sensitivity_to s.sizes.k phis e r s.sizes.order) zero⁺) _ _)

    pub summed_more : {sums' : Equations} → sums'.table ≡ fill_at 0 (cell_seen (sensitivities_of s.sizes.k s.sizes.order phis e) s.sizes.k v g sums.table) (s.sizes.k * s.sizes.k) sums.table
        → sums'.side ≡ fill_at 0 (side_seen (sensitivities_of s.sizes.k s.sizes.order phis e) s.sizes.k v g d sums.side) s.sizes.k sums.side
        → Summed s phis variances (e + 1) sums'
    summed_more em er = record {
      cells = cells_more _ _ (s.sizes.k * s.sizes.k) e _ S.cells square (em ∙ fill_at_ext 0 _ (s.sizes.k * s.sizes.k) sums.table _ cell_next);
      sides = cells_more _ _ s.sizes.k e _ S.sides s.sizes.shape.high (er ∙ fill_at_ext 0 _ s.sizes.k sums.side _ side_next);
    }

-- ---- what is made once a row, by place

-- what is left of the reading of row i
pub less_lags_there : (k order m i a t : ℕ) (phis y l : List Float) {ds : List Float} → 0 < k → t ≡ order + i → a < m → {s : ℕ} → (i * m + a) % k ≡ s
    → ds ≡ fill_at 0 (less_lags_at k order phis y t) k l → ds ! s ≡ less_lags_in k order m phis y (i * m + a)
unfolding less_lags_at less_lags_in
less_lags_there k order m i a t phis y l pos z h now e =
    rw (← now, fill_at_lem _ k l e ((i * m + a) % k) (mod-lt (i * m + a) pos), z, digits_div i h)

-- ---- the equations

module _ (q : MsarParams) (pos : 0 < k q) (y work : List Float) (n : ℕ) where
  -- what is solved, by a count of labels, an order and m windows
  abbrev solved_by : ℕ → ℕ → ℕ → Result (List Float) Refusal
  solved_by count order m =
      let phis = phis_of q in
      let w = precision_in count (variances_from q.variances q.variances_count (k q)) work in
      let table = fill_at 0 (cell_at (λ x. felt count order phis work (x / count)) (cell_term count order phis w) (n * m)) (count * count) (replicate 256 zero⁺) in
      let side = fill_at 0 (cell_at (felt count order phis work) (side_term count order phis w (less_lags_in count order m phis y)) (n * m)) count (replicate 16 zero⁺) in
      solve_or_keep 1 (k q) table side q.means

  abbrev w : ℕ → Float
  w = precision_in (k q) (variances_from q.variances q.variances_count (k q)) work

  felt_is : (r e : ℕ) → e < places q n → felt (k q) (p q) (phis_of q) work r e ≡ sensitive q (rows_in q work) r e
  unfolding felt sensitive
  felt_is r e _ = rw (weight_in_memory q work e, sensitivity_is q pos e r (p q) (le_refl (p q)))

  w_is : (e : ℕ) → w e ≡ precision q (rows_in q work) e
  w_is e = precision_in_lem q pos e work _ (variances_at q (e % k q) (mod-lt e pos))

  d_is : (e : ℕ) → less_lags_in (k q) (p q) (windows_of q) (phis_of q) y e ≡ d_to q y e (p q)
  unfolding less_lags_in
  d_is e = less_lags_is q pos y e (p q) (le_refl (p q))

  cell_is : (x : ℕ) → cell_at (λ x. felt (k q) (p q) (phis_of q) work (x / k q)) (cell_term (k q) (p q) (phis_of q) w) (places q n) x ≡ means_cell q (rows_in q work) n (x / k q) (x % k q)
  unfolding cell_at cell_term means_cell
  cell_is x =
      where_ext _ _ _ _ (places q n) (felt_is (x / k q))
      (λ e _. rw (w_is e, sensitivity_is q pos e (x / k q) (p q) (le_refl (p q)), sensitivity_is q pos e (x % k q) (p q) (le_refl (p q))))

  side_is : (r : ℕ) → cell_at (felt (k q) (p q) (phis_of q) work) (side_term (k q) (p q) (phis_of q) w (less_lags_in (k q) (p q) (windows_of q) (phis_of q) y)) (places q n) r ≡ means_side q (rows_in q work) y n r
  unfolding cell_at side_term means_side
  side_is r =
      where_ext _ _ _ _ (places q n) (felt_is r)
      (λ e _. rw (w_is e, d_is e, sensitivity_is q pos e r (p q) (le_refl (p q))))

  means_are : solved_by (k q) (p q) (windows_of q) ≡ new_means q y n (rows_in q work)
  unfolding new_means
  means_are =
      rw (
        fill_at_ext 0 _ (k q * k q) (replicate 256 zero⁺) (λ e. means_cell q (rows_in q work) n (e / k q) (e % k q)) (λ x _. cell_is x),
        fill_at_ext 0 _ (k q) (replicate 16 zero⁺) (means_side q (rows_in q work) y n) (λ r _. side_is r),
      )

-- of rows as they are handed over
pub means_of : (q : MsarParams) (s : Smoothed) (sums : Equations) {phis variances : List Float} → s.sizes.k ≡ k q → s.sizes.order ≡ p q
    → phis ≡ phis_of q → variances ≡ variances_from q.variances q.variances_count (k q)
    → Summed s phis variances (s.rows * s.sizes.windows) sums
    → solve_or_keep 1 (k q) sums.table sums.side q.means ≡ new_means q s.y.now s.rows (rows_in q s.work.now)
means_of q s sums ek eo ef ev S =
    let pos : 0 < k q = omega (arith, ek, s.sizes.shape.low) in
    let by = solved_by q pos s.y.now s.work.now s.rows in
    let em = s.sizes.windows_value ∙ ap (λ (x : ℕ). x ^ suc s.sizes.order) ek ∙ ap (λ (x : ℕ). k q ^ suc x) eo in
    let S' = rw (ef, ev) at S in
    rw (S'.cells, S'.sides)
    (ap (λ (x : ℕ). by x s.sizes.order s.sizes.windows) ek
    ∙ ap (λ (x : ℕ). by (k q) x s.sizes.windows) eo
    ∙ ap (λ (x : ℕ). by (k q) (p q) x) em
    ∙ means_are q pos s.y.now s.work.now s.rows)
