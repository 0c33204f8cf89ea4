-- Rows of weights, each divided by their sum: what demand 3 says of one row, and of all rows that are made one from another. The weights are
-- predictions times densities, whatever these are, as long as none is below zero. Assumes nothing.
use mathlib.Core.Path.{◌≡◌, refl, sym, ap, ap₂, subst, ◌∙◌}
use mathlib.Core.Bool.{true}
use mathlib.Core.List.{List}
use Prim.Native.Nat.{ℕ, zero, suc, ◌+◌, ◌*◌, ◌^◌, ◌<◌, ◌≤◌}
use native.Mathlib.Nat.{pow-suc}
use native.Mathlib.Omega.{arith}
use lib.Arith.{digits_lt}
use lib.Dec.{T}
use lib.Ieee.{Float, binary64, lt}
use lib.Ieee.Fits.{and_l, and_r, mul-fits}
use lib.Ieee.Scale.{finite}
use Rattle.number.specs.Number.{◌⊗◌, ◌⊘◌, zero⁺, usable}
use Rattle.number.specs.Sums.{sum_up}
use Rattle.number.specs.Table.{◌!◌, tab}
use Rattle.number.proofs.Sums.{sum_ext}
use Rattle.number.proofs.Table.{length_tab}
use Rattle.rounding.specs.Units.{in_units}
use Rattle.rounding.specs.Sums.{good, not_below, total, sum_to}
use Rattle.rounding.specs.Shares.{part, label_share}
use Rattle.rounding.specs.NearOne.{unity, allowed, NearOne}
use Rattle.rounding.proofs.Rows.{demand_3_of}
use Rattle.rows.specs.Rows.{probability}
use Rattle.rows.specs.Steps.{label_sum}
use Rattle.rows.proofs.Rows.{label_sum_is}
use Rattle.promises.specs.Demand.{NotBelow}
use Rattle.promises.proofs.Signs.{as_weight, product_not_below, quotient_not_below}
use Rattle.promises.proofs.Lists.{total_tab, map_tab, every_tab, part_tab}

-- ---- k probabilities

sum_to_ext : (f g : ℕ → ℕ) (n : ℕ) → ((i : ℕ) → i < n → f i ≡ g i) → sum_to f n ≡ sum_to g n
sum_to_ext f g zero h = refl
sum_to_ext f g (suc n) h = ap₂ (λ (a b : ℕ). a + b) (sum_to_ext f g n (λ i l. h i (omega arith))) (h n (omega arith))

-- only those below k count
pub near_same : (k m : ℕ) (x x' : ℕ → Float) → ((s : ℕ) → s < k → x s ≡ x' s) → NearOne k m x → NearOne k m x'
near_same k m x x' e h =
    let t = sum_to_ext (λ s. in_units binary64 (x s)) (λ s. in_units binary64 (x' s)) k (λ s l. ap (in_units binary64) (e s l)) in
    record {
      each = λ s l. subst (λ (v : Float). T (good binary64 v)) (e s l) (h.each s l);
      not_above = subst (λ (n : ℕ). n ≤ unity + allowed m) t h.not_above;
      not_below_lem = subst (λ (n : ℕ). unity ≤ n + allowed m) t h.not_below_lem;
    }

usable_parts : (x : Float) → usable x ≡ true → T (finite x) × T (lt zero⁺ x)
unfolding usable
usable_parts x e =
    let t = subst T (sym e) tt in
    (and_l (finite x) (lt zero⁺ x) t, and_r (finite x) (lt zero⁺ x) t)

-- ---- one row, of the weights of k^(p+1) windows

module _ (k p : ℕ) (pos : 0 < k) (few : k ^ suc p ≤ 256) (weight : ℕ → Float) (row : List Float)
    (divided : (a : ℕ) → a < k ^ suc p → row ! a ≡ weight a ⊘ sum_up weight (k ^ suc p)) where
  -- the share of label s is its probability
  as_share : (s : ℕ) → s < k → label_share binary64 k (tab weight (k ^ suc p)) s ≡ probability k p row s
  unfolding label_sum
  as_share s h =
      let m = k ^ suc p in
      let L = total binary64 (tab weight m) in
      ap (λ (l : List Float). total binary64 (part k s 0 l)) (map_tab (λ x. x ⊘ L) weight m)
      ∙ ap (λ (n : ℕ). total binary64 (part k s 0 (tab (λ a. weight a ⊘ L) n))) (pow-suc k p)
      ∙ part_tab k s (λ a. weight a ⊘ L) h (k ^ p)
      ∙ sum_ext _ _ (k ^ p)
      (λ j l.
      ap (λ (t : Float). weight (s + j * k) ⊘ t) (total_tab weight m)
      ∙ sym (divided (s + j * k) (let d = digits_lt l h in let e : m ≡ k ^ p * k = pow-suc k p in omega arith)))
      ∙ label_sum_is k p pos row s

  module _ (fine : usable (sum_up weight (k ^ suc p)) ≡ true) where
    -- weights not below zero, whose sum is finite and above zero
    pub row_near_one : ((a : ℕ) → a < k ^ suc p → T (not_below binary64 (weight a))) → NearOne k (k ^ suc p) (probability k p row)
    row_near_one each =
        let m = k ^ suc p in
        let u = usable_parts (sum_up weight m) fine in
        let long = length_tab weight m in
        let d =
        demand_3_of k (tab weight m) pos (subst (λ (n : ℕ). n ≤ 256) (sym long) few) (every_tab (not_below binary64) weight m each)
        (subst (λ (x : Float). T (finite x)) (sym (total_tab weight m)) u.0)
        (subst (λ (x : Float). T (lt zero⁺ x)) (sym (total_tab weight m)) u.1) in
        near_same k m (label_share binary64 k (tab weight m)) (probability k p row) as_share
        (subst (λ (n : ℕ). NearOne k n (label_share binary64 k (tab weight m))) long d)

    -- and the row has none below zero
    pub row_not_below : ((a : ℕ) → a < k ^ suc p → NotBelow (weight a)) → (a : ℕ) → a < k ^ suc p → NotBelow (row ! a)
    row_not_below each a h = subst NotBelow (sym (divided a h)) (quotient_not_below (weight a) _ (each a h) (usable_parts _ fine).1)

-- ---- n rows, one made from another

-- a row of k^(p+1) windows with none below zero
abbrev pub NoneBelow : ℕ → ℕ → (ℕ → Float) → Type 0
NoneBelow k p x = (a : ℕ) → a < k ^ suc p → NotBelow (x a)

-- predictions and densities by row and window, and the filtered rows: the weight of a window is its prediction times its density. What is asked
-- of a rule and of a start is `first` and `later`
pub record Rows (k p n : ℕ) (predicted density : ℕ → ℕ → Float) (filtered : ℕ → List Float) : Type 0 where
  pub updated : (i a : ℕ) → a < k ^ suc p → filtered i ! a ≡ predicted i a ⊗ density i a ⊘ sum_up (λ b. predicted i b ⊗ density i b) (k ^ suc p)
  pub likelihoods : (i : ℕ) → i < n → usable (sum_up (λ b. predicted i b ⊗ density i b) (k ^ suc p)) ≡ true
  pub densities : (i : ℕ) → NoneBelow k p (density i)
  pub first : NoneBelow k p (predicted 0)
  pub later : (i : ℕ) → NoneBelow k p (◌!◌ (filtered i)) → NoneBelow k p (predicted (suc i))

module _ {k p n : ℕ} {predicted density : ℕ → ℕ → Float} {filtered : ℕ → List Float} (pos : 0 < k) (few : k ^ suc p ≤ 256) (rows : Rows k p n predicted density filtered) where
  weighed : (i : ℕ) → NoneBelow k p (predicted i) → NoneBelow k p (λ a. predicted i a ⊗ density i a)
  weighed i h a l = product_not_below (predicted i a) (density i a) (h a l) (rows.densities i a l)

  predictions : (i : ℕ) → i < n → NoneBelow k p (predicted i)
  predictions zero h = rows.first
  predictions (suc i) h =
      let l : i < n = omega arith in
      rows.later i (row_not_below k p pos few (λ a. predicted i a ⊗ density i a) (filtered i) (rows.updated i) (rows.likelihoods i l) (weighed i (predictions i l)))

  pub rows_near_one : (i : ℕ) → i < n → NearOne k (k ^ suc p) (probability k p (filtered i))
  rows_near_one i h =
      row_near_one k p pos few (λ a. predicted i a ⊗ density i a) (filtered i) (rows.updated i) (rows.likelihoods i h)
      (λ a l. as_weight (predicted i a ⊗ density i a) (mul-fits binary64 (predicted i a) (density i a)) (weighed i (predictions i h) a l))
