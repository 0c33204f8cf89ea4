-- Sensitivities, and readings less their lags: followed a lag further, and that they are the definition's. Assumes nothing.
use Prim.Native.Nat.{ℕ, zero, suc, ◌+◌, ◌-◌, ◌*◌, ◌/◌, ◌%◌, ◌^◌, ◌<◌, ◌≤◌}
use mathlib.Core.Path.{◌≡◌, refl, sym, ◌∙◌}
use mathlib.Core.List.{List}
use native.Mathlib.Numerals.{add-one}
use native.Mathlib.Nat.{mul-le-mul, mod-lt, div-add-mod', div-le_self, le_refl}
use native.Mathlib.Omega.{arith}
use borrow.Author.Tests.{eq-eqb, ne_eqb}
use lib.Arith.{digits_lt, digits_mod}
use lib.ListN.{length, set, replicate, get_or-replicate, length-replicate}
use lib.Ieee.{Float, nan, neg}
use Rattle.number.specs.Number.{◌⊕◌, ◌⊖◌, ◌⊗◌, zero⁺, one}
use Rattle.number.specs.Table.{◌!◌, fill_at}
use Rattle.number.proofs.Table.{fill_at_lem, fill_at_ext, fill_is, fill_set}
use Rattle.window.specs.declared.sizes.Sizes.{Sizes}
use Rattle.window.proofs.Windows.{label_labels, label_cut}
use Rattle.params.specs.declared.MsarParams.{MsarParams}
use Rattle.params.specs.Parameters.{k, p, φ}
use Rattle.rows.proofs.ByPlace.{row_label, label_runs, label_now}
use Rattle.density.specs.Steps.{phis_of}
use Rattle.density.proofs.Means.{phi_at}
use Rattle.rows.specs.Smoothed.{label_at, time_at}
use Rattle.em_means.specs.Means.{d_to, αTo}
use Rattle.em_means.specs.Steps.{sensitivity_to, sensitivities_of, less_lags_to}

-- a remainder without %
pub left_is : (n k : ℕ) → n % k ≡ n - n / k * k
left_is n k = omega (arith, div-add-mod' n k)

-- φ_(l+1) of label s has a place
pub phi_within : (z : Sizes) (l s : ℕ) → l < z.order → s < z.k → l * z.k + s < 112
phi_within z l s h i =
    omega (arith, digits_lt h i, mul-le-mul z.few_lags z.shape.high)

-- ---- a sensitivity, lag by lag; `rest` has the labels from lag l + 1 on

module _ (count a : ℕ) where
  pub rest_below : (l : ℕ) {rest : ℕ} → rest ≡ a / count ^ suc l → rest ≤ a
  rest_below l d = rw d (div-le_self a (count ^ suc l))

  module _ (phis : List Float) (r : ℕ) where
    now_felt : {s : ℕ} → s ≡ a % count → s ≡ r → neg one ≡ sensitivity_to count phis a r 0
    unfolding sensitivity_to
    now_felt e h = rw (← e, eq-eqb _ _ h)

    now_not_felt : {s : ℕ} → s ≡ a % count → (s ≡ r → ⊥) → zero⁺ ≡ sensitivity_to count phis a r 0
    unfolding sensitivity_to
    now_not_felt e h = rw (← e, ne_eqb _ _ h)

    module _ (l : ℕ) {x : Float} {rest : ℕ} (e : x ≡ sensitivity_to count phis a r l) (d : rest ≡ a / count ^ suc l) where
      lag_felt : rest % count ≡ r → x ⊕ phis ! (l * count + a % count) ≡ sensitivity_to count phis a r (l + 1)
      unfolding sensitivity_to
      lag_felt h = rw (add-one l, ← d, eq-eqb _ _ h, e)

      lag_not_felt : (rest % count ≡ r → ⊥) → x ≡ sensitivity_to count phis a r (l + 1)
      unfolding sensitivity_to
      lag_not_felt h = rw (add-one l, ← d, ne_eqb _ _ h, e)

-- ---- all sensitivities of a window: one store now, and one a lag

module _ (count a : ℕ) (phis : List Float) {s : ℕ} (now : s ≡ a % count) where
  pub row_now : {row : List Float} → row ≡ replicate 16 zero⁺ → s < count → count ≤ 16 → set row s (neg one) ≡ sensitivities_of count 0 phis a
  unfolding sensitivities_of
  row_now e b h =
      let long : count ≤ length (replicate 16 zero⁺) = rw (length-replicate 16 zero⁺) h in
      let zeros : replicate 16 zero⁺ ≡ fill_at 0 (λ _. zero⁺) count (replicate 16 zero⁺) = fill_is _ count _ long refl (λ i j. get_or-replicate 16 i zero⁺ nan (omega arith)) (λ i _. refl) in
      rw e
      (fill_set _ _ count _ zeros s b long (now_felt count a phis s now refl)
      (λ i _ n. now_not_felt count a phis i now (λ w. n (sym w))))

  pub row_lag : (l : ℕ) {row : List Float} {rest r : ℕ} → row ≡ sensitivities_of count l phis a → rest ≡ a / count ^ suc l → rest % count ≡ r → r < count → count ≤ 16
      → set row r (row ! r ⊕ phis ! (l * count + s)) ≡ sensitivities_of count (l + 1) phis a
  unfolding sensitivities_of
  row_lag l {row} {rest} {r} e d m b h =
      fill_set _ _ count _ e r b (rw (length-replicate 16 zero⁺) h)
      (rw now (lag_felt count a phis r l (fill_at_lem _ count _ e r b) d m))
      (λ i _ n. lag_not_felt count a phis i l refl d (λ w. n (sym w ∙ m)))

-- a place of the row
pub sensitivity_at : (count order : ℕ) (phis : List Float) (a r : ℕ) → r < count → sensitivities_of count order phis a ! r ≡ sensitivity_to count phis a r order
unfolding sensitivities_of
sensitivity_at count order phis a r h = fill_at_lem _ count (replicate 16 zero⁺) refl r h

-- a place has the sensitivities of its window
module _ (z : Sizes) (i : ℕ) {a : ℕ} (h : a < z.windows) where
  label_of : (l : ℕ) → l ≤ z.order → (i * z.windows + a) / z.k ^ l % z.k ≡ a / z.k ^ l % z.k
  label_of l b =
      let long = suc z.order in
      let e = i * z.windows + a in
      let few : 0 < z.k = omega (arith, z.shape.low) in
      sym (label_labels z.k long e l (omega arith))
      ∙ sym (label_cut z.k few long z.order e l b)
      ∙ rw (← z.windows_value, digits_mod i h) (label_labels z.k long a l (omega arith))

  pub sensitivity_of_window : (phis : List Float) (r l : ℕ) → l ≤ z.order → sensitivity_to z.k phis (i * z.windows + a) r l ≡ sensitivity_to z.k phis a r l
  unfolding sensitivity_to
  sensitivity_of_window phis r zero b = rw (row_label z.k z.order z.windows i a z.windows_value)
  sensitivity_of_window phis r (suc l) b =
      rw (label_of (suc l) b, row_label z.k z.order z.windows i a z.windows_value, sensitivity_of_window phis r l (omega arith))

  pub sensitivities_of_window : (phis : List Float) → sensitivities_of z.k z.order phis a ≡ sensitivities_of z.k z.order phis (i * z.windows + a)
  unfolding sensitivities_of
  sensitivities_of_window phis =
      fill_at_ext 0 _ z.k (replicate 16 zero⁺) _ (λ r _. sym (sensitivity_of_window phis r z.order (le_refl z.order)))

-- ---- a reading, lag by lag

pub lag_less : (count : ℕ) (phis y : List Float) (t s l : ℕ) {d : Float} → d ≡ less_lags_to count phis y t s l
    → d ⊖ phis ! (l * count + s) ⊗ y ! (t - (l + 1)) ≡ less_lags_to count phis y t s (l + 1)
unfolding less_lags_to
lag_less count phis y t s l e = rw (add-one l, e)

-- ---- they are the definition's

module _ (q : MsarParams) (pos : 0 < k q) where
  coefficient : (l s : ℕ) → l < p q → s < k q → phis_of q ! (l * k q + s) ≡ φ q s (suc l)
  unfolding φ
  coefficient l s h i = phi_at q.ar q.ar_blocks (k q) (p q) l s h i

  pub sensitivity_is : (e r l : ℕ) → l ≤ p q → sensitivity_to (k q) (phis_of q) e r l ≡ αTo q e r l
  unfolding sensitivity_to αTo
  sensitivity_is e r zero i = rw (label_now q pos e)
  sensitivity_is e r (suc l) i =
      let b : label_at q e (suc l) ≡ e / k q ^ suc l % k q = label_runs q pos e (suc l) (omega arith) ∙ label_labels (k q) (suc (p q)) e (suc l) (omega arith) in
      rw (b, label_now q pos e, coefficient l (e % k q) i (mod-lt e pos), sensitivity_is e r l (omega arith))

  pub less_lags_is : (y : List Float) (e l : ℕ) → l ≤ p q → less_lags_to (k q) (phis_of q) y (time_at q e).0 (e % k q) l ≡ d_to q y e l
  unfolding less_lags_to d_to
  less_lags_is y e zero i = refl
  less_lags_is y e (suc l) i = rw (label_now q pos e, coefficient l (e % k q) i (mod-lt e pos), less_lags_is y e l (omega arith))
