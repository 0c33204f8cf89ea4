-- Blocks in arrays: that they fit, the table of a window row by row, and the answers of the blocks one after another. Assumes nothing.
use Rattle.std.specs.Prelude.{Result, Ok, Err, if◌then◌else◌}
use Rattle.std.specs.Result.{result_unwrap_or}
use Prim.Native.Nat.{ℕ, zero, suc, ◌+◌, ◌*◌, ◌/◌, ◌%◌, ◌^◌, ◌<◌, ◌≤◌}
use mathlib.Core.Path.{◌≡◌, ◌∙◌}
use mathlib.Core.Bool.{true}
use mathlib.Core.List.{List}
use native.Mathlib.Numerals.{add-one}
use native.Mathlib.Nat.{suc-mul, zero-mul, mul-le-mul, mul-le-mul_right, mod-lt, div-lt_iff_lt-mul}
use native.Mathlib.Omega.{arith}
use lib.Arith.{digits_div, digits_mod}
use lib.ListN.{length, set, replicate}
use lib.Ieee.{Float, ne}
use Rattle.number.specs.Number.{◌⊕◌, ◌⊗◌, ◌⊘◌, zero⁺}
use Rattle.number.specs.Table.{◌!◌, fill_at}
use Rattle.number.proofs.Table.{fill_at_none, fill_at_ext, fill_at_past, fill_at_join, fill_at_long, fill_at_more, fill_at_lem, fill_join, row_before}
use Rattle.window.proofs.Windows.{label_labels}
use Rattle.refusal.specs.Checks.{Passed, Failed, check_of, each}
use Rattle.refusal.specs.declared.Refusal.{Refusal}
use Rattle.refusal.proofs.Each.{each_found, each_ext}
use Rattle.em_ridge.specs.Ridge.{solve_or_keep}
use Rattle.em_coefficients.specs.Coefficients.{blocks_of}
use Rattle.em_coefficients.specs.Steps.{distance_of, table_term, side_term, added_to, block_from}

-- ---- blocks of at most 7 coefficients, at most 16 of them

module _ {b p : ℕ} (hb : b < 16) (hp : p ≤ 7) where
  pub side_fits : b * p + p ≤ 112
  side_fits = omega (arith, row_before p b 16 hb, mul-le-mul_right 16 hp)

  pub table_fits : b * (p * p) + p * p ≤ 784
  table_fits = omega (arith, row_before (p * p) b 16 hb, mul-le-mul hp hp)

  pub row_fits : (l : ℕ) → l < p → b * (p * p) + l * p + p ≤ 784
  row_fits l hl = omega (arith, table_fits, row_before p l p hl)

pub table_small : {p : ℕ} → p ≤ 7 → p * p ≤ 256
table_small hp = omega (arith, mul-le-mul hp hp)

-- ---- a part whose places are added to, one place further

pub place_still : (at : ℕ) (f : ℕ → Float) (c : ℕ) (l : List Float) {m : List Float} (v : Float) → m ≡ fill_at at f c l → at ≤ length l → m ! (at + c) ⊕ v ≡ l ! (at + c) ⊕ v
place_still at f c l v e h = rw (fill_at_past at f c l e (at + c) (omega arith) h)

-- ---- the table of a window, row by row

module _ (b p : ℕ) (w : Float) (x : List Float) (T : List Float) where
  abbrev pub table_to : ℕ → List Float
  table_to l = fill_at (b * (p * p)) (λ c. T ! (b * (p * p) + c) ⊕ table_term p w (λ i. x ! i) c) (l * p) T

  pub table_none : T ≡ table_to 0
  table_none = rw (zero-mul p) (fill_at_none (b * (p * p)) _ T)

  pub table_more : (l : ℕ) {m m' : List Float} → m ≡ table_to l → b * (p * p) + p * p ≤ length T → l < p
      → m' ≡ fill_at (b * (p * p) + l * p) (λ c. m ! (b * (p * p) + l * p + c) ⊕ w ⊗ x ! (l + 1) ⊗ x ! (c + 1)) p m
      → m' ≡ table_to (l + 1)
  unfolding table_term
  table_more l {m} e h hl e' =
      let inside : l * p + p ≤ p * p = row_before p l p hl in
      e'
      ∙ fill_at_join (b * (p * p)) _ _ (l * p) p T e (omega arith)
      (λ c hc.
      let z : b * (p * p) + l * p + c ≡ b * (p * p) + (l * p + c) = omega arith in
      rw (digits_div l hc, digits_mod l hc, z, fill_at_past (b * (p * p)) _ (l * p) T e (b * (p * p) + (l * p + c)) (omega arith) (omega arith), add-one, add-one))
      ∙ rw (add-one, suc-mul)

  pub table_long : (l : ℕ) {m : List Float} → m ≡ table_to l → b * (p * p) + p * p ≤ length T → l ≤ p → length m ≡ length T
  table_long l e h hl = fill_at_long _ _ _ T e (omega (arith, mul-le-mul_right p hl))

  pub table_all : {m : List Float} → m ≡ table_to p → m ≡ added_to b (p * p) (table_term p w (λ i. x ! i)) T
  unfolding added_to
  table_all e = e

module _ (b p : ℕ) (w : Float) (x : List Float) (S : List Float) where
  abbrev pub side_to : ℕ → List Float
  side_to l = fill_at (b * p) (λ c. S ! (b * p + c) ⊕ side_term w (λ i. x ! i) c) l S

  pub side_more : (l : ℕ) {m : List Float} → m ≡ side_to l → b * p + l < length S → set m (b * p + l) (m ! (b * p + l) ⊕ w ⊗ x ! (l + 1) ⊗ x ! 0) ≡ side_to (l + 1)
  unfolding side_term
  side_more l e h = fill_at_more (b * p) _ l S e (rw (add-one) (place_still (b * p) _ l S _ e (omega arith))) h

  pub side_all : {m : List Float} → m ≡ side_to p → m ≡ added_to b p (side_term w (λ i. x ! i)) S
  unfolding added_to
  side_all e = e

-- ---- a window by its label now and its distances

added_ext : (b n : ℕ) (f g : ℕ → Float) (l : List Float) → ((c : ℕ) → c < n → f c ≡ g c) → added_to b n f l ≡ added_to b n g l
unfolding added_to
added_ext b n f g l h = fill_at_ext (b * n) _ n l _ (λ c i. rw (h c i))

positive : (order : ℕ) {c : ℕ} → c < order * order → 0 < order
positive zero h = omega (arith, h)
positive (suc n) h = omega arith

module _ (b order : ℕ) (g v : Float) (d : ℕ → Float) (x₀ : List Float) (l : List Float) {x l' : List Float} (t : ne g zero⁺ ≡ true)
    (ex : x ≡ fill_at 0 d (order + 1) x₀) where
  pub window_table : l' ≡ added_to b (order * order) (table_term order (g ⊘ v) (λ i. x ! i)) l
      → l' ≡ (if ne g zero⁺ then added_to b (order * order) (table_term order (g ⊘ v) d) l else l)
  unfolding table_term
  window_table e =
      rw t
      (e
      ∙ added_ext _ (order * order) _ _ l
      (λ c h. rw (fill_at_lem d (order + 1) x₀ ex (suc (c / order)) (let u : c / order < order = (div-lt_iff_lt-mul (positive order h)).1 h in omega arith), fill_at_lem d (order + 1) x₀ ex (suc (c % order)) (omega (arith, mod-lt c (positive order h))))))

  pub window_side : l' ≡ added_to b order (side_term (g ⊘ v) (λ i. x ! i)) l → l' ≡ (if ne g zero⁺ then added_to b order (side_term (g ⊘ v) d) l else l)
  unfolding side_term
  window_side e =
      rw t
      (e
      ∙ added_ext _ order _ _ l
      (λ c h. rw (fill_at_lem d (order + 1) x₀ ex (suc c) (omega arith), fill_at_lem d (order + 1) x₀ ex 0 (omega arith))))

-- ---- the answers of the blocks

pub block_is : (p : ℕ) (tables sides ar : List Float) (b : ℕ) {table side incumbent : List Float} {r : Result (List Float) Refusal}
    → table ≡ fill_at 0 (λ e. tables ! (b * (p * p) + e)) (p * p) (replicate 256 zero⁺)
    → side ≡ fill_at 0 (λ l. sides ! (b * p + l)) p (replicate 16 zero⁺)
    → incumbent ≡ fill_at 0 (λ l. ar ! (b * p + l)) p (replicate 16 zero⁺)
    → r ≡ solve_or_keep 2 p table side incumbent
    → r ≡ block_from p tables sides ar b
unfolding block_from
block_is p tables sides ar b t s i e = rw (← t, ← s, ← i) e

module _ (p : ℕ) (block : ℕ → Result (List Float) Refusal) (ar : List Float) where
  abbrev pub answers_to : ℕ → List Float
  answers_to b = fill_at 0 (λ e. result_unwrap_or (block (e / p)) (replicate 16 zero⁺) ! (e % p)) (b * p) ar

  pub answers_none : ar ≡ answers_to 0
  answers_none = rw (zero-mul p) (fill_at_none 0 _ ar)

  pub answers_more : (b : ℕ) {values m m' : List Float} → Ok values ≡ block b → m ≡ answers_to b → b * p + p ≤ length ar
      → m' ≡ fill_at (b * p) (λ l. values ! l) p m → m' ≡ answers_to (b + 1)
  answers_more b solved e h e' =
      e'
      ∙ fill_join _ _ (b * p) p ar e (omega arith) (λ l hl. rw (digits_div b hl, digits_mod b hl, ← solved))
      ∙ rw (add-one, suc-mul)

  pub answers_refused : (n b : ℕ) → each b (λ i. check_of (block i)) ≡ Passed → b < n → {r : Refusal} → Err r ≡ block b → Err r ≡ blocks_of p n block ar
  unfolding blocks_of
  answers_refused n b passed h {r} refused =
      let check : check_of (block b) ≡ Failed r = rw (← refused) in
      rw (each_found (λ i. check_of (block i)) b passed n h check)

  pub answers_all : (n : ℕ) {m : List Float} → each n (λ i. check_of (block i)) ≡ Passed → m ≡ answers_to n → Ok m ≡ blocks_of p n block ar
  unfolding blocks_of
  answers_all n passed e = rw (passed, e)

  pub answers_ext : (n : ℕ) (block' : ℕ → Result (List Float) Refusal) → 0 < p → ((b : ℕ) → b < n → block b ≡ block' b) → blocks_of p n block ar ≡ blocks_of p n block' ar
  unfolding blocks_of
  answers_ext n block' pos same =
      rw (
        each_ext (λ b. check_of (block b)) (λ b. check_of (block' b)) n (λ b h. rw (same b h)),
        fill_at_ext 0 (λ e. result_unwrap_or (block (e / p)) (replicate 16 zero⁺) ! (e % p)) (n * p) ar (λ e. result_unwrap_or (block' (e / p)) (replicate 16 zero⁺) ! (e % p)) (λ e h. rw (same (e / p) ((div-lt_iff_lt-mul pos).1 h))),
      )

-- ---- the distances by lag and label, and the labels of a window in turn: `rest` has those from lag l on

module _ {k order : ℕ} (hk : k ≤ 16) (ho : order ≤ 7) where
  pub distances_fit : (order + 1) * k ≤ 128
  distances_fit = let h : order + 1 ≤ 8 = omega arith in mul-le-mul h hk

  pub distance_within : (l s : ℕ) → l ≤ order → s < k → l * k + s < 128
  distance_within l s hl hs = let h : l < order + 1 = omega arith in omega (arith, distances_fit, row_before k l (order + 1) h)

module _ (k a : ℕ) where
  pub distance_read : (order : ℕ) (distances : List Float) (l : ℕ) {rest : ℕ} → l ≤ order → rest ≡ a / k ^ l → distances ! (l * k + rest % k) ≡ distance_of k order distances a l
  unfolding distance_of
  distance_read order distances l hl e = let h : l < suc order = omega arith in rw (e, label_labels k (suc order) a l h)
