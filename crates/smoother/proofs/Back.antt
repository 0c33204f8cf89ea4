-- The rows in memory while the smoother goes back over them: before row i the filtered rows stand, from row i on the smoothed ones. Rows do not
-- overlap. Assumes nothing.
use Prim.Native.Nat.{ℕ, suc, ◌+◌, ◌-◌, ◌*◌, ◌^◌, ◌<◌, ◌≤◌}
use mathlib.Core.Path.{◌≡◌, refl, sym, ap, subst, ◌∙◌}
use mathlib.Core.Logic.{⊎_elim}
use mathlib.Core.List.{List}
use native.Mathlib.Nat.{suc-mul, eq-or-lt_of_le}
use native.Mathlib.Omega.{arith}
use lib.ListN.{length, drop}
use lib.Ieee.{Float}
use Rattle.number.specs.Table.{fill_at}
use Rattle.number.proofs.Table.{row_before}
use Rattle.params.specs.declared.MsarParams.{MsarParams}
use Rattle.params.specs.Parameters.{k, p}
use Rattle.window.specs.declared.Sizes.{Sizes}
use Rattle.rows.specs.Rows.{Same}
use Rattle.rows.specs.Memory.{predicted_from, filtered_from}
use Rattle.rows.proofs.Stored.{stored_long, stored_there, stored_before, stored_behind, stored_rest}
use Rattle.smoother.specs.Smoother.{smoothed_row}
use Rattle.smoother.specs.Steps.{Sharing, smoothed_in}
use Rattle.smoother.specs.InMemory.{Stand}
use Rattle.smoother.proofs.Row.{weight_same}
use Rattle.smoother.proofs.Common.{positive}

-- row i - 1 with the one that follows it, and the prediction of row i, among n rows
pub within : (m i n : ℕ) → 0 < i → i < n → ((i - 1) * m + 2 * m ≤ n * m) × (n * m + (i - 1) * m + m + m ≤ 2 * (n * m))
within m i n h h' = let a = row_before m (i - 1) i (omega arith) in let b = row_before m i n h' in (omega (arith, a, b), omega (arith, a, b))

-- ---- memory of n rows, before and after the smoother came back to row i

module _ (q : MsarParams) (n : ℕ) where
  abbrev m : ℕ
  m = k q ^ suc (p q)

  pub record Back (i : ℕ) (before after : List Float) : Type 0 where
    pub long : length after ≡ length before
    pub rest : drop (n * m) after ≡ drop (n * m) before
    pub foreseen : (j : ℕ) → j < n → Same m (drop (predicted_from n m j) after) (drop (predicted_from n m j) before)
    pub ahead : (j : ℕ) → j < i → Same m (drop (filtered_from m j) after) (drop (filtered_from m j) before)
    pub done : (predicted filtered : ℕ → List Float) → Stand n m (predicted_from n m) before predicted → Stand n m (filtered_from m) before filtered
        → (j : ℕ) → i ≤ j → j < n → Same m (drop (filtered_from m j) after) (smoothed_row q predicted filtered (n - 1 - j) j)

  -- the last row is the filtered one
  pub back_first : 0 < n → (l : List Float) → Back (n - 1) l l
  unfolding smoothed_row
  back_first h l = record {
    long = refl;
    rest = refl;
    foreseen = λ j b a x. refl;
    ahead = λ j b a x. refl;
    done = λ P F hp hf j b b'. let e : n - 1 - j ≡ 0 = omega arith in rw e (hf j b');
  }

  -- ---- one row further back

  module _ (pos : 0 < k q) {count stride blocks : ℕ} (shared : Sharing (k q) (k q ^ p q) count stride blocks) (i : ℕ) (h : suc i < n)
      {before after after' : List Float} (b : 2 * (n * m) ≤ length before) (w : Back (suc i) before after)
      (e : after' ≡ fill_at (i * m) (smoothed_in (k q) m count stride q.transition (i * m) (n * m + i * m + m) after) m after) where
    room : i * m + m ≤ n * m
    room = row_before m i n (omega arith)

    inside : i * m + m ≤ length after
    inside = omega (arith, w.long, room)

    -- the next row's smoothed weights follow this row, its prediction follows this row's
    next_filtered : i * m + m ≡ filtered_from m (suc i)
    next_filtered = sym (suc-mul i m)

    next_predicted : n * m + i * m + m ≡ predicted_from n m (suc i)
    next_predicted = omega (arith, suc-mul i m)

    row_done : (predicted filtered : ℕ → List Float) → Stand n m (predicted_from n m) before predicted → Stand n m (filtered_from m) before filtered
        → Same m (drop (i * m) after') (smoothed_row q predicted filtered (n - 1 - i) i)
    unfolding smoothed_row smoothed_in
    row_done P F hp hf a x =
        let d : n - 1 - i ≡ suc (n - 1 - suc i) = omega arith in
        rw d
        (stored_there (i * m) m _ after inside e a x
        ∙ weight_same q pos shared a _ _ (smoothed_row q P F (n - 1 - suc i) (suc i)) (P (suc i))
        (rw next_filtered (w.done P F hp hf (suc i) (omega arith) h))
        (rw next_predicted (λ b y. w.foreseen (suc i) h b y ∙ hp (suc i) h b y))
        (drop (i * m) after) (F i)
        (λ b y. w.ahead i (omega arith) b y ∙ hf i (omega arith) b y)
        x)

    pub back_more : Back i before after'
    back_more = record {
      long = stored_long (i * m) m _ after inside e ∙ w.long;
      rest = stored_rest (i * m) m _ after inside e (n * m) room ∙ w.rest;
      foreseen = λ j l a x. stored_behind (i * m) m _ after inside e (predicted_from n m j) (omega (arith, room)) a x ∙ w.foreseen j l a x;
      ahead = λ j l a x. stored_before (i * m) m _ after inside e (filtered_from m j) (row_before m j i l) a x ∙ w.ahead j (omega arith) a x;
      done = λ P F hp hf j l l'.
          ⊎_elim
          (λ (g : i ≡ j). subst (λ (u : ℕ). Same m (drop (filtered_from m u) after') (smoothed_row q P F (n - 1 - u) u)) g (row_done P F hp hf))
          (λ (g : i < j). λ a x. stored_behind (i * m) m _ after inside e (filtered_from m j) (row_before m i j g) a x ∙ w.done P F hp hf j g l' a x)
          (eq-or-lt_of_le l);
    }

  -- ---- the same in the code's words: by the sizes that it has, and for the row before row i

  module _ (sizes : Sizes) (ek : sizes.k ≡ k q) (ep : sizes.order ≡ p q) where
    windows : sizes.windows ≡ m
    windows = sizes.windows_value ∙ ap (λ (x : ℕ). x ^ suc sizes.order) ek ∙ ap (λ (x : ℕ). k q ^ suc x) ep

    power : sizes.power ≡ k q ^ p q
    power = sizes.power_value ∙ ap (λ (x : ℕ). x ^ sizes.order) ek ∙ ap (λ (x : ℕ). k q ^ x) ep

    pub back_step : {count stride blocks : ℕ} → Sharing sizes.k sizes.power count stride blocks → (i : ℕ) → 0 < i → i < n → {before after after' : List Float}
        → 2 * (n * sizes.windows) ≤ length before → Back i before after
        → after' ≡ fill_at ((i - 1) * sizes.windows) (smoothed_in sizes.k sizes.windows count stride q.transition ((i - 1) * sizes.windows) (n * sizes.windows + (i - 1) * sizes.windows + sizes.windows) after) sizes.windows after
        → Back (i - 1) before after'
    back_step shared i z h {before} {after} b w e =
        let u : i ≡ suc (i - 1) = omega arith in
        let pos : 0 < k q = subst (λ (x : ℕ). 0 < x) ek (positive sizes) in
        back_more pos (rw (ek, power) at shared) (i - 1) (omega arith) (rw windows at b) (subst (λ (x : ℕ). Back x before after) u w) (rw (ek, windows) at e)
