-- Arrays of sums over places: cell c of an array sums f c over the places before e at which the test t c holds. None so far, and one place more.
-- Assumes nothing.
use Rattle.std.specs.Prelude.{if◌then◌else◌}
use Prim.Native.Nat.{ℕ, ◌+◌, ◌<◌, ◌≤◌}
use mathlib.Core.Path.{◌≡◌, refl, sym, ◌∙◌}
use mathlib.Core.Logic.{◌≢◌}
use mathlib.Core.Bool.{Bool, true, false, ◌&&◌}
use mathlib.Core.List.{List}
use native.Mathlib.Omega.{arith}
use borrow.Author.Tests.{eq-eqb, ne_eqb}
use lib.ListN.{length, set, replicate, length-replicate, get_or-replicate}
use lib.Ieee.{Float, nan}
use Rattle.number.specs.Number.{◌=?◌, ◌⊕◌, zero⁺}
use Rattle.number.specs.Table.{◌!◌, fill_at}
use Rattle.number.proofs.Sums.{where_none, where_more, where_same}
use Rattle.number.proofs.Table.{fill_is, fill_set, fill_at_lem, fill_long, fill_at_ext, fill_at_past}
use Rattle.rows.specs.Steps.{cell_at}

module _ (t : ℕ → ℕ → Bool) (f : ℕ → ℕ → Float) where
  -- an array of zeros
  pub cells_none : (N M : ℕ) → N ≤ M → replicate M zero⁺ ≡ fill_at 0 (cell_at t f 0) N (replicate M zero⁺)
  unfolding cell_at
  cells_none N M h =
      fill_is _ N (replicate M zero⁺) (rw length-replicate h) refl
      (λ c b. get_or-replicate M c zero⁺ nan (omega arith) ∙ where_none (t c) (f c))
      (λ c _. refl)

  -- a place that counts for a cell, and one that does not
  cell_adds : (e c : ℕ) {s v : Float} → s ≡ cell_at t f e c → t c e ≡ true → v ≡ f c e → s ⊕ v ≡ cell_at t f (e + 1) c
  unfolding cell_at
  cell_adds e c d h w = rw w (where_more (t c) (f c) e d h)

  cell_keeps : (e c : ℕ) {s : Float} → s ≡ cell_at t f e c → t c e ≡ false → s ≡ cell_at t f (e + 1) c
  unfolding cell_at
  cell_keeps e c d h = where_same (t c) (f c) e d h

  module _ (N e : ℕ) (l : List Float) {acc : List Float} (d : acc ≡ fill_at 0 (cell_at t f e) N l) where
    -- place e counts for no cell
    pub cells_skip : ((c : ℕ) → c < N → t c e ≡ false) → acc ≡ fill_at 0 (cell_at t f (e + 1)) N l
    cells_skip none = d ∙ fill_at_ext 0 _ N l _ (λ c b. cell_keeps e c refl (none c b))

    -- for one
    pub cells_one : N ≤ length l → (c : ℕ) → c < N → t c e ≡ true → ((c' : ℕ) → c' < N → c' ≢ c → t c' e ≡ false) → {v : Float} → v ≡ f c e
        → set acc c (acc ! c ⊕ v) ≡ fill_at 0 (cell_at t f (e + 1)) N l
    cells_one h c b holds others w =
        fill_set _ _ N l d c b h (cell_adds e c (fill_at_lem _ N l d c b) holds w) (λ c' b' z. cell_keeps e c' refl (others c' b' z))

    -- for cell b where u says so, and else for none
    pub cells_if : N ≤ length l → (u : Bool) (b : ℕ) → b < N → ((c : ℕ) → t c e ≡ (u && b =? c)) → {v : Float} → v ≡ f b e
        → {acc' : List Float} → acc' ≡ (if u then set acc b (acc ! b ⊕ v) else acc) → acc' ≡ fill_at 0 (cell_at t f (e + 1)) N l
    cells_if h true b hb tests w e' =
        e' ∙ cells_one h b hb (tests b ∙ eq-eqb b b refl) (λ c _ n. tests c ∙ ne_eqb b c (λ z. n (sym z))) w
    cells_if h false b hb tests w e' = e' ∙ cells_skip (λ c _. tests c)

    -- for some: each cell is written anew
    pub cells_more : {acc' : List Float} → N ≤ length l → acc' ≡ fill_at 0 (λ c. if t c e then (acc ! c ⊕ f c e) else (acc ! c)) N acc
        → acc' ≡ fill_at 0 (cell_at t f (e + 1)) N l
    cells_more {acc'} h d' =
        let long : length acc ≡ length l = fill_long _ N l d h in
        fill_is _ N l h (fill_long _ N acc d' (omega arith) ∙ long)
        (λ c b. fill_at_lem _ N acc d' c b ∙ cell_is c (fill_at_lem _ N l d c b) (t c e) refl)
        (λ c b. fill_at_past 0 _ N acc d' c (omega arith) (omega arith) ∙ fill_at_past 0 _ N l d c (omega arith) (omega arith))
      where
        cell_is : (c : ℕ) {s : Float} → s ≡ cell_at t f e c → (b : Bool) → t c e ≡ b → (if b then (s ⊕ f c e) else s) ≡ cell_at t f (e + 1) c
        cell_is c r true q = cell_adds e c r q refl
        cell_is c r false q = cell_keeps e c r q
