-- Sums in the cells of an array, in blocks of w cells: a place adds to one block alone. Assumes nothing.
use Rattle.std.specs.Prelude.{if◌then◌else◌}
use Prim.Native.Nat.{ℕ, ◌+◌, ◌-◌, ◌*◌, ◌/◌, ◌%◌, ◌<◌, ◌≤◌}
use mathlib.Core.Path.{◌≡◌, refl, sym, ◌∙◌}
use mathlib.Core.Bool.{Bool, true, false, ◌&&◌}
use mathlib.Core.List.{List}
use native.Mathlib.Nat.{mod-lt, div-add-mod'}
use native.Mathlib.Omega.{arith}
use borrow.Author.Tests.{ltb-true, ltb-false, eqb-true, eqb-false}
use lib.Arith.{digits_div}
use lib.Dec.{ltb, eqb}
use lib.ListN.{length}
use lib.Ieee.{Float}
use Rattle.number.specs.Number.{◌=?◌, ◌⊕◌}
use Rattle.number.specs.Table.{◌!◌, fill_at}
use Rattle.number.proofs.Table.{fill_at_long, fill_at_at, fill_at_before, fill_at_past, fill_long, fill_is}
use Rattle.rows.specs.Steps.{cell_at}
use Rattle.rows.proofs.Cells.{cells_skip, cells_more}
use Rattle.em_coefficients.specs.Steps.{added_to}

either : {A : Type 0} (t : Bool) → (t ≡ true → A) → (t ≡ false → A) → A
either true f g = f refl
either false f g = g refl

-- ---- a list m with f added to block b of w places

module _ (b w : ℕ) (f : ℕ → Float) (m : List Float) (h : b * w + w ≤ length m) where
  pub added_long : {m' : List Float} → m' ≡ added_to b w f m → length m' ≡ length m
  unfolding added_to
  added_long e = fill_at_long (b * w) _ w m e h

  added_in : {m' : List Float} → m' ≡ added_to b w f m → (c : ℕ) → c < w → m' ! (b * w + c) ≡ m ! (b * w + c) ⊕ f c
  unfolding added_to
  added_in e c l = fill_at_at (b * w) _ w m e c l (omega arith)

  added_out : {m' : List Float} → m' ≡ added_to b w f m → (c : ℕ) → eqb b (c / w) ≡ false → m' ! c ≡ m ! c
  unfolding added_to
  added_out e c s =
      either (ltb c (b * w))
      (λ t. fill_at_before (b * w) _ w m e c (ltb-true c (b * w) t) (omega arith))
      (λ t.
      let low = ltb-false c (b * w) t in
      either (ltb c (b * w + w))
      (λ t'.
      let high = ltb-true c (b * w + w) t' in
      let z : b * w + (c - b * w) ≡ c = omega arith in
      let r : c - b * w < w = omega arith in
      absurd (eqb-false b (c / w) s (sym (rw z at (digits_div b r)))))
      (λ t'. fill_at_past (b * w) _ w m e c (ltb-false c (b * w + w) t') (omega arith)))

-- ---- a place e that adds to the cells of block b alone, and only where u says so

module _ (t : ℕ → ℕ → Bool) (f : ℕ → ℕ → Float) (N e : ℕ) (l : List Float) {m : List Float} (d : m ≡ fill_at 0 (cell_at t f e) N l) (h : N ≤ length l)
    (b w : ℕ) (pos : 0 < w) (hb : b * w + w ≤ N) where
  -- all cells, each by its test
  spread : (v : ℕ → Float) → ((c : ℕ) → t c e ≡ (b =? c / w)) → ((c : ℕ) → c < w → v c ≡ f (b * w + c) e) → {m' : List Float} → m' ≡ added_to b w v m
      → m' ≡ fill_at 0 (λ c. if t c e then (m ! c ⊕ f c e) else (m ! c)) N m
  spread v tests terms {m'} e' =
      let long : length m ≡ length l = fill_long _ N l d h in
      let wide : b * w + w ≤ length m = omega arith in
      let there : (c : ℕ) → eqb b (c / w) ≡ true → b * w + c % w ≡ c = λ c s. rw (eqb-true b (c / w) s) (div-add-mod' c w) in
      fill_is _ N m (omega arith) (added_long b w v m wide e')
      (λ c hc.
      either (eqb b (c / w))
      (λ s.
      let term : v (c % w) ≡ f c e = rw (there c s) at (terms (c % w) (mod-lt c pos)) in
      rw (tests c, s, ← term) (rw (there c s) at (added_in b w v m wide e' (c % w) (mod-lt c pos))))
      (λ s. rw (tests c, s) (added_out b w v m wide e' c s)))
      (λ c hc.
      either (eqb b (c / w))
      (λ s. absurd (omega (arith, there c s, mod-lt c pos)))
      (λ s. added_out b w v m wide e' c s))

  pub block_more : (u : Bool) (v : ℕ → Float) → ((c : ℕ) → t c e ≡ (u && b =? c / w)) → ((c : ℕ) → c < w → v c ≡ f (b * w + c) e)
      → {m' : List Float} → m' ≡ (if u then added_to b w v m else m) → m' ≡ fill_at 0 (cell_at t f (e + 1)) N l
  block_more false v tests terms e' = e' ∙ cells_skip t f N e l d (λ c _. tests c)
  block_more true v tests terms e' = cells_more t f N e l d h (spread v tests terms e')
