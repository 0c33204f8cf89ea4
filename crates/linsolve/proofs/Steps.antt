-- The steps of the code are those of the definition: each law takes what the code knows at a place to what it has to show there. Assumes nothing.
use Rattle.std.specs.Prelude.{swap, Ok, Err}
use Prim.Native.Nat.{ℕ, zero, suc, ◌+◌, ◌-◌, ◌*◌, ◌<◌, ◌≤◌}
use mathlib.Core.Path.{◌≡◌, refl, sym, ap}
use mathlib.Core.Bool.{true, false}
use mathlib.Core.List.{List, [], ◌∷◌}
use mathlib.Core.Logic.{⊎_elim}
use native.Mathlib.Numerals.{add-one}
use native.Mathlib.Nat.{eq-or-lt_of_le, le_of_suc-le-suc, not-suc-le-zero}
use native.Mathlib.Omega.{arith}
use borrow.Author.Tests.{lt-ltb, le-ltb, eq-eqb, ne_eqb}
use lib.ListN.{length, set}
use Rattle.std.proofs.lemmas.List.{get_or_default}
use lib.Ieee.{Float, nan, lt, ne}
use Rattle.number.specs.Number.{◌⊖◌, ◌⊗◌, ◌⊘◌, zero⁺, magnitude_of}
use Rattle.number.specs.Table.{◌!◌, cell, fill_at}
use Rattle.number.proofs.Table.{fill_at_none, fill_at_more, fill_at_before, fill_at_past, row_within, row_before}
use Rattle.linsolve.specs.Solver.{System, system, better, pivot_to, pivot_of, swap_rows, placed, less, less_row, clear_row, clear_to, tiny, Elimination, cleared, stopped_at, is_small, column, eliminate_to, less_known, unknown, zeros, back_to, answer, solve_of}
use Rattle.linsolve.specs.Promises.{Best}
use Rattle.linsolve.specs.declared.Unsolved.{Unsolved}
use Rattle.linsolve.specs.declared.Unsolved.TheVariants.{TooLarge}

-- ---- a loop that starts past c has done r - suc c rows or columns when it comes to r

none_done : (c : ℕ) → c + 1 - suc c ≡ 0
none_done c = omega arith

one_more : (c r : ℕ) → c < r → r + 1 - suc c ≡ suc (r - suc c)
one_more c r h = omega arith

which_next : (c r : ℕ) → c < r → c + suc (r - suc c) ≡ r
which_next c r h = omega arith

-- ---- the pivot

module _ (n : ℕ) (a : List Float) (c : ℕ) where
  pub best_first : {m : Float} → c < n → m ≡ magnitude_of (cell n a c c) → Best n a c (c + 1) c m
  unfolding pivot_to
  best_first h e = record { row = rw none_done; magnitude = e; low = omega arith; high = h }

  -- the next row r, of magnitude m
  module _ (r : ℕ) {i : ℕ} {best m : Float} (h : c < r) (h' : r < n) (o : Best n a c r i best) (e : m ≡ magnitude_of (cell n a r c)) where
    pub best_moves : lt best m ≡ true → Best n a c (r + 1) r m
    unfolding pivot_to better
    best_moves t =
        record { row = rw (one_more, which_next, ← o.row, ← o.magnitude, ← e, t); magnitude = e; low = omega arith; high = h' }

    pub best_stays : lt best m ≡ false → Best n a c (r + 1) i best
    unfolding pivot_to better
    best_stays t =
        record { row = rw (one_more, which_next, ← o.row, ← o.magnitude, ← e, t); magnitude = o.magnitude; low = o.low; high = o.high }

-- ---- one column

-- std's `swap` of two places is the two stores
swap_stores : (l : List Float) (i j : ℕ) → i < length l → j < length l → swap l i j ≡ set (set l i (l ! j)) j (l ! i)
swap_stores [] i j h k = absurd (not-suc-le-zero h)
swap_stores (d ∷ ys) i j h k = rw (get_or_default (d ∷ ys) i d nan h, get_or_default (d ∷ ys) j d nan k) refl

module _ (n c : ℕ) (a b : List Float) where
  pub swap_is : (i : ℕ) {a' b' : List Float} → length b ≡ 16 → c < n → i < n → n ≤ 16
      → a' ≡ fill_at (i * n) (cell n a c) n (fill_at (c * n) (cell n a i) n a) → b' ≡ swap b i c → system a' b' ≡ swap_rows n c i (system a b)
  unfolding swap_rows
  swap_is i lb hc hi h e e' = rw (e, e', swap_stores b i c (omega arith) (omega arith))

  module _ (r : ℕ) (f : Float) where
    pub less_first : a ≡ fill_at (r * n + c) (less n a c r f) (c - c) a
    less_first = let e : c - c ≡ 0 = omega arith in rw e (fill_at_none _ _ a)

    pub less_more : (j : ℕ) {l : List Float} → n ≤ 16 → length a ≡ 256 → c < r → r < n → c ≤ j → j < n → l ≡ fill_at (r * n + c) (less n a c r f) (j - c) a
        → set l (r * n + j) (l ! (r * n + j) ⊖ f ⊗ l ! (c * n + j)) ≡ fill_at (r * n + c) (less n a c r f) (j + 1 - c) a
    unfolding less
    less_more j {l} h la hc hr low high e =
        let within = row_within n r h hr in
        let apart = row_before n c r hc in
        let d = j - c in
        let here : r * n + c + d ≡ r * n + j = omega arith in
        let next : j + 1 - c ≡ d + 1 = omega arith in
        let column : c + d ≡ j = omega arith in
        let upper : l ! (c * n + j) ≡ a ! (c * n + j) = fill_at_before _ _ d a e _ (omega (arith, apart)) (omega (arith, within)) in
        let lower : l ! (r * n + j) ≡ a ! (r * n + j) = fill_at_past _ _ d a e _ (omega arith) (omega (arith, within)) in
        let v = l ! (r * n + j) ⊖ f ⊗ l ! (c * n + j) in
        let is : v ≡ less n a c r f d = rw (column, upper, lower) in
        rw next (rw here at (fill_at_more _ (less n a c r f) d a e is (omega (arith, within))))

    pub less_is : {l : List Float} → l ≡ fill_at (r * n + c) (less n a c r f) (n - c) a → system l (set b r (b ! r ⊖ f ⊗ b ! c)) ≡ less_row n c r f (system a b)
    unfolding less_row
    less_is e = rw e

  pub placed_swap : (i : ℕ) {S : System} → i ≡ pivot_of n a c → (i ≡ c → ⊥) → S ≡ swap_rows n c i (system a b) → S ≡ placed n c (system a b)
  unfolding placed
  placed_swap i e q o = rw (← e, ne_eqb i c q) o

  pub placed_same : (i : ℕ) → i ≡ pivot_of n a c → i ≡ c → system a b ≡ placed n c (system a b)
  unfolding placed
  placed_same i e q = rw (← e, eq-eqb i c q)

  module _ (r : ℕ) {x y : Float} (ex : x ≡ cell n a r c) (ey : y ≡ cell n a c c) where
    pub clear_yes : {S : System} → ne (x ⊘ y) zero⁺ ≡ true → S ≡ less_row n c r (x ⊘ y) (system a b) → S ≡ clear_row n c r (system a b)
    unfolding clear_row
    clear_yes t o = rw (← ex, ← ey, t) o

    pub clear_no : ne (x ⊘ y) zero⁺ ≡ false → system a b ≡ clear_row n c r (system a b)
    unfolding clear_row
    clear_no t = rw (← ex, ← ey, t)

  pub clear_first : system a b ≡ clear_to n c (system a b) (c + 1 - suc c)
  unfolding clear_to
  clear_first = rw none_done

  module _ {i : ℕ} {m : Float} (p : Best n a c n i m) where
    pub column_stops : lt m tiny ≡ true → stopped_at c ≡ column n c (system a b)
    unfolding column is_small
    column_stops t = rw (← p.row, ← p.magnitude, t)

    pub column_goes : {S T : System} → lt m tiny ≡ false → S ≡ placed n c (system a b) → T ≡ clear_to n c S (n - suc c)
        → cleared T ≡ column n c (system a b)
    unfolding column is_small
    column_goes t o o' = rw (← p.row, ← p.magnitude, t, ← o) (ap cleared o')

pub clear_more : (n c r : ℕ) (S : System) {T U : System} → c < r → T ≡ clear_to n c S (r - suc c) → U ≡ clear_row n c r T
    → U ≡ clear_to n c S (r + 1 - suc c)
unfolding clear_to
clear_more n c r S h o o' = rw (one_more, which_next, ← o) o'

-- ---- all columns

-- stopped at a column, whatever comes after it
pub stays_stopped : (n : ℕ) (S : System) {e : Unsolved} (c d : ℕ) → c < d → eliminate_to n S (suc c) ≡ Err e → eliminate_to n S d ≡ Err e
unfolding eliminate_to
stays_stopped n S c zero h e = absurd (not-suc-le-zero h)
stays_stopped n S c (suc d) h e = ⊎_elim (λ q. rw (← q) e) (λ l. rw (stays_stopped n S c d l e)) (eq-or-lt_of_le (le_of_suc-le-suc h))

pub columns_first : (n : ℕ) (S : System) → cleared S ≡ eliminate_to n S 0
unfolding eliminate_to
columns_first n S = refl

-- after c columns the next is done
module _ (n : ℕ) (S : System) (c : ℕ) {T : System} (o : cleared T ≡ eliminate_to n S c) where
  pub columns_more : {E : Elimination} → E ≡ column n c T → E ≡ eliminate_to n S (c + 1)
  unfolding eliminate_to
  columns_more o' = rw (add-one, ← o) o'

  pub columns_stop : {e : Unsolved} → Err e ≡ column n c T → c < n → Err e ≡ eliminate_to n S n
  unfolding eliminate_to
  columns_stop o' h = sym (stays_stopped n S c n h (rw (← o) (sym o')))

-- ---- back-substitution

module _ (n : ℕ) (S : System) (x : List Float) (r : ℕ) where
  pub known_first : S.b ! r ≡ less_known n S x r (r + 1 - suc r)
  unfolding less_known
  known_first = rw none_done

  pub known_more : (j : ℕ) {v y : Float} → r < j → v ≡ less_known n S x r (j - suc r) → y ≡ cell n S.a r j
      → v ⊖ y ⊗ x ! j ≡ less_known n S x r (j + 1 - suc r)
  unfolding less_known
  known_more j h e ey = rw (one_more, which_next, ← ey, ← e)

pub back_first : (n : ℕ) (S : System) → zeros ≡ back_to n S (n - n)
unfolding back_to
back_first n S = let e : n - n ≡ 0 = omega arith in rw e

pub back_more : (n : ℕ) (S : System) (x : List Float) (r : ℕ) {v y : Float} → 0 < r → r ≤ n → x ≡ back_to n S (n - r)
    → v ≡ less_known n S x (r - 1) (n - suc (r - 1)) → y ≡ cell n S.a (r - 1) (r - 1)
    → set x (r - 1) (v ⊘ y) ≡ back_to n S (n - (r - 1))
unfolding back_to unknown
back_more n S x r h h' e ev ey =
    let q : n - (r - 1) ≡ suc (n - r) = omega arith in
    let q' : n - suc (n - r) ≡ r - 1 = omega arith in
    rw (q, q', ← e, ← ev, ← ey)

-- ---- the whole

pub large_is : (n : ℕ) (a b : List Float) → 16 < n → Err TooLarge ≡ solve_of n a b
unfolding solve_of
large_is n a b h = rw (lt-ltb 16 n h)

module _ (n : ℕ) (a b : List Float) (h : n ≤ 16) where
  pub solved_is : {S : System} {x : List Float} → cleared S ≡ eliminate_to n (system a b) n → x ≡ back_to n S n → Ok x ≡ solve_of n a b
  unfolding solve_of answer
  solved_is o e = rw (le-ltb 16 n h, ← o, e)

  pub unsolved_is : {e : Unsolved} → Err e ≡ eliminate_to n (system a b) n → Err e ≡ solve_of n a b
  unfolding solve_of answer
  unsolved_is o = rw (le-ltb 16 n h, ← o)
