-- Places of the smoothed table: what stands at place i·m + a, and that the weights of n rows are all that counts. Assumes nothing.
use Prim.Native.Nat.{ℕ, suc, ◌+◌, ◌*◌, ◌/◌, ◌%◌, ◌<◌, ◌≤◌}
use mathlib.Core.Path.{◌≡◌, ap, ◌∙◌}
use mathlib.Core.List.{List}
use native.Mathlib.Nat.{one-le-pow, mod-lt, div-add-mod', div-lt_iff_lt-mul}
use native.Mathlib.Omega.{arith}
use lib.Arith.{digits_lt, digits_div, digits_mod}
use lib.ListN.{drop}
use lib.Ieee.{Float}
use Rattle.number.specs.Table.{◌!◌}
use Rattle.window.specs.Windows.{labels, label}
use Rattle.window.specs.Time.{time_of}
use Rattle.window.proofs.Windows.{label_below}
use Rattle.params.specs.declared.MsarParams.{MsarParams}
use Rattle.params.specs.Parameters.{k, p}
use Rattle.rows.specs.Rows.{Same, windows_of}
use Rattle.rows.specs.Memory.{filtered_from}
use Rattle.rows.proofs.Places.{place}
use Rattle.rows.specs.Smoothed.{places, label_at, time_at, weight_at, seen, precision}

-- there are windows
pub windows_positive : (q : MsarParams) → 0 < k q → 0 < windows_of q
windows_positive q pos = one-le-pow (suc (p q)) (k q) pos

-- ---- window a of row i

module _ (q : MsarParams) (i : ℕ) {a : ℕ} (h : a < windows_of q) where
  pub place_within : (n : ℕ) → i < n → i * windows_of q + a < places q n
  place_within n g = digits_lt g h

  pub label_there : (l : ℕ) → label_at q (i * windows_of q + a) l ≡ label (labels (k q) (suc (p q)) a) l
  label_there l = rw (digits_mod i h)

  pub time_there : time_at q (i * windows_of q + a) ≡ time_of (p q) (record { 0 = i })
  time_there = rw (digits_div i h)

  pub weight_there : (rows : ℕ → List Float) → weight_at q rows (i * windows_of q + a) ≡ rows i ! a
  weight_there rows = rw (digits_div i h, digits_mod i h)

-- of the rows that stand in work memory, place e has the weight that memory holds at e
pub weight_in_memory : (q : MsarParams) (work : List Float) (e : ℕ) → weight_at q (λ j. drop (filtered_from (windows_of q) j) work) e ≡ work ! e
weight_in_memory q work e =
    place work (filtered_from (windows_of q) (e / windows_of q)) (e % windows_of q) ∙ ap (λ (x : ℕ). work ! x) (div-add-mod' e (windows_of q))

-- a label of the window at a place
pub label_at_below : (q : MsarParams) → 0 < k q → (e l : ℕ) → l ≤ p q → label_at q e l < k q
label_at_below q pos e l h = label_below (k q) pos (suc (p q)) (e % windows_of q) l (omega arith)

-- ---- two tables with the same weights in n rows

module _ (q : MsarParams) (pos : 0 < k q) (n : ℕ) (rows rows' : ℕ → List Float) (same : (i : ℕ) → i < n → Same (windows_of q) (rows i) (rows' i)) where
  pub weight_same : (e : ℕ) → e < places q n → weight_at q rows e ≡ weight_at q rows' e
  weight_same e h =
      let m = windows_positive q pos in
      same (e / windows_of q) ((div-lt_iff_lt-mul m).1 h) (e % windows_of q) (mod-lt e m)

  pub seen_same : (e : ℕ) → e < places q n → seen q rows e ≡ seen q rows' e
  seen_same e h = rw (weight_same e h)

  pub precision_same : (e : ℕ) → e < places q n → precision q rows e ≡ precision q rows' e
  precision_same e h = rw (weight_same e h)
