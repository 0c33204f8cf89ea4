-- Successors and predecessors: their numbers by arithmetic, that they are windows, and that each is the other's converse. Assumes nothing.
use Prim.Native.Nat.{ℕ, zero, suc, ◌+◌, ◌*◌, ◌/◌, ◌%◌, ◌^◌, ◌<◌}
use mathlib.Core.Path.{◌≡◌, refl, sym, ap, ◌∙◌}
use mathlib.Core.Logic.{◌↔◌, ⊎_elim}
use mathlib.Core.List.{List, [], ◌∷◌, ◌++◌, Memᴰ}
use native.Mathlib.Nat.{pow-suc, pow-zero, add-mul, mul_assoc, mul-one, div-lt_iff_lt-mul, eq-or-lt_of_le, le_of_suc-le-suc}
use native.Mathlib.Omega.{arith}
use lib.ListN.{length, take, drop, length-append, length-drop, get_or-append}
use lib.Seq.{length-take-le, get_or-take, get_or-drop, get_or_at, drop-cons, take-suc, take_at, take_all}
use Rattle.number.specs.Table.{tab}
use Rattle.number.proofs.Table.{in_tab, of_tab}
use Rattle.window.specs.Windows.{Window, label, labels, number, successor, predecessor, successors, predecessors}
use Rattle.window.proofs.Windows.{number_below, labels_number, number_labels, number_labels_cut, length_labels, labels_window}

-- a label put last counts k^n, n the labels before it
pub number_snoc : (k : ℕ) (w : List ℕ) (x : ℕ) → number k (w ++ (x ∷ [])) ≡ number k w + x * k ^ length w
unfolding number
number_snoc k [] x = rw (pow-zero, mul-one) (omega arith)
number_snoc k (s ∷ w) x = rw (number_snoc k w x, pow-suc, add-mul, mul_assoc) (omega arith)

-- ---- lists: at order p, windows of p + 1 labels

take_labels : (k p a : ℕ) → take p (labels k (suc p) a) ≡ labels k p a
unfolding labels
take_labels k zero a = refl
take_labels k (suc p) a = ap (λ (w : List ℕ). a % k ∷ w) (take_labels k p (a / k))

module _ {k p : ℕ} {w : List ℕ} (v : Window k (suc p) w) where
  first_long : length (take p w) ≡ p
  first_long = length-take-le p w (omega (arith, v.long))

  rest_long : length (drop 1 w) ≡ p
  rest_long = simp length-drop (omega (arith, v.long))

  pub successor_window : (r : ℕ) → r < k → Window k (suc p) (successor p w r)
  successor_window r h = record { long = ap suc first_long; below = each }
    where
      each : (l : ℕ) → l < suc p → label (successor p w r) l < k
      each zero i = h
      each (suc l) i = rw (get_or-take p w l 0 (omega arith)) (v.below l (omega arith))

  pub predecessor_window : (x : ℕ) → x < k → Window k (suc p) (predecessor w x)
  predecessor_window x h = record { long = simp (length-append, rest_long) (omega arith); below = each }
    where
      each : (l : ℕ) → l < suc p → label (predecessor w x) l < k
      each l i =
          ⊎_elim
          (λ (e : l ≡ p). rw (e, get_or_at (drop 1 w) x [] 0 p rest_long) h)
          (λ (m : l < p).
          rw (get_or-append (drop 1 w) (x ∷ []) 0 l (rw rest_long m), get_or-drop 1 w l 0) (v.below (1 + l) (omega arith)))
          (eq-or-lt_of_le (le_of_suc-le-suc i))

module _ {k p : ℕ} {w u : List ℕ} (v : Window k (suc p) w) (v' : Window k (suc p) u) where
  -- the successors of w are exactly the windows whose labels from the second on are w's first p
  pub successor_exactly : ((r : ℕ) × (r < k) × (u ≡ successor p w r)) ↔ (drop 1 u ≡ take p w)
  successor_exactly = (
    λ s. ap (drop 1) s.2,
    λ e. (
      label u 0,
      v'.below 0 (omega arith),
      drop-cons u 0 0 (omega (arith, v'.long)) ∙ ap (λ (t : List ℕ). label u 0 ∷ t) e,
    ),
  )

  -- the predecessors of u are exactly the windows whose first p labels are u's from the second on
  pub predecessor_exactly : ((x : ℕ) × (x < k) × (w ≡ predecessor u x)) ↔ (drop 1 u ≡ take p w)
  predecessor_exactly = (
    λ s. sym (ap (take p) s.2 ∙ take_at (drop 1 u) (s.0 ∷ []) p (rest_long v')),
    λ e. (
      label w p,
      v.below p (omega arith),
      sym (take_all (suc p) w (omega (arith, v.long)))
          ∙ take-suc w p 0 (omega (arith, v.long))
          ∙ ap (λ (t : List ℕ). t ++ (label w p ∷ [])) (sym e),
    ),
  )

  pub successor_iff_predecessor : ((r : ℕ) × (r < k) × (u ≡ successor p w r)) ↔ ((x : ℕ) × (x < k) × (w ≡ predecessor u x))
  successor_iff_predecessor =
      (λ s. predecessor_exactly.1 (successor_exactly.0 s), λ s. successor_exactly.1 (predecessor_exactly.0 s))

-- ---- numbers

module _ (k p : ℕ) (pos : 0 < k) where
  pub number_successor : (a r : ℕ) → number k (successor p (labels k (suc p) a) r) ≡ r + a % k ^ p * k
  unfolding number
  number_successor a r = rw (take_labels k p a, number_labels_cut k pos p a)

  pub number_predecessor : (a x : ℕ) → a < k ^ suc p → number k (predecessor (labels k (suc p) a) x) ≡ a / k + x * k ^ p
  unfolding labels
  number_predecessor a x h =
      number_snoc k (labels k p (a / k)) x
      ∙ rw (length_labels k p (a / k), number_labels k pos p (a / k) ((div-lt_iff_lt-mul pos).1 (rw pow-suc at h)))

  pub successor_below : (a r : ℕ) → r < k → number k (successor p (labels k (suc p) a) r) < k ^ suc p
  successor_below a r h = number_below k (suc p) _ (successor_window (labels_window k pos (suc p) a) r h)

  pub predecessor_below : (a x : ℕ) → x < k → number k (predecessor (labels k (suc p) a) x) < k ^ suc p
  predecessor_below a x h = number_below k (suc p) _ (predecessor_window (labels_window k pos (suc p) a) x h)

  -- a number stands in a list of k windows' numbers exactly where its labels are one of the windows
  among : (f : ℕ → List ℕ) → ((r : ℕ) → r < k → Window k (suc p) (f r)) → (b : ℕ) → b < k ^ suc p
      → Memᴰ b (tab (λ r. number k (f r)) k) ↔ ((r : ℕ) × (r < k) × (labels k (suc p) b ≡ f r))
  among f each b h = (
    λ m.
        let s = of_tab (λ r. number k (f r)) k m in
        (s.0, s.1, ap (labels k (suc p)) s.2 ∙ labels_number k (suc p) (f s.0) (each s.0 s.1)),
    λ s. in_tab (λ r. number k (f r)) k s.1 (sym (number_labels k pos (suc p) b h) ∙ ap (number k) s.2),
  )

  pub in_successors : (a b : ℕ) → b < k ^ suc p
      → Memᴰ b (successors k p a) ↔ ((r : ℕ) × (r < k) × (labels k (suc p) b ≡ successor p (labels k (suc p) a) r))
  unfolding successors
  in_successors a = among (successor p (labels k (suc p) a)) (successor_window (labels_window k pos (suc p) a))

  pub in_predecessors : (b a : ℕ) → a < k ^ suc p
      → Memᴰ a (predecessors k p b) ↔ ((x : ℕ) × (x < k) × (labels k (suc p) a ≡ predecessor (labels k (suc p) b) x))
  unfolding predecessors
  in_predecessors b = among (predecessor (labels k (suc p) b)) (predecessor_window (labels_window k pos (suc p) b))

  pub successors_iff_predecessors : (a b : ℕ) → a < k ^ suc p → b < k ^ suc p
      → Memᴰ b (successors k p a) ↔ Memᴰ a (predecessors k p b)
  successors_iff_predecessors a b h h' =
      let e = successor_iff_predecessor (labels_window k pos (suc p) a) (labels_window k pos (suc p) b) in (
        λ m. (in_predecessors b a h).1 (e.0 ((in_successors a b h').0 m)),
        λ m. (in_successors a b h').1 (e.1 ((in_predecessors b a h).0 m)),
      )
