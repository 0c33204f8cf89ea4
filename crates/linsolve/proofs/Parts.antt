-- Parts of a table as the code leaves them. Assumes nothing.
use Prim.Native.Nat.{ℕ, ◌+◌, ◌-◌, ◌≤◌}
use mathlib.Core.Path.{◌≡◌, refl, sym, ap, ◌∙◌}
use mathlib.Core.List.{List, ◌++◌, append_assoc}
use native.Mathlib.Omega.{arith}
use borrow.Rule.Slice.PartMut.{put_mid}
use lib.ListN.{length, take, drop}
use lib.Seq.{take-take, take-append-add, drop-drop}
use lib.Ieee.{Float}
use Rattle.std.proofs.lemmas.List.{drop-take}
use Rattle.number.specs.Table.{◌!◌, tab, fill_at}
use Rattle.number.proofs.Table.{part_tab, front_long, fill_at_rest}

-- two parts of n places, the one from t on wholly before the one from s on, exchanged between the slices above and below place s
module _ (s t n : ℕ) (a : List Float) (h : t + n ≤ s) (h' : s + n ≤ length a) where
  apart : t + n + (s - (t + n)) ≡ s
  apart = omega arith

  upper_part : take n (drop t (take s a)) ≡ tab (λ j. a ! (t + j)) n
  upper_part =
      let q : t + (s - t) ≡ s = omega arith in
      rw q at (ap (take n) (drop-take t (s - t) a)) ∙ take-take n (s - t) (drop t a) (omega arith) ∙ part_tab a t _ n (omega arith) (λ j _. refl)

  -- the slice above, with the part put there
  upper_put : (g : ℕ → Float) → put_mid t n (take s a) (tab g n) ≡ take s (fill_at t g n a)
  unfolding fill_at
  upper_put g =
      let d = s - (t + n) in
      let q : length (take t a ++ tab g n) ≡ t + n = front_long t g n a (omega arith) in
      let low : take t (take s a) ≡ take t a = take-take t s a (omega arith) in
      let high : drop n (drop t (take s a)) ≡ take d (drop (t + n) a) = drop-drop n t (take s a) ∙ rw apart at (drop-take (t + n) d a) in
      rw (low, high, ← append_assoc) (sym (rw (q, apart) at (take-append-add (take t a ++ tab g n) (drop (t + n) a) d)))

  pub parts_exchanged : {above below u v : List Float} {k : ℕ} → above ≡ take s a → below ≡ drop s a → k ≡ n → u ≡ take n below → v ≡ take k (drop t above)
      → put_mid t k above u ++ (v ++ drop n below) ≡ fill_at s (λ j. a ! (t + j)) n (fill_at t (λ j. a ! (s + j)) n a)
  unfolding fill_at
  parts_exchanged ea eb ek eu ev =
      let g = λ (j : ℕ). a ! (s + j) in
      let rest : drop (s + n) (fill_at t g n a) ≡ drop (s + n) a = fill_at_rest t g n a (s + n) (omega arith) (omega arith) in
      rw (eu, ev, ea, eb, ek, part_tab a s g n h' (λ j _. refl), upper_part, upper_put g, rest, drop-drop, append_assoc (take s (fill_at t g n a)) (tab (λ j. a ! (t + j)) n) (drop (s + n) a))
