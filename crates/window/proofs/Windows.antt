-- Windows as lists of labels and windows as numbers are the same, and the arithmetic on numbers is the one on lists. Assumes nothing.
use Prim.Native.Nat.{ℕ, zero, suc, ◌+◌, ◌*◌, ◌/◌, ◌%◌, ◌^◌, ◌<◌, ◌≤◌}
use mathlib.Core.Path.{◌≡◌, refl, sym, ap, ◌∙◌}
use mathlib.Core.List.{List, [], ◌∷◌}
use native.Mathlib.Nat.{zero-div, zero-mod, pow-suc, pow-succ', pow-zero, div-one, mod-one, mod-lt, mod-eq_of_lt, one-le-pow, div-lt_iff_lt-mul, div-div-eq-div-mul, le_of_suc-le-suc, not-suc-le-zero}
use native.Mathlib.Omega.{arith}
use lib.Arith.{lt-one, digits_lt, digits_div, digits_mod, mod-mul}
use lib.ListN.{length, get_or}
use Rattle.number.proofs.Table.{length_tab, get_d_tab}
use Rattle.window.specs.Windows.{Window, label, labels, number, windows}

-- ---- number and list are inverse to each other

-- without its first label a window of one label more is a window
tail : {k n s : ℕ} {w : List ℕ} → Window k (suc n) (s ∷ w) → Window k n w
tail v = record { long = omega (arith, v.long); below = λ l h. v.below (suc l) (omega arith) }

module _ (k : ℕ) where
  pub number_below : (n : ℕ) (w : List ℕ) → Window k n w → number k w < k ^ n
  unfolding number
  number_below zero [] v = rw pow-zero (omega arith)
  number_below zero (s ∷ w) v = absurd (omega (arith, v.long))
  number_below (suc n) [] v = absurd (omega (arith, v.long))
  number_below (suc n) (s ∷ w) v =
      rw pow-suc (omega (arith, digits_lt (number_below n w (tail v)) (v.below 0 (omega arith))))

  pub labels_number : (n : ℕ) (w : List ℕ) → Window k n w → labels k n (number k w) ≡ w
  unfolding number labels
  labels_number zero [] v = refl
  labels_number zero (s ∷ w) v = absurd (omega (arith, v.long))
  labels_number (suc n) [] v = absurd (omega (arith, v.long))
  labels_number (suc n) (s ∷ w) v =
      let h : s < k = v.below 0 (omega arith) in
      let e : s + number k w * k ≡ number k w * k + s = omega arith in
      rw (e, digits_mod (number k w) h, digits_div (number k w) h, labels_number n w (tail v))

  -- ---- the labels of a number

  pub length_labels : (n a : ℕ) → length (labels k n a) ≡ n
  unfolding labels
  length_labels zero a = refl
  length_labels (suc n) a = ap suc (length_labels n (a / k))

  pub label_labels : (n a l : ℕ) → l < n → label (labels k n a) l ≡ a / k ^ l % k
  unfolding labels
  label_labels zero a l h = absurd (not-suc-le-zero h)
  label_labels (suc n) a zero h = rw (pow-zero, div-one)
  label_labels (suc n) a (suc l) h = rw (label_labels n (a / k) l (le_of_suc-le-suc h), pow-succ', div-div-eq-div-mul)

  -- ---- the list of all windows

  pub length_windows : (n : ℕ) → length (windows k n) ≡ k ^ n
  unfolding windows
  length_windows n = length_tab (labels k n) (k ^ n)

  pub window_at : (n a : ℕ) → a < k ^ n → get_or (windows k n) a [] ≡ labels k n a
  unfolding windows
  window_at n a h = get_d_tab (labels k n) (k ^ n) a [] h

  -- each window stands at its number
  pub window_at_number : (n : ℕ) (w : List ℕ) → Window k n w → get_or (windows k n) (number k w) [] ≡ w
  window_at_number n w v = window_at n (number k w) (number_below n w v) ∙ labels_number n w v

module _ (k : ℕ) (pos : 0 < k) where
  pow_pos : (n : ℕ) → 0 < k ^ n
  pow_pos n = one-le-pow n k pos

  -- n labels tell a number up to multiples of k^n
  pub number_labels_cut : (n a : ℕ) → number k (labels k n a) ≡ a % k ^ n
  unfolding number labels
  number_labels_cut zero a = rw (pow-zero, mod-one)
  number_labels_cut (suc n) a =
      rw (number_labels_cut n (a / k), pow-suc) (omega (arith, mod-mul a (pow_pos n) pos))

  -- and the newest l + 1 labels of a number are those of its rest by k^(l+1)
  pub label_cut : (n l a j : ℕ) → j ≤ l → label (labels k n (a % k ^ suc l)) j ≡ label (labels k n a) j
  unfolding labels
  label_cut zero l a j h = refl
  label_cut (suc n) l a zero h = rw (pow-suc, mod-mul a (pow_pos l) pos, digits_mod (a / k % k ^ l) (mod-lt a pos))
  label_cut (suc n) zero a (suc j) h = absurd (not-suc-le-zero h)
  label_cut (suc n) (suc l) a (suc j) h =
      let cut : a % k ^ suc (suc l) ≡ a / k % k ^ suc l * k + a % k = rw pow-suc (mod-mul a (pow_pos (suc l)) pos) in
      rw (cut, digits_div (a / k % k ^ suc l) (mod-lt a pos)) (label_cut n l (a / k) j (le_of_suc-le-suc h))

  pub number_labels : (n a : ℕ) → a < k ^ n → number k (labels k n a) ≡ a
  number_labels n a h = number_labels_cut n a ∙ mod-eq_of_lt h

  -- past its labels a number that has no more of them leaves 0, as `label` does
  pub label_labels_any : (n a l : ℕ) → a < k ^ n → label (labels k n a) l ≡ a / k ^ l % k
  unfolding labels
  label_labels_any zero a l h = let e : a ≡ 0 = lt-one (rw pow-zero at h) in rw (e, zero-div, zero-mod)
  label_labels_any (suc n) a zero h = rw (pow-zero, div-one)
  label_labels_any (suc n) a (suc l) h =
      rw (label_labels_any n (a / k) l ((div-lt_iff_lt-mul pos).1 (rw pow-suc at h)), pow-succ', div-div-eq-div-mul)

  pub label_below : (n a l : ℕ) → l < n → label (labels k n a) l < k
  label_below n a l h = rw (label_labels k n a l h) (mod-lt _ pos)

  pub labels_window : (n a : ℕ) → Window k n (labels k n a)
  labels_window n a = record { long = length_labels k n a; below = label_below n a }

  -- and no other place holds it
  pub window_only_at_number : (n a : ℕ) (w : List ℕ) → a < k ^ n → get_or (windows k n) a [] ≡ w → a ≡ number k w
  window_only_at_number n a w h e = sym (number_labels n a h) ∙ ap (number k) (sym (window_at k n a h) ∙ e)
