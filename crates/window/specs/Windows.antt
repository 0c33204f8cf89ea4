-- Windows: lists of the labels s_0 (now), s_1, .., s_p of successive readings, newest first, labels from 0.
-- After Hamilton (1989), who makes one state of the p + 1 labels, and document 01, "Labels, windows and time".
use Rattle.std.specs.Prelude.{ℕ, zero, suc, ◌+◌, ◌*◌, ◌/◌, ◌%◌, ◌^◌, ◌<◌, ◌≡◌, List, [], ◌∷◌, ◌++◌, length, get_or, take, drop}
use Rattle.number.specs.Table.{tab}

-- the label l readings ago; label 0 where a window does not reach so far
abbrev pub label : List ℕ → ℕ → ℕ
label w l = get_or w l 0

-- a window of n readings: n labels, each below k
pub record Window (k n : ℕ) (w : List ℕ) : Type 0 where
  pub long : length w ≡ n
  pub below : (l : ℕ) → l < n → label w l < k

-- the number of a window: s_0 + s_1 * k + .. + s_p * k^p
unfoldable pub number : ℕ → List ℕ → ℕ
number k [] = 0
number k (s ∷ w) = s + number k w * k

-- the n labels of the window with number a
unfoldable pub labels : ℕ → ℕ → ℕ → List ℕ
labels k zero a = []
labels k (suc n) a = a % k ∷ labels k n (a / k)

-- all windows of n labels, in the order of their numbers
unfoldable pub windows : ℕ → ℕ → List (List ℕ)
windows k n = tab (labels k n) (k ^ n)

-- the successor of w with label r now: its labels from the second on are w's first p
abbrev pub successor : ℕ → List ℕ → ℕ → List ℕ
successor p w r = r ∷ take p w

-- the predecessor of w with oldest label x: its first p labels are w's from the second on
abbrev pub predecessor : List ℕ → ℕ → List ℕ
predecessor w x = drop 1 w ++ (x ∷ [])

-- the numbers of the successors and of the predecessors of the window with number a, at order p
unfoldable pub successors : ℕ → ℕ → ℕ → List ℕ
successors k p a = tab (λ r. number k (successor p (labels k (suc p) a) r)) k

unfoldable pub predecessors : ℕ → ℕ → ℕ → List ℕ
predecessors k p a = tab (λ x. number k (predecessor (labels k (suc p) a) x)) k
