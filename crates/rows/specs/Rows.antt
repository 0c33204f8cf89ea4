-- A row of weights: a number for each window of labels, at the place that the window's number names; and the probabilities of the labels that
-- such a row gives. After Hamilton (1989), whose states are these windows, and document 01, "Labels, windows and time" and "Update".
use Rattle.std.specs.Prelude.{ℕ, suc, ◌/◌, ◌%◌, ◌^◌, ◌<◌, ◌≡◌, List, ◌∷◌, Float}
use Rattle.number.specs.Sums.{sum_up}
use Rattle.number.specs.Table.{◌!◌, tab}
use Rattle.window.specs.Windows.{number, labels}
use Rattle.params.specs.declared.MsarParams.{MsarParams}
use Rattle.params.specs.Parameters.{k, p}

-- the weight of the window w of labels below k
abbrev pub entry : ℕ → List Float → List ℕ → Float
entry k row w = row ! number k w

-- m = k^(p + 1), how many windows there are
abbrev pub windows_of : MsarParams → ℕ
windows_of q = k q ^ suc (p q)

-- the row of f over all windows of order p
unfoldable pub row_of : ℕ → ℕ → (List ℕ → Float) → List Float
row_of k p f = tab (λ a. f (labels k (suc p) a)) (k ^ suc p)

-- the probability of label i now: the sum over the windows i, s_1, .., s_p, in the order of their numbers
unfoldable pub probability : ℕ → ℕ → List Float → ℕ → Float
probability k p row i = sum_up (λ a. entry k row (i ∷ labels k p a)) (k ^ p)

-- the table of results: for each row, one after another, the probabilities of the k labels. Place e is that of label e % k in row e / k
unfoldable pub result_at : ℕ → ℕ → (ℕ → List Float) → ℕ → Float
result_at k p rows e = probability k p (rows (e / k)) (e % k)

-- two rows that have the same weights in their first m places; a row that travels has 256 places, of which m are used
abbrev pub Same : ℕ → List Float → List Float → Type 0
Same m row row' = (a : ℕ) → a < m → row ! a ≡ row' ! a
