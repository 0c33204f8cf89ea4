-- Laws of rows filled in part: by the numbers that stand there, in front of a part that is filled, and a first part again and again.
-- Assumes nothing.
use Prim.Native.Nat.{ℕ, ◌+◌, ◌-◌, ◌*◌, ◌%◌, ◌<◌, ◌≤◌}
use mathlib.Core.Path.{◌≡◌, refl, sym, ap, ◌∙◌}
use mathlib.Core.Logic.{◌⊎◌, ⊎_elim}
use mathlib.Core.List.{List, ◌++◌, append_assoc}
use native.Mathlib.Nat.{zero-add, mod-lt, mod-eq_of_lt, mod-eq-sub-mod}
use native.Mathlib.Omega.{arith}
use lib.ListN.{length, take, drop}
use lib.Seq.{length-take-le, take-append-le, take-take, drop_at}
use Rattle.std.proofs.lemmas.List.{take_rest}
use lib.Ieee.{Float}
use Rattle.number.specs.Number.{◌⊕◌, ◌⊗◌}
use Rattle.number.specs.Table.{◌!◌, tab, fill_at}
use Rattle.number.proofs.Table.{fill_at_ext, fill_at_at, fill_at_before, fill_at_past, fill_at_rest, fill_at_over, fill_is, tab_join}

-- a row filled with its own numbers is itself
pub fill_own : (f : ℕ → Float) (n : ℕ) (l : List Float) → ((i : ℕ) → i < n → f i ≡ l ! i) → n ≤ length l → l ≡ fill_at 0 f n l
fill_own f n l h k = fill_is f n l k refl (λ i j. sym (h i j)) (λ _ _. refl)

-- a part filled, and then the places in front of it: one part
pub fill_at_front : (s : ℕ) (f g : ℕ → Float) (n c : ℕ) (l : List Float) {m : List Float} → m ≡ fill_at (s + n) g c l → s + n ≤ length l
    → ((i : ℕ) → i < c → g i ≡ f (n + i)) → fill_at s f n m ≡ fill_at s f (n + c) l
unfolding fill_at
fill_at_front s f g n c l e k h =
    let q : length (take (s + n) l) ≡ s + n = length-take-le (s + n) l k in
    let b : s ≤ s + n = omega arith in
    let a : s + n + c ≡ s + (n + c) = omega arith in
    let d : take s (take (s + n) l ++ (tab g c ++ drop (s + n + c) l)) ≡ take s l = take-append-le s _ _ (rw q b) ∙ take-take s (s + n) l b in
    rw (e, append_assoc (take (s + n) l) (tab g c) _, d, drop_at _ _ _ q, a, ← tab_join f g n c h) (simp append_assoc)

-- an array from lag l on
pub rest_of : {n : ℕ} (l k : ℕ) (list : List Float) → length list ≡ n → take (n - l * k) (drop (l * k) list) ≡ drop (l * k) list
rest_of l k list e = rw (← e) (take_rest list (l * k))

-- ---- the first k places again and again

pub again_own : (k : ℕ) (l : List Float) → k ≤ length l → l ≡ fill_at 0 (λ a. l ! (a % k)) k l
again_own k l h = fill_own (λ a. l ! (a % k)) k l (λ i j. ap (λ (x : ℕ). l ! x) (mod-eq_of_lt j)) h

-- a place is the one that stands k before it
pub again_back : (k a : ℕ) (l : List Float) {m : List Float} → m ≡ fill_at 0 (λ a. l ! (a % k)) a l → 0 < k → k ≤ a → m ! (a - k) ≡ l ! (a % k)
again_back k a l {m} e h i =
    let j : a - k < a = omega arith in
    let q : m ! (0 + (a - k)) ≡ l ! ((a - k) % k) = fill_at_at 0 (λ a. l ! (a % k)) a l e (a - k) j (omega arith) in
    rw (mod-eq-sub-mod i) (rw (zero-add (a - k)) at q)

-- where the first k places were filled, the whole row is
pub again_filled : (f : ℕ → Float) (k n : ℕ) (l : List Float) {m r : List Float} → m ≡ fill_at 0 f k l → r ≡ fill_at 0 (λ a. m ! (a % k)) n m → 0 < k → k ≤ n
    → r ≡ fill_at 0 (λ a. f (a % k)) n l
again_filled f k n l {m} {r} e e' h i =
    let rest : drop n m ≡ drop n l = rw e (fill_at_rest 0 f k l n (omega arith) (omega arith)) in
    let at : (a : ℕ) → m ! (a % k) ≡ f (a % k) = λ a. let q : m ! (0 + a % k) ≡ f (a % k) = fill_at_at 0 f k l e (a % k) (mod-lt a h) (omega arith) in rw (zero-add (a % k)) at q in
    e' ∙ fill_at_over (λ a. m ! (a % k)) n m l rest ∙ fill_at_ext 0 (λ a. m ! (a % k)) n l (λ a. f (a % k)) (λ a j. at a)

-- ---- one block for another: the places from 0 on are read, those from s on are written

pub block_kept : (s : ℕ) (f : ℕ → Float) (n c : ℕ) (l : List Float) {m : List Float} → m ≡ fill_at s f n l → (s ≡ 0) ⊎ (c ≤ s) → n < c → s ≤ length l
    → m ! n ≡ l ! n
block_kept s f n c l e o h k =
    ⊎_elim
    (λ (z : s ≡ 0). fill_at_past s f n l e n (omega arith) k)
    (λ (z : c ≤ s). fill_at_before s f n l e n (omega arith) k)
    o

-- what is written there, by what was read and the label now
pub block_value : (phis : List Float) (d : Float) {x y : Float} {s r : ℕ} → x ≡ y → s ≡ r → x ⊕ phis ! s ⊗ d ≡ y ⊕ phis ! r ⊗ d
block_value phis d e e' = rw (e, e')
