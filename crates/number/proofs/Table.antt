-- Laws of rows and tables: a list that is filled in part, followed one store further, and that a table's places lie within 256. Assumes nothing.
use Prim.Native.Nat.{ℕ, zero, suc, ◌+◌, ◌-◌, ◌*◌, ◌<◌, ◌≤◌}
use mathlib.Core.Path.{◌≡◌, refl, sym, ap, ◌∙◌, subst}
use mathlib.Core.Logic.{◌≢◌, ⊎_elim}
use mathlib.Core.List.{List, [], ◌∷◌, ◌++◌, append_assoc, append-nil, Memᴰ}
use native.Mathlib.Numerals.{add-one}
use native.Mathlib.Nat.{zero-add, add-zero, add-suc, mul-le-mul, mul-le-mul_right, suc-mul, le_of_suc-le-suc, not-suc-le-zero, eq-or-lt_of_le, lt_of_not-le}
use native.Mathlib.Decide.{dec_le, ℕ_discrete}
use native.Mathlib.Omega.{arith}
use lib.Arith.{digits_lt}
use lib.ListN.{length, get_or, set, take, drop, length-set, length-append, length-drop, length-take, take-append-drop, get_or-append}
use lib.Seq.{length-take-le, drop-cons, set_at, get_or-append-add, get_or_at, get_or-drop, get_or-take, set-append_left, take-set-lt, drop-set-lt, drop-append-add, drop-drop, take_at, take-suc, ext_get_or, get_or-set_same, get_or-set_other}
use borrow.Rule.Slice.PartMut.{put_mid}
use lib.Ieee.{Float, nan}
use Rattle.number.specs.Table.{◌!◌, tab, fill_at}

pub length_tab : {A : Type 0} (f : ℕ → A) (n : ℕ) → length (tab f n) ≡ n
unfolding tab
length_tab f zero = refl
length_tab f (suc n) = simp (length-append, length_tab f n) (omega arith)

pub tab_ext : {A : Type 0} (f g : ℕ → A) (n : ℕ) → ((i : ℕ) → i < n → f i ≡ g i) → tab f n ≡ tab g n
unfolding tab
tab_ext f g zero h = refl
tab_ext f g (suc n) h = rw (tab_ext f g n (λ i l. h i (omega arith)), h n (omega arith))

pub get_d_tab : {A : Type 0} (f : ℕ → A) (n i : ℕ) (d : A) → i < n → get_or (tab f n) i d ≡ f i
unfolding tab
get_d_tab f zero i d h = absurd (not-suc-le-zero h)
get_d_tab f (suc n) i d h =
    ⊎_elim
    (λ (e : i ≡ n). rw e (get_or_at (tab f n) (f n) [] d n (length_tab f n)))
    (λ (l : i < n). get_or-append (tab f n) _ d i (rw length_tab l) ∙ get_d_tab f n i d l)
    (eq-or-lt_of_le (le_of_suc-le-suc h))

-- the members of a row are f 0, .., f (n - 1)
pub in_tab : {A : Type 0} (f : ℕ → A) (n : ℕ) {i : ℕ} {y : A} → i < n → y ≡ f i → Memᴰ y (tab f n)
unfolding tab
in_tab f zero h e = absurd (not-suc-le-zero h)
in_tab f (suc n) {i} {y} h e =
    ⊎_elim
    (λ (q : i ≡ n). mathlib.Core.List.Memᴰ.append_right (tab f n) (mathlib.Core.List.Memᴰ.head (e ∙ ap f q)))
    (λ (l : i < n). mathlib.Core.List.Memᴰ.append_left _ (in_tab f n l e))
    (eq-or-lt_of_le (le_of_suc-le-suc h))

pub of_tab : {A : Type 0} (f : ℕ → A) (n : ℕ) {y : A} → Memᴰ y (tab f n) → (i : ℕ) × (i < n) × (y ≡ f i)
unfolding tab
of_tab f zero m = absurd (mathlib.Core.List.Memᴰ.not-nil m)
of_tab f (suc n) {y} m =
    ⊎_elim
    (λ (m' : Memᴰ y (tab f n)). let s = of_tab f n m' in (s.0, omega (arith, s.1), s.2))
    (λ (m' : Memᴰ y (f n ∷ [])). (n, omega arith, mathlib.Core.List.Memᴰ.eq_of_singleton m'))
    (mathlib.Core.List.Memᴰ.append_cases (tab f n) m)

-- ---- a list l whose n places from s on are filled with f; the list so filled is m

module _ (s : ℕ) (f : ℕ → Float) where
  pub fill_at_none : (l : List Float) → l ≡ fill_at s f 0 l
  unfolding fill_at tab
  fill_at_none l = rw (add-zero, append-nil, take-append-drop)

  module _ (n : ℕ) (l : List Float) where
    -- what stands before the places that are left as they were
    pub front_long : s ≤ length l → length (take s l ++ tab f n) ≡ s + n
    front_long h = simp (length-append, length_tab, length-take-le s l h)

    pub fill_at_ext : (g : ℕ → Float) → ((i : ℕ) → i < n → f i ≡ g i) → fill_at s f n l ≡ fill_at s g n l
    unfolding fill_at
    fill_at_ext g h = rw (tab_ext f g n h)

    module _ {m : List Float} (e : m ≡ fill_at s f n l) where
      pub fill_at_long : s + n ≤ length l → length m ≡ length l
      unfolding fill_at
      fill_at_long h = rw e (simp (length-append, length_tab, length-drop, length-take) (omega arith))

      -- a store at the next place
      pub fill_at_more : {v : Float} → v ≡ f n → s + n < length l → set m (s + n) v ≡ fill_at s f (n + 1) l
      unfolding fill_at tab
      fill_at_more e' h =
          let k : length (take s l ++ tab f n) ≡ s + n = front_long (omega arith) in
          rw (e, e', add-one, add-suc, drop-cons l (s + n) (f n), set_at _ _ _ _ _ k) (simp append_assoc)

      pub fill_at_before : (i : ℕ) → i < s → s ≤ length l → m ! i ≡ l ! i
      unfolding fill_at
      fill_at_before i h k =
          let q : length (take s l) ≡ s = length-take-le s l k in
          let q' : length (take s l ++ tab f n) ≡ s + n = front_long k in
          rw e
          (get_or-append (take s l ++ tab f n) _ nan i (omega arith)
          ∙ get_or-append (take s l) _ nan i (omega arith)
          ∙ get_or-take s l i nan h)

      pub fill_at_past : (i : ℕ) → s + n ≤ i → s ≤ length l → m ! i ≡ l ! i
      unfolding fill_at
      fill_at_past i h k =
          let j = i - (s + n) in
          let w : s + n + j ≡ i = omega arith in
          rw e
          (rw (front_long k, w) at (get_or-append-add (take s l ++ tab f n) (drop (s + n) l) j nan ∙ get_or-drop (s + n) l j nan))

    -- a store before the part
    pub fill_at_set : (i : ℕ) (v : Float) → i < s → s ≤ length l → set (fill_at s f n l) i v ≡ fill_at s f n (set l i v)
    unfolding fill_at
    fill_at_set i v h k =
        let q : length (take s l) ≡ s = length-take-le s l k in
        let q' : length (take s l ++ tab f n) ≡ s + n = front_long k in
        set-append_left (take s l ++ tab f n) _ i v (omega arith)
        ∙ rw (set-append_left (take s l) (tab f n) i v (omega arith), take-set-lt s l i v h, drop-set-lt (s + n) l i v (omega arith))

    -- a place inside the part
    pub fill_at_at : {m : List Float} → m ≡ fill_at s f n l → (i : ℕ) → i < n → s ≤ length l → m ! (s + i) ≡ f i
    unfolding fill_at
    fill_at_at e i h k =
        let q : length (take s l) ≡ s = length-take-le s l k in
        let q' : length (take s l ++ tab f n) ≡ s + n = front_long k in
        rw e
        (get_or-append (take s l ++ tab f n) _ nan (s + i) (omega arith)
        ∙ rw q at (get_or-append-add (take s l) (tab f n) i nan)
        ∙ get_d_tab f n i nan h)

    -- what lies past the part is as it was
    pub fill_at_rest : (u : ℕ) → s + n ≤ u → s ≤ length l → drop u (fill_at s f n l) ≡ drop u l
    unfolding fill_at
    fill_at_rest u h k =
        let q : length (take s l ++ tab f n) + (u - (s + n)) ≡ u = rw (front_long k) (omega arith) in
        let q' : s + n + (u - (s + n)) ≡ u = omega arith in
        rw q at (drop-append-add (take s l ++ tab f n) (drop (s + n) l) (u - (s + n))) ∙ rw q' at (drop-drop (u - (s + n)) (s + n) l)

-- n places of a list from place a on, as a row
pub part_tab : (l : List Float) (a : ℕ) (f : ℕ → Float) (n : ℕ) → a + n ≤ length l → ((i : ℕ) → i < n → l ! (a + i) ≡ f i) → take n (drop a l) ≡ tab f n
unfolding tab
part_tab l a f zero h k = refl
part_tab l a f (suc n) h k =
    let m : n < length (drop a l) = rw length-drop (omega arith) in
    take-suc (drop a l) n nan m ∙ rw (part_tab l a f n (omega arith) (λ i b. k i (omega arith)), get_or-drop, k n (omega arith))

-- the n places from s on written as one part, as a slice lent and given back
pub fill_at_put : (s : ℕ) (f : ℕ → Float) (n : ℕ) (l : List Float) {k : ℕ} {ys : List Float} → k ≡ n → ys ≡ tab f n → put_mid s k l ys ≡ fill_at s f n l
unfolding fill_at
fill_at_put s f n l e e' = rw (e, e', append_assoc, drop-drop)

-- a row of n and a row of c more
pub tab_join : {A : Type 0} (f g : ℕ → A) (n c : ℕ) → ((i : ℕ) → i < c → g i ≡ f (n + i)) → tab f n ++ tab g c ≡ tab f (n + c)
unfolding tab
tab_join f g n zero h = rw (add-zero, append-nil)
tab_join f g n (suc c) h =
    rw (add-suc, ← append_assoc, tab_join f g n c (λ i l. h i (omega arith)), h c (omega arith))

-- a part filled, and then the places that follow it: one part
pub fill_at_join : (s : ℕ) (f g : ℕ → Float) (n c : ℕ) (l : List Float) {m : List Float} → m ≡ fill_at s f n l → s + n ≤ length l → ((i : ℕ) → i < c → g i ≡ f (n + i))
    → fill_at (s + n) g c m ≡ fill_at s f (n + c) l
unfolding fill_at
fill_at_join s f g n c l e k h =
    let q : length (take s l ++ tab f n) ≡ s + n = front_long s f n l (omega arith) in
    let d : drop (s + n + c) (fill_at s f n l) ≡ drop (s + n + c) l = fill_at_rest s f n l (s + n + c) (omega arith) (omega arith) in
    let a : s + n + c ≡ s + (n + c) = omega arith in
    rw (e, d, take_at _ _ _ q, a, ← tab_join f g n c h, append_assoc (take s l) (tab f n) (tab g c))

-- two lists that agree past the first n places agree whole, once these are filled
pub fill_at_over : (f : ℕ → Float) (n : ℕ) (l l' : List Float) → drop n l ≡ drop n l' → fill_at 0 f n l ≡ fill_at 0 f n l'
unfolding fill_at
fill_at_over f n l l' h = rw (zero-add, h)

-- what is filled from the part `l[a..]` of a list
pub fill_at_from : (s a n : ℕ) (l m : List Float) → a + n ≤ length l
    → fill_at s (λ i. take (length l - a) (drop a l) ! i) n m ≡ fill_at s (λ i. l ! (a + i)) n m
fill_at_from s a n l m h = fill_at_ext s _ n m _ (λ i b. get_or-take (length l - a) (drop a l) i nan (omega arith) ∙ get_or-drop a l i nan)

-- ---- places of a table of at most 16 rows and columns

pub cell_below : (n i j : ℕ) → n ≤ 16 → i < n → j < n → i * n + j < 256
cell_below n i j h hi hj = omega (arith, digits_lt hi hj, mul-le-mul h h)

pub row_within : (n i : ℕ) → n ≤ 16 → i < n → i * n + n ≤ 256
row_within n i h hi = omega (arith, mul-le-mul_right n hi, suc-mul i n, mul-le-mul h h)

-- row i ends where a later row starts, or before
pub row_before : (n i r : ℕ) → i < r → i * n + n ≤ r * n
row_before n i r h = omega (arith, mul-le-mul_right n h, suc-mul i n)

-- ---- an array whose first n places are filled

pub fill_more : (f : ℕ → Float) (n : ℕ) (l : List Float) {m : List Float} → m ≡ fill_at 0 f n l → {v : Float} → v ≡ f n → n < length l → set m n v ≡ fill_at 0 f (n + 1) l
fill_more f n l {m} e {v} d h = subst (λ (i : ℕ). set m i v ≡ fill_at 0 f (n + 1) l) (zero-add n) (fill_at_more 0 f n l e d (subst (λ (i : ℕ). i < length l) (sym (zero-add n)) h))

pub fill_join : (f g : ℕ → Float) (n c : ℕ) (l : List Float) {m : List Float} → m ≡ fill_at 0 f n l → n ≤ length l → ((i : ℕ) → i < c → g i ≡ f (n + i))
    → fill_at n g c m ≡ fill_at 0 f (n + c) l
fill_join f g n c l {m} e k h = subst (λ (i : ℕ). fill_at i g c m ≡ fill_at 0 f (n + c) l) (zero-add n) (fill_at_join 0 f g n c l e (omega arith) h)

pub fill_at_lem : (f : ℕ → Float) (n : ℕ) (l : List Float) {m : List Float} → m ≡ fill_at 0 f n l → (i : ℕ) → i < n → m ! i ≡ f i
fill_at_lem f n l {m} e i h = subst (λ (j : ℕ). m ! j ≡ f i) (zero-add i) (fill_at_at 0 f n l e i h (omega arith))

pub fill_long : (f : ℕ → Float) (n : ℕ) (l : List Float) {m : List Float} → m ≡ fill_at 0 f n l → n ≤ length l → length m ≡ length l
fill_long f n l e h = fill_at_long 0 f n l e (omega arith)

-- a list is so filled if it is in its places
pub fill_is : (f : ℕ → Float) (n : ℕ) (l : List Float) {m : List Float} → n ≤ length l → length m ≡ length l → ((i : ℕ) → i < n → m ! i ≡ f i)
    → ((i : ℕ) → n ≤ i → m ! i ≡ l ! i)
    → m ≡ fill_at 0 f n l
fill_is f n l {m} h e inside past =
    ext_get_or nan m (fill_at 0 f n l) (e ∙ sym (fill_long f n l refl h))
    (λ i _.
    elim (dec_le n i) [
      | yes k ↦ past i k ∙ sym (fill_at_past 0 f n l refl i (omega arith) (omega arith))
      | no k ↦ (let b : i < n = lt_of_not-le k in inside i b ∙ sym (fill_at_lem f n l refl i b))
    ])

pub fill_self : (n : ℕ) (l : List Float) → n ≤ length l → l ≡ fill_at 0 (λ i. l ! i) n l
fill_self n l h = fill_is _ n l h refl (λ i _. refl) (λ i _. refl)

-- a store at a place c that is filled: from f to g, which has the new value there and is f elsewhere
pub fill_set : (f g : ℕ → Float) (n : ℕ) (l : List Float) {m : List Float} → m ≡ fill_at 0 f n l → (c : ℕ) → c < n → n ≤ length l → {v : Float} → v ≡ g c
    → ((i : ℕ) → i < n → i ≢ c → f i ≡ g i)
    → set m c v ≡ fill_at 0 g n l
fill_set f g n l {m} e c h k {v} d other =
    let long : length m ≡ length l = fill_long f n l e k in
    fill_is g n l k (length-set m c v ∙ long)
    (λ i b.
    elim (ℕ_discrete i c) [
      | yes q ↦ subst (λ (j : ℕ). set m c v ! j ≡ g j) (sym q) (get_or-set_same m c v nan (omega arith) ∙ d)
      | no q ↦ get_or-set_other m c i v nan q ∙ fill_at_lem f n l e i b ∙ other i b q
    ])
    (λ i b. get_or-set_other m c i v nan (λ w. absurd (omega (arith, w))) ∙ fill_at_past 0 f n l e i (omega arith) (omega arith))
