-- The number that limbs are: the limbs below a place and those from it on, one limb more, a limb written anew. Assumes nothing.
use mathlib.Core.Path.{◌≡◌, refl, sym, ap, ◌∙◌, subst}
use mathlib.Core.List.{List, [], ◌∷◌, ◌++◌}
use Prim.Native.Nat.{ℕ, zero, suc, ◌+◌, ◌*◌, ◌^◌, ◌≤◌, ◌<◌}
use native.Mathlib.Nat.{le_of_lt, mul-le-mul_left}
use native.Mathlib.Omega.{arith}
use lib.Dec.{lit<}
use lib.Pow.{pow-add}
use lib.ListN.{length, get_or, take, drop, set, take-append-drop, replicate, length-set}
use lib.Seq.{take-suc, drop-cons, take-suc-set, length-take-le}
use Rattle.text_limbs.specs.Limbs.{value, Limbs}

-- the weight of limb i
abbrev pub weight : ℕ → ℕ
weight i = 2 ^ (32 * i)

pub weight_suc : (i : ℕ) → weight (suc i) ≡ 2 ^ 32 * weight i
weight_suc i = ap (λ (x : ℕ). 2 ^ x) (next i) ∙ pow-add 2 32 (32 * i)
  where
    next : (i : ℕ) → 32 * suc i ≡ 32 + 32 * i
    next i = omega arith

value_append : (a b : List ℕ) → value (a ++ b) ≡ value a + weight (length a) * value b
unfolding value
value_append [] b = omega arith
value_append (x ∷ a) b = go (value (a ++ b)) (value a) (weight (length a)) (value b) (weight (suc (length a))) (value_append a b) (weight_suc (length a))
  where
    go : (s v w t w' : ℕ) → s ≡ v + w * t → w' ≡ 2 ^ 32 * w → x + 2 ^ 32 * s ≡ x + 2 ^ 32 * v + w' * t
    go s v w t w' e f =
        let g = ap (λ (z : ℕ). z * t) f in
        omega (arith, g)

value_one : (x : ℕ) → value (x ∷ []) ≡ x
unfolding value
value_one x = omega arith

-- one limb more
pub take_value : (l : List ℕ) (i : ℕ) → i < length l → value (take (suc i) l) ≡ value (take i l) + weight i * get_or l i 0
take_value l i h =
    ap value (take-suc l i 0 h)
    ∙ value_append (take i l) (get_or l i 0 ∷ [])
    ∙ ap (λ (n : ℕ). value (take i l) + weight n * value (get_or l i 0 ∷ [])) (length-take-le i l (le_of_lt h))
    ∙ ap (λ (n : ℕ). value (take i l) + weight i * n) (value_one (get_or l i 0))

-- one limb more, written anew
pub take_written : (l : List ℕ) (i v : ℕ) → i < length l → value (take (suc i) (set l i v)) ≡ value (take i l) + weight i * v
take_written l i v h =
    ap value (take-suc-set l i v h)
    ∙ value_append (take i l) (v ∷ [])
    ∙ ap (λ (n : ℕ). value (take i l) + weight n * value (v ∷ [])) (length-take-le i l (le_of_lt h))
    ∙ ap (λ (n : ℕ). value (take i l) + weight i * n) (value_one v)

pub drop_value : (l : List ℕ) (i : ℕ) → i < length l → value (drop i l) ≡ get_or l i 0 + 2 ^ 32 * value (drop (suc i) l)
unfolding value
drop_value l i h = ap value (drop-cons l i 0 h)

pub drop_written : (l : List ℕ) (i v : ℕ) → i < length l → value (drop i (set l i v)) ≡ v + 2 ^ 32 * value (drop (suc i) l)
unfolding value
drop_written [] i v h = absurd (omega arith)
drop_written (x ∷ l) zero v h = refl
drop_written (x ∷ l) (suc i) v h = drop_written l i v (less h)
  where
    less : suc i < suc (length l) → i < length l
    less h = omega arith

-- the limbs below i and those from i on
pub split_value : (l : List ℕ) (i : ℕ) → i ≤ length l → value l ≡ value (take i l) + weight i * value (drop i l)
split_value l i h =
    ap value (sym (take-append-drop i l)) ∙ value_append (take i l) (drop i l) ∙ ap (λ (n : ℕ). value (take i l) + weight n * value (drop i l)) (length-take-le i l h)

-- i limbs are below the weight of the next
pub take_below : (l : List ℕ) (i : ℕ) → ((j : ℕ) → get_or l j 0 < 2 ^ 32) → i ≤ length l → value (take i l) < weight i
unfolding value
take_below l zero s h = lit< tt
take_below l (suc i) s h =
    subst (λ (z : ℕ). z < weight (suc i)) (sym (take_value l i (less i (length l) h)))
    (subst (λ (w : ℕ). value (take i l) + weight i * get_or l i 0 < w) (sym (weight_suc i))
    (go (value (take i l)) (weight i) (get_or l i 0) (take_below l i s (le_of_lt (less i (length l) h))) (s i)))
  where
    less : (i n : ℕ) → suc i ≤ n → i < n
    less i n h = omega arith

    go : (v w x : ℕ) → v < w → x < 2 ^ 32 → v + w * x < 2 ^ 32 * w
    go v w x a b =
        let m : w * suc x ≤ w * 2 ^ 32 = mul-le-mul_left w b in
        omega (arith, m)

-- a limb written anew
pub set_value : (l : List ℕ) (i v : ℕ) → i < length l → value (set l i v) + weight i * get_or l i 0 ≡ value l + weight i * v
unfolding value
set_value [] i v h = absurd (omega arith)
set_value (x ∷ l) zero v h = omega arith
set_value (x ∷ l) (suc i) v h = go (value (set l i v)) (value l) (weight i) (get_or l i 0) (weight (suc i)) (set_value l i v (less h)) (weight_suc i)
  where
    less : suc i < suc (length l) → i < length l
    less h = omega arith

    go : (s t w g w' : ℕ) → s + w * g ≡ t + w * v → w' ≡ 2 ^ 32 * w → x + 2 ^ 32 * s + w' * g ≡ x + 2 ^ 32 * t + w' * v
    go s t w g w' e f =
        let a = ap (λ (z : ℕ). z * g) f in
        let b = ap (λ (z : ℕ). z * v) f in
        omega (arith, a, b)

set_one : (l : List ℕ) (i j v : ℕ) → get_or l j 0 < 2 ^ 32 → v < 2 ^ 32 → get_or (set l i v) j 0 < 2 ^ 32
set_one [] i j v h k = h
set_one (x ∷ l) zero zero v h k = k
set_one (x ∷ l) zero (suc j) v h k = h
set_one (x ∷ l) (suc i) zero v h k = h
set_one (x ∷ l) (suc i) (suc j) v h k = set_one l i j v h k

pub set_limbs : (l : List ℕ) (i v : ℕ) → Limbs l → v < 2 ^ 32 → Limbs (set l i v)
set_limbs l i v s k = record { count = (length-set l i v ∙ s.count); small = λ j. set_one l i j v (s.small j) k }

-- no limb but zeros
pub zeros_value : (n : ℕ) → value (replicate n 0) ≡ 0
unfolding value
zeros_value zero = refl
zeros_value (suc n) = omega (arith, zeros_value n)

pub zeros_get : (n j : ℕ) → ◌≡◌ {A = ℕ} (get_or (replicate n 0) j 0) 0
zeros_get zero j = refl
zeros_get (suc n) zero = refl
zeros_get (suc n) (suc j) = zeros_get n j

pub zeros_limbs : Limbs (replicate 72 0)
zeros_limbs = record { count = refl; small = λ j. subst (λ (z : ℕ). z < 2 ^ 32) (sym (zeros_get 72 j)) (lit< tt) }
