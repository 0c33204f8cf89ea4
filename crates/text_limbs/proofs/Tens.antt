-- Powers of ten, and whole numbers multiplied and divided by them. Assumes nothing.
use mathlib.Core.Path.{◌≡◌, refl, sym, ap, ◌∙◌, subst}
use mathlib.Core.Bool.{Bool, false, not, ◌||◌}
use mathlib.Core.List.{List, [], ◌∷◌}
use Prim.Native.Nat.{ℕ, zero, suc, ◌+◌, ◌-◌, ◌*◌, ◌/◌, ◌%◌, ◌^◌, ◌≤◌, ◌<◌}
use native.Mathlib.Nat.{lt_of_le_of_lt, mul_assoc, mul_comm, mul-le-mul_left, one-le-pow, pow-le-pow_right, div-div-eq-div-mul, div-add-mod', mod-lt, mul-add-mod_self_right, mod-eq_of_lt, add-mul-div_right, div-eq_of_lt, mod-one, div-one}
use native.Mathlib.Omega.{arith}
use borrow.Author.Tests.{eq-eqb, ne_eqb}
use lib.Dec.{eqb, lit<}
use lib.Pow.{pow-add}
use lib.ListN.{get_or}
use Rattle.text_limbs.specs.Limbs.{value, Limbs}
use Rattle.text_limbs.specs.Remains.{CutBy}

abbrev table : List ℕ
table =
    1
    ∷ 10
    ∷ 100
    ∷ 1000
    ∷ 10000
    ∷ 100000
    ∷ 1000000
    ∷ 10000000
    ∷ 100000000
    ∷ 1000000000
    ∷ 10000000000
    ∷ 100000000000
    ∷ 1000000000000
    ∷ 10000000000000
    ∷ 100000000000000
    ∷ 1000000000000000
    ∷ 10000000000000000
    ∷ []

pub powers : (n : ℕ) → n < 17 → get_or table n 0 ≡ 10 ^ n
powers zero h = refl
powers (suc n) h = go n h
  where
    go : (n : ℕ) → suc n < 17 → get_or table (suc n) 0 ≡ 10 ^ suc n
    go zero h = refl
    go (suc zero) h = refl
    go (suc (suc zero)) h = refl
    go (suc (suc (suc zero))) h = refl
    go (suc (suc (suc (suc zero)))) h = refl
    go (suc (suc (suc (suc (suc zero))))) h = refl
    go (suc (suc (suc (suc (suc (suc zero)))))) h = refl
    go (suc (suc (suc (suc (suc (suc (suc zero))))))) h = refl
    go (suc (suc (suc (suc (suc (suc (suc (suc zero)))))))) h = refl
    go (suc (suc (suc (suc (suc (suc (suc (suc (suc zero))))))))) h = refl
    go (suc (suc (suc (suc (suc (suc (suc (suc (suc (suc zero)))))))))) h = refl
    go (suc (suc (suc (suc (suc (suc (suc (suc (suc (suc (suc zero))))))))))) h = refl
    go (suc (suc (suc (suc (suc (suc (suc (suc (suc (suc (suc (suc zero)))))))))))) h = refl
    go (suc (suc (suc (suc (suc (suc (suc (suc (suc (suc (suc (suc (suc zero))))))))))))) h = refl
    go (suc (suc (suc (suc (suc (suc (suc (suc (suc (suc (suc (suc (suc (suc zero)))))))))))))) h = refl
    go (suc (suc (suc (suc (suc (suc (suc (suc (suc (suc (suc (suc (suc (suc (suc zero))))))))))))))) h = refl
    go (suc (suc (suc (suc (suc (suc (suc (suc (suc (suc (suc (suc (suc (suc (suc (suc n)))))))))))))))) h = absurd (omega arith)

pub ten_pos : (n : ℕ) → 0 < 10 ^ n
ten_pos n = one-le-pow n 10 (lit< tt)

pub ten_mono : {i j : ℕ} → i ≤ j → 10 ^ i ≤ 10 ^ j
ten_mono h = pow-le-pow_right {n = 10} (lit< tt) h

-- ten to the ninth at a step
pub ten_nine : (n : ℕ) → 9 ≤ n → 10 ^ n ≡ 10 ^ 9 * 10 ^ (n - 9)
ten_nine n h = ap (λ (x : ℕ). 10 ^ x) (back n h) ∙ pow-add 10 9 (n - 9)
  where
    back : (n : ℕ) → 9 ≤ n → n ≡ 9 + (n - 9)
    back n h = omega arith

-- ---- multiplied

-- l times 10 ^ left is l₀ times 10 ^ e, and it fits
pub record Raised (l₀ l : List ℕ) (e left : ℕ) : Type 0 where
  pub limbs : Limbs l
  pub is : value l * 10 ^ left ≡ value l₀ * 10 ^ e
  pub fits : value l₀ * 10 ^ e < 2 ^ 2304

no_carry : (v r w m : ℕ) → v + m * r ≡ w → w < m → v ≡ w
no_carry v zero w m e h = omega (arith, e)
no_carry v (suc r) w m e h = absurd (omega (arith, e))

-- a factor of 10 ^ left, by which nothing is carried
raise : (l₀ l k : List ℕ) (e left m n r : ℕ) → Raised l₀ l e left → 10 ^ left ≡ m * n → 0 < n → value k + 2 ^ 2304 * r ≡ value l * m → (value k ≡ value l * m) × (value k * n ≡ value l₀ * 10 ^ e)
raise l₀ l k e left m n r h f p c =
    let s : value l * m * n ≡ value l₀ * 10 ^ e = mul_assoc (value l) m n ∙ ap (λ (z : ℕ). value l * z) (sym f) ∙ h.is in
    let b : value l * m < 2 ^ 2304 = lt_of_le_of_lt (more (value l * m) n p) (subst (λ (z : ℕ). z < 2 ^ 2304) (sym s) h.fits) in
    let q : value k ≡ value l * m = no_carry (value k) r (value l * m) (2 ^ 2304) c b in
    (q, ap (λ (z : ℕ). z * n) q ∙ s)
  where
    more : (a n : ℕ) → 0 < n → a ≤ a * n
    more a zero p = absurd (omega arith)
    more a (suc n) p = omega arith

pub raised_first : (l : List ℕ) (e : ℕ) → Limbs l → value l * 10 ^ e < 2 ^ 2304 → Raised l l e e
raised_first l e h f = record { limbs = h; is = refl; fits = f }

pub raised_next : (l₀ l k : List ℕ) (e left r : ℕ) → Raised l₀ l e left → 9 ≤ left → value k + 2 ^ 2304 * r ≡ value l * 1000000000 → Limbs k → Raised l₀ k e (left - 9)
raised_next l₀ l k e left r h n c s =
    record { limbs = s; is = (raise l₀ l k e left (10 ^ 9) (10 ^ (left - 9)) r h (ten_nine left n) (ten_pos (left - 9)) c).1; fits = h.fits }

less : (e n : ℕ) → e - 9 * n - 9 ≡ e - 9 * (n + 1)
less e n = omega arith

more : (e n : ℕ) → n < e / 9 → 9 ≤ e - 9 * n
more e n m = omega arith

pub left_at : (e n : ℕ) → n ≡ e / 9 → e - 9 * n ≡ e % 9
left_at e n h = omega arith

-- nine digits more, the n-th time
pub raised_step : (l₀ l k : List ℕ) (e n r : ℕ) → Raised l₀ l e (e - 9 * n) → n < e / 9 → value k + 2 ^ 2304 * r ≡ value l * 1000000000 → Limbs k → Raised l₀ k e (e - 9 * (n + 1))
raised_step l₀ l k e n r h m c s = subst (λ (z : ℕ). Raised l₀ k e z) (less e n) (raised_next l₀ l k e (e - 9 * n) r h (more e n m) c s)

pub raised_last : (l₀ l k : List ℕ) (e left r : ℕ) → Raised l₀ l e left → value k + 2 ^ 2304 * r ≡ value l * 10 ^ left → value k ≡ value l₀ * 10 ^ e
raised_last l₀ l k e left r h c = (raise l₀ l k e left (10 ^ left) 1 r h (one (10 ^ left)) (lit< tt) c).0 ∙ h.is
  where
    one : (x : ℕ) → x ≡ x * 1
    one x = omega arith

pub small_power : (left p : ℕ) → left < 9 → p ≡ 10 ^ left → (0 < p) × (p < 2 ^ 32)
small_power left p h e =
    (subst (λ (z : ℕ). 0 < z) (sym e) (ten_pos left), subst (λ (z : ℕ). z < 2 ^ 32) (sym e) (lt_of_le_of_lt (ten_mono (less left h)) (lit< tt)))
  where
    less : (n : ℕ) → n < 9 → n ≤ 9
    less n h = omega arith

-- ---- divided

pub cut_none : (v : ℕ) → CutBy v 1 v false
cut_none v = record { whole = sym (div-one v); left = sym (ap (λ (z : ℕ). not (eqb z 0)) (mod-one v)) }

-- the rest of a second cut
pub mod_of : (v x m : ℕ) → 0 < x → 0 < m → v % (x * m) ≡ v / x % m * x + v % x
mod_of v x m X M =
    let a = div-add-mod' v x in
    let b = ap (λ (z : ℕ). z * x) (div-add-mod' (v / x) m) in
    let s : v ≡ v / x / m * (x * m) + (v / x % m * x + v % x) = parts v x m (v / x) (v / x / m) (v / x % m) (v % x) a b in
    ap (λ (z : ℕ). z % (x * m)) s ∙ mul-add-mod_self_right (v / x / m) (x * m) (v / x % m * x + v % x) ∙ mod-eq_of_lt (less (v / x % m) x m (v % x) (mod-lt (v / x) M) (mod-lt v X))
  where
    parts : (v x m w q s r : ℕ) → w * x + r ≡ v → (q * m + s) * x ≡ w * x → v ≡ q * (x * m) + (s * x + r)
    parts v x m w q s r a b = omega arith

    less : (s x m r : ℕ) → s < m → r < x → s * x + r < x * m
    less s x m r a b = let p : suc s * x ≤ m * x = mul_le_right a in omega (arith, p)
      where
        mul_le_right : s < m → suc s * x ≤ m * x
        mul_le_right a = subst (λ (z : ℕ). z ≤ m * x) (mul_comm x (suc s)) (subst (λ (z : ℕ). x * suc s ≤ z) (mul_comm x m) (mul-le-mul_left x a))

either : (s x r : ℕ) → 0 < x → (not (eqb r 0) || not (eqb s 0)) ≡ not (eqb (s * x + r) 0)
either zero x zero h = sym (ap not (eq-eqb (0 * x + 0) 0 (omega arith)))
either zero x (suc r) h =
    ap (λ (b : Bool). not b || not (eqb 0 0)) (ne_eqb (suc r) 0 (λ (e : suc r ≡ 0). omega arith))
    ∙ sym (ap not (ne_eqb (0 * x + suc r) 0 (λ (e : 0 * x + suc r ≡ 0). omega arith)))
either (suc s) x zero h =
    ap not (ne_eqb (suc s) 0 (λ (e : suc s ≡ 0). omega arith)) ∙ sym (ap not (ne_eqb (suc s * x + 0) 0 (λ (e : suc s * x + 0 ≡ 0). omega arith)))
either (suc s) x (suc r) h =
    ap (λ (b : Bool). not b || not (eqb (suc s) 0)) (ne_eqb (suc r) 0 (λ (e : suc r ≡ 0). omega arith))
    ∙ sym (ap not (ne_eqb (suc s * x + suc r) 0 (λ (e : suc s * x + suc r ≡ 0). omega arith)))

pub cut_more : (v x w k m r : ℕ) (rest : Bool) → 0 < x → 0 < m → CutBy v x w rest → w ≡ k * m + r → r < m → CutBy v (x * m) k (rest || not (eqb r 0))
cut_more v x w k m r rest X M h e l =
    record {
      whole = (sym (ap (λ (z : ℕ). z / m) e ∙ quotient k m r M l) ∙ ap (λ (z : ℕ). z / m) h.whole ∙ div-div-eq-div-mul v x m);
      left =
          (ap (λ (b : Bool). b || not (eqb r 0)) h.left
          ∙ ap (λ (z : ℕ). not (eqb (v % x) 0) || not (eqb z 0)) (sym (ap (λ (z : ℕ). z % m) e ∙ mul-add-mod_self_right k m r ∙ mod-eq_of_lt l) ∙ ap (λ (z : ℕ). z % m) h.whole)
          ∙ either (v / x % m) x (v % x) X
          ∙ ap (λ (z : ℕ). not (eqb z 0)) (sym (mod_of v x m X M)));
    }
  where
    quotient : (k m r : ℕ) → 0 < m → r < m → (k * m + r) / m ≡ k
    quotient k m r M l = ap (λ (z : ℕ). z / m) (flip k m r) ∙ add-mul-div_right r k M ∙ ap (λ (z : ℕ). z + k) (div-eq_of_lt l) ∙ none k
      where
        flip : (k m r : ℕ) → k * m + r ≡ r + k * m
        flip k m r = omega arith

        none : (k : ℕ) → 0 + k ≡ k
        none k = omega arith

-- l is l₀ over 10 ^ (e - left), cut
pub record Lowered (l₀ l : List ℕ) (e left : ℕ) (rest : Bool) : Type 0 where
  pub limbs : Limbs l
  pub most : left ≤ e
  pub is : CutBy (value l₀) (10 ^ (e - left)) (value l) rest

pub lowered_first : (l : List ℕ) (e : ℕ) → Limbs l → Lowered l l e e false
lowered_first l e h =
    record { limbs = h; most = omega arith; is = subst (λ (x : ℕ). CutBy (value l) (10 ^ x) (value l) false) (none e) (cut_none (value l)) }
  where
    none : (e : ℕ) → 0 ≡ e - e
    none e = omega arith

pub lowered_next : (l₀ l k : List ℕ) (e left r : ℕ) (rest : Bool) → Lowered l₀ l e left rest → 9 ≤ left → value l ≡ value k * 1000000000 + r → r < 1000000000 → Limbs k
    → Lowered l₀ k e (left - 9) (rest || not (eqb r 0))
lowered_next l₀ l k e left r rest h n c d s =
    record {
      limbs = s;
      most = (omega (arith, h.most));
      is =
          (subst (λ (x : ℕ). CutBy (value l₀) x (value k) (rest || not (eqb r 0))) (sym (pow-add 10 (e - left) 9) ∙ ap (λ (x : ℕ). 10 ^ x) (more e left h.most n))
          (cut_more (value l₀) (10 ^ (e - left)) (value l) (value k) (10 ^ 9) r rest (ten_pos (e - left)) (ten_pos 9) h.is c d));
    }
  where
    more : (e left : ℕ) → left ≤ e → 9 ≤ left → e - left + 9 ≡ e - (left - 9)
    more e left a b = omega arith

pub lowered_step : (l₀ l k : List ℕ) (e n r : ℕ) (rest : Bool) → Lowered l₀ l e (e - 9 * n) rest → n < e / 9 → value l ≡ value k * 1000000000 + r → r < 1000000000 → Limbs k
    → Lowered l₀ k e (e - 9 * (n + 1)) (rest || not (eqb r 0))
lowered_step l₀ l k e n r rest h m c d s =
    subst (λ (z : ℕ). Lowered l₀ k e z (rest || not (eqb r 0))) (less e n) (lowered_next l₀ l k e (e - 9 * n) r rest h (more e n m) c d s)

pub lowered_last : (l₀ l k : List ℕ) (e left r p : ℕ) (rest : Bool) → Lowered l₀ l e left rest → p ≡ 10 ^ left → value l ≡ value k * p + r → r < p → CutBy (value l₀) (10 ^ e) (value k) (rest || not (eqb r 0))
lowered_last l₀ l k e left r p rest h q c d =
    subst (λ (x : ℕ). CutBy (value l₀) x (value k) (rest || not (eqb r 0)))
    (ap (λ (x : ℕ). 10 ^ (e - left) * x) q ∙ sym (pow-add 10 (e - left) left) ∙ ap (λ (x : ℕ). 10 ^ x) (all e left h.most))
    (cut_more (value l₀) (10 ^ (e - left)) (value l) (value k) p r rest (ten_pos (e - left)) (subst (λ (x : ℕ). 0 < x) (sym q) (ten_pos left)) h.is c d)
  where
    all : (e left : ℕ) → left ≤ e → e - left + left ≡ e
    all e left h = omega arith
