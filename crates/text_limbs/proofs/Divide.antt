-- Limbs divided by m from the top: the limbs from i on are done, and rest is what they leave. Assumes nothing.
use mathlib.Core.Path.{◌≡◌, refl, sym, ap, ◌∙◌, subst}
use mathlib.Core.List.{List, []}
use Prim.Native.Nat.{ℕ, suc, ◌+◌, ◌-◌, ◌*◌, ◌/◌, ◌%◌, ◌^◌, ◌≤◌, ◌<◌}
use native.Mathlib.Nat.{div-add-mod', mod-lt, div-lt_iff_lt-mul, le_of_eq}
use native.Mathlib.Omega.{arith}
use lib.ListN.{length, get_or, take, drop, set, drop_of_length-le}
use lib.Seq.{take-set-le, take-take, get_or-take}
use Rattle.text_limbs.specs.Limbs.{value, Limbs}
use Rattle.text_limbs.proofs.Value.{drop_value, drop_written, set_limbs}

-- l, from l₀, with rest, at i
pub record Divided (l₀ l : List ℕ) (m rest i : ℕ) : Type 0 where
  pub limbs : Limbs l
  pub from : length l₀ ≡ 72
  pub some : 0 < m
  pub divisor : m < 2 ^ 32
  pub less : rest < m
  pub most : i ≤ 72
  pub kept : take i l ≡ take i l₀
  pub is : value (drop i l₀) ≡ value (drop i l) * m + rest

pub first : (l : List ℕ) (m : ℕ) → Limbs l → 0 < m → m < 2 ^ 32 → Divided l l m 0 72
unfolding value
first l m s a b =
    let e : drop 72 l ≡ [] = drop_of_length-le l (le_of_eq s.count) in
    record { limbs = s; from = s.count; some = a; divisor = b; less = a; most = omega arith; kept = refl; is = rw e (none m) }
  where
    none : (m : ℕ) → 0 ≡ 0 * m + 0
    none m = omega arith

same_at : (l l₀ : List ℕ) (i : ℕ) → take (suc i) l ≡ take (suc i) l₀ → get_or l i 0 ≡ get_or l₀ i 0
same_at l l₀ i e = sym (get_or-take (suc i) l i 0 (self i)) ∙ ap (λ (z : List ℕ). get_or z i 0) e ∙ get_or-take (suc i) l₀ i 0 (self i)
  where
    self : (i : ℕ) → i < suc i
    self i = omega arith

same_below : (l l₀ : List ℕ) (i : ℕ) → take (suc i) l ≡ take (suc i) l₀ → take i l ≡ take i l₀
same_below l l₀ i e = sym (take-take i (suc i) l (more i)) ∙ ap (λ (z : List ℕ). take i z) e ∙ take-take i (suc i) l₀ (more i)
  where
    more : (i : ℕ) → i ≤ suc i
    more i = omega arith

-- the remainder and the next limb
pub sum_less : (x m r : ℕ) → x < 2 ^ 32 → m < 2 ^ 32 → r < m → (r * 2 ^ 32 + x < m * 2 ^ 32) × (r * 2 ^ 32 + x < 2 ^ 64)
sum_less x m r a b d = (omega arith, omega arith)

-- the arithmetic of one limb
sums : (v w x m r t : ℕ) → v ≡ w * m + r → r * 2 ^ 32 + x ≡ t → x + 2 ^ 32 * v ≡ (t / m + 2 ^ 32 * w) * m + t % m
sums v w x m r t e f =
    let p = div-add-mod' t m in
    omega (arith, p)

next_at : (l₀ l : List ℕ) (m rest i : ℕ) → Divided l₀ l m rest (suc i)
    → Divided l₀ (set l i ((rest * 2 ^ 32 + get_or l i 0) / m)) m ((rest * 2 ^ 32 + get_or l i 0) % m) i
next_at l₀ l m rest i h =
    let t : ℕ = rest * 2 ^ 32 + get_or l i 0 in
    let kl : i < length l = subst (λ (z : ℕ). i < z) (sym h.limbs.count) h.most in
    let k0 : i < length l₀ = subst (λ (z : ℕ). i < z) (sym h.from) h.most in
    let f = sum_less (get_or l i 0) m rest (h.limbs.small i) h.divisor h.less in
    record {
      limbs = set_limbs l i (t / m) h.limbs ((div-lt_iff_lt-mul h.some).1 (subst (λ (z : ℕ). t < z) (flip m) f.0));
      from = h.from;
      some = h.some;
      divisor = h.divisor;
      less = mod-lt t h.some;
      most = (omega (arith, h.most));
      kept = take-set-le i l i (t / m) (same i) ∙ same_below l l₀ i h.kept;
      is =
          (drop_value l₀ i k0
          ∙ ap (λ (z : ℕ). z + 2 ^ 32 * value (drop (suc i) l₀)) (sym (same_at l l₀ i h.kept))
          ∙ sums (value (drop (suc i) l₀)) (value (drop (suc i) l)) (get_or l i 0) m rest t h.is refl
          ∙ ap (λ (z : ℕ). z * m + t % m) (sym (drop_written l i (t / m) kl)));
    }
  where
    flip : (m : ℕ) → m * 2 ^ 32 ≡ 2 ^ 32 * m
    flip m = omega arith

    same : (i : ℕ) → i ≤ i
    same i = omega arith

pub next : (l₀ l : List ℕ) (m rest i : ℕ) → Divided l₀ l m rest i → 0 < i
    → Divided l₀ (set l (i - 1) ((rest * 2 ^ 32 + get_or l (i - 1) 0) / m)) m ((rest * 2 ^ 32 + get_or l (i - 1) 0) % m) (i - 1)
next l₀ l m rest i h k = next_at l₀ l m rest (i - 1) (subst (λ (j : ℕ). Divided l₀ l m rest j) (back i k) h)
  where
    back : (i : ℕ) → 0 < i → i ≡ suc (i - 1)
    back i k = omega arith

pub last : (l₀ l : List ℕ) (m rest i : ℕ) → Divided l₀ l m rest i → i ≤ 0 → (value l₀ ≡ value l * m + rest) × (rest < m) × Limbs l
last l₀ l m rest i h k = (subst (λ (j : ℕ). value (drop j l₀) ≡ value (drop j l) * m + rest) (zero_of i k) h.is, h.less, h.limbs)
  where
    zero_of : (i : ℕ) → i ≤ 0 → i ≡ 0
    zero_of i h = omega arith
