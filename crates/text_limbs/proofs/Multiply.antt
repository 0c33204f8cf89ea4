-- Limbs multiplied by m: the limbs below i are done, and the carry is what they have above their weight. Assumes nothing.
use mathlib.Core.Path.{◌≡◌, refl, sym, ap, ◌∙◌, subst}
use mathlib.Core.List.{List}
use Prim.Native.Nat.{ℕ, suc, ◌+◌, ◌-◌, ◌*◌, ◌/◌, ◌%◌, ◌^◌, ◌≤◌, ◌<◌}
use native.Mathlib.Nat.{mul-le-mul, le_of_eq, zero-mul}
use native.Mathlib.Omega.{arith}
use lib.Dec.{lit<}
use lib.ListN.{length, get_or, take, drop, set}
use lib.Seq.{drop-cons, drop-set-lt, take_all}
use Rattle.text_limbs.specs.Limbs.{value, Limbs}
use Rattle.text_limbs.proofs.Value.{weight, weight_suc, take_value, take_written, set_limbs}

-- l, from l₀, with carry, at i
pub record Multiplied (l₀ l : List ℕ) (m carry i : ℕ) : Type 0 where
  pub limbs : Limbs l
  pub from : length l₀ ≡ 72
  pub factor : m < 2 ^ 32
  pub carried : carry < 2 ^ 32
  pub most : i ≤ 72
  pub kept : drop i l ≡ drop i l₀
  pub is : value (take i l) + weight i * carry ≡ value (take i l₀) * m

pub first : (l : List ℕ) (m : ℕ) → Limbs l → m < 2 ^ 32 → Multiplied l l m 0 0
unfolding value
first l m s f = record { limbs = s; from = s.count; factor = f; carried = lit< tt; most = omega arith; kept = refl; is = sym (zero-mul m) }

-- what stands at i is still l₀'s
same_head : (l l₀ : List ℕ) (i : ℕ) → i < length l → i < length l₀ → drop i l ≡ drop i l₀ → get_or l i 0 ≡ get_or l₀ i 0
same_head l l₀ i h k e = ap (λ (z : List ℕ). get_or z 0 0) (sym (drop-cons l i 0 h) ∙ e ∙ drop-cons l₀ i 0 k)

same_tail : (l l₀ : List ℕ) (i : ℕ) → i < length l → i < length l₀ → drop i l ≡ drop i l₀ → drop (suc i) l ≡ drop (suc i) l₀
same_tail l l₀ i h k e = ap (λ (z : List ℕ). drop 1 z) (sym (drop-cons l i 0 h) ∙ e ∙ drop-cons l₀ i 0 k)

-- the sum at i fits
pub sum_fits : (x m c : ℕ) → x < 2 ^ 32 → m < 2 ^ 32 → c < 2 ^ 32 → (x * m < 2 ^ 64) × (x * m + c < 2 ^ 64)
sum_fits x m c a b d =
    let p : x * m ≤ (2 ^ 32 - 1) * (2 ^ 32 - 1) = mul-le-mul (less x a) (less m b) in
    (omega arith, omega arith)
  where
    less : (x : ℕ) → x < 2 ^ 32 → x ≤ 2 ^ 32 - 1
    less x h = omega arith

-- the arithmetic of one limb
sums : (a b w w' x m c t : ℕ) → w' ≡ 2 ^ 32 * w → a + w * c ≡ b * m → x * m + c ≡ t → a + w * (t % 2 ^ 32) + w' * (t / 2 ^ 32) ≡ (b + w * x) * m
sums a b w w' x m c t f e g =
    let p = ap (λ (z : ℕ). z * (t / 2 ^ 32)) f in
    let q = ap (λ (z : ℕ). w * z) g in
    let r = ap (λ (z : ℕ). w * z) (parts t) in
    omega (arith, p, q, r)
  where
    parts : (t : ℕ) → 2 ^ 32 * (t / 2 ^ 32) + t % 2 ^ 32 ≡ t
    parts t = omega arith

pub next : (l₀ l : List ℕ) (m carry i : ℕ) → Multiplied l₀ l m carry i → i < 72
    → Multiplied l₀ (set l i ((get_or l i 0 * m + carry) % 2 ^ 32)) m ((get_or l i 0 * m + carry) / 2 ^ 32) (suc i)
next l₀ l m carry i h k =
    let t : ℕ = get_or l i 0 * m + carry in
    let kl : i < length l = subst (λ (z : ℕ). i < z) (sym h.limbs.count) k in
    let k0 : i < length l₀ = subst (λ (z : ℕ). i < z) (sym h.from) k in
    record {
      limbs = set_limbs l i (t % 2 ^ 32) h.limbs (low t);
      from = h.from;
      factor = h.factor;
      carried = high t (sum_fits (get_or l i 0) m carry (h.limbs.small i) h.factor h.carried).1;
      most = k;
      kept = drop-set-lt (suc i) l i (t % 2 ^ 32) (self i) ∙ same_tail l l₀ i kl k0 h.kept;
      is =
          (ap (λ (z : ℕ). z + weight (suc i) * (t / 2 ^ 32)) (take_written l i (t % 2 ^ 32) kl)
          ∙ sums (value (take i l)) (value (take i l₀)) (weight i) (weight (suc i)) (get_or l i 0) m carry t (weight_suc i) h.is refl
          ∙ ap (λ (z : ℕ). (value (take i l₀) + weight i * z) * m) (same_head l l₀ i kl k0 h.kept)
          ∙ ap (λ (z : ℕ). z * m) (sym (take_value l₀ i k0)));
    }
  where
    low : (t : ℕ) → t % 2 ^ 32 < 2 ^ 32
    low t = omega arith

    high : (t : ℕ) → t < 2 ^ 64 → t / 2 ^ 32 < 2 ^ 32
    high t h = omega arith

    self : (i : ℕ) → i < suc i
    self i = omega arith

pub last : (l₀ l : List ℕ) (m carry i : ℕ) → Multiplied l₀ l m carry i → 72 ≤ i → (value l + 2 ^ 2304 * carry ≡ value l₀ * m) × Limbs l
last l₀ l m carry i h k = (
  subst (λ (z : List ℕ). value z + 2 ^ 2304 * carry ≡ value l₀ * m) (take_all 72 l (le_of_eq h.limbs.count))
      (subst (λ (z : List ℕ). value (take 72 l) + 2 ^ 2304 * carry ≡ value z * m) (take_all 72 l₀ (le_of_eq h.from))
      (subst (λ (j : ℕ). value (take j l) + weight j * carry ≡ value (take j l₀) * m) (full i h.most k) h.is)),
  h.limbs,
)
  where
    full : (i : ℕ) → i ≤ 72 → 72 ≤ i → i ≡ 72
    full i a b = omega arith
