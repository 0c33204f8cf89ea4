-- v * 2 ^ place in limbs: v is moved up by place % 32 digits, and stands in three limbs from place / 32 on. Assumes nothing.
use mathlib.Core.Path.{◌≡◌, sym, ap, ◌∙◌, subst}
use mathlib.Core.List.{List}
use Prim.Native.Nat.{ℕ, suc, ◌+◌, ◌-◌, ◌*◌, ◌/◌, ◌%◌, ◌^◌, ◌≤◌, ◌<◌}
use native.Mathlib.Nat.{mul-le-mul, mul_comm, mul_assoc, div-add-mod'}
use native.Mathlib.Omega.{arith}
use lib.Pow.{pow-add, pow_mono}
use lib.ListN.{length, get_or, set, replicate, length-set}
use lib.Seq.{get_or-set_other}
use Rattle.text_limbs.specs.Limbs.{value, Limbs}
use Rattle.text_limbs.proofs.Value.{weight, weight_suc, set_value, set_limbs, zeros_value, zeros_get, zeros_limbs}

-- ---- what is moved up fits

pub record Moved (v p : ℕ) : Type 0 where
  pub low : v % 2 ^ 32 * p < 2 ^ 63
  pub high : v / 2 ^ 32 * p < 2 ^ 63
  pub sum : v / 2 ^ 32 * p + v % 2 ^ 32 * p / 2 ^ 32 < 2 ^ 64

pub moved : (v r p : ℕ) → v < 2 ^ 64 → r < 32 → p ≡ 2 ^ r → Moved v p
moved v r p h k e =
    let q : p ≤ 2 ^ 31 = subst (λ (z : ℕ). z ≤ 2 ^ 31) (sym e) (pow_mono (less r k)) in
    let a : v % 2 ^ 32 * p ≤ (2 ^ 32 - 1) * 2 ^ 31 = mul-le-mul (tail v) q in
    let b : v / 2 ^ 32 * p ≤ (2 ^ 32 - 1) * 2 ^ 31 = mul-le-mul (head v h) q in
    record { low = bound (v % 2 ^ 32 * p) a; high = bound (v / 2 ^ 32 * p) b; sum = both (v / 2 ^ 32 * p) (v % 2 ^ 32 * p) b a }
  where
    less : (r : ℕ) → r < 32 → r ≤ 31
    less r k = omega arith

    tail : (v : ℕ) → v % 2 ^ 32 ≤ 2 ^ 32 - 1
    tail v = omega arith

    head : (v : ℕ) → v < 2 ^ 64 → v / 2 ^ 32 ≤ 2 ^ 32 - 1
    head v h = omega arith

    bound : (x : ℕ) → x ≤ (2 ^ 32 - 1) * 2 ^ 31 → x < 2 ^ 63
    bound x h = omega arith

    both : (x y : ℕ) → x ≤ (2 ^ 32 - 1) * 2 ^ 31 → y ≤ (2 ^ 32 - 1) * 2 ^ 31 → x + y / 2 ^ 32 < 2 ^ 64
    both x y h k = omega arith

-- ---- three limbs

abbrev three : ℕ → ℕ → ℕ → ℕ → List ℕ
three i x y z = set (set (set (replicate 72 0) i x) (i + 1) y) (i + 2) z

three_value : (i x y z : ℕ) → i + 2 < 72 → value (three i x y z) ≡ weight i * (x + 2 ^ 32 * (y + 2 ^ 32 * z))
three_value i x y z h =
    let l₁ : List ℕ = set (replicate 72 0) i x in
    let l₂ : List ℕ = set l₁ (i + 1) y in
    let n₁ : length l₁ ≡ 72 = length-set (replicate 72 0) i x in
    let n₂ : length l₂ ≡ 72 = length-set l₁ (i + 1) y ∙ n₁ in
    let g₀ : ◌≡◌ {A = ℕ} (get_or (replicate 72 0) i 0) 0 = zeros_get 72 i in
    let g₁ : ◌≡◌ {A = ℕ} (get_or l₁ (i + 1) 0) 0 = get_or-set_other (replicate 72 0) i (i + 1) x 0 (λ (e : i + 1 ≡ i). omega arith) ∙ zeros_get 72 (i + 1) in
    let g₂ : ◌≡◌ {A = ℕ} (get_or l₂ (i + 2) 0) 0 =
    get_or-set_other l₁ (i + 1) (i + 2) y 0 (λ (e : i + 2 ≡ i + 1). omega arith)
    ∙ get_or-set_other (replicate 72 0) i (i + 2) x 0 (λ (e : i + 2 ≡ i). omega arith)
    ∙ zeros_get 72 (i + 2) in
    sums (value (replicate 72 0)) (value l₁) (value l₂) (value (three i x y z)) (weight i) (weight (i + 1)) (weight (i + 2)) x y z (zeros_value 72)
    (clear (value l₁) (value (replicate 72 0)) (weight i) (get_or (replicate 72 0) i 0) x g₀ (set_value (replicate 72 0) i x (omega arith)))
    (clear (value l₂) (value l₁) (weight (i + 1)) (get_or l₁ (i + 1) 0) y g₁ (set_value l₁ (i + 1) y (subst (λ (n : ℕ). i + 1 < n) (sym n₁) (omega arith))))
    (clear (value (three i x y z)) (value l₂) (weight (i + 2)) (get_or l₂ (i + 2) 0) z g₂ (set_value l₂ (i + 2) z (subst (λ (n : ℕ). i + 2 < n) (sym n₂) (omega arith))))
    (up 1 i) (ap (λ (j : ℕ). weight j) (two i) ∙ up 1 (i + 1))
  where
    two : (i : ℕ) → i + 2 ≡ i + 1 + 1
    two i = omega arith

    up : (k i : ℕ) → weight (i + 1) ≡ 2 ^ 32 * weight i
    up k i = ap (λ (j : ℕ). weight j) (one i) ∙ weight_suc i
      where
        one : (i : ℕ) → i + 1 ≡ suc i
        one i = omega arith

    clear : (s t w g v : ℕ) → g ≡ 0 → s + w * g ≡ t + w * v → s ≡ t + w * v
    clear s t w g v e f = let q = ap (λ (z : ℕ). w * z) e in omega (arith, q)

    sums : (s₀ s₁ s₂ s₃ w w' w'' x y z : ℕ) → s₀ ≡ 0 → s₁ ≡ s₀ + w * x → s₂ ≡ s₁ + w' * y → s₃ ≡ s₂ + w'' * z → w' ≡ 2 ^ 32 * w → w'' ≡ 2 ^ 32 * w'
        → s₃ ≡ w * (x + 2 ^ 32 * (y + 2 ^ 32 * z))
    sums s₀ s₁ s₂ s₃ w w' w'' x y z a b c d e f =
        let p = ap (λ (q : ℕ). q * y) e in
        let p₁ = ap (λ (q : ℕ). q * z) e in
        let p₂ = ap (λ (q : ℕ). q * z) f in
        omega (arith, p, p₁, p₂)

-- ---- v * 2 ^ place

pub placed_limbs : (i v p : ℕ) → Moved v p
    → Limbs
    (three i (v % 2 ^ 32 * p % 2 ^ 32) ((v / 2 ^ 32 * p + v % 2 ^ 32 * p / 2 ^ 32) % 2 ^ 32) ((v / 2 ^ 32 * p + v % 2 ^ 32 * p / 2 ^ 32) / 2 ^ 32))
placed_limbs i v p m =
    let h : ℕ = v / 2 ^ 32 * p + v % 2 ^ 32 * p / 2 ^ 32 in
    set_limbs _ (i + 2) (h / 2 ^ 32)
    (set_limbs _ (i + 1) (h % 2 ^ 32) (set_limbs (replicate 72 0) i (v % 2 ^ 32 * p % 2 ^ 32) zeros_limbs (low (v % 2 ^ 32 * p))) (low h))
    (high h m.sum)
  where
    low : (x : ℕ) → x % 2 ^ 32 < 2 ^ 32
    low x = omega arith

    high : (x : ℕ) → x < 2 ^ 64 → x / 2 ^ 32 < 2 ^ 32
    high x h = omega arith

pub placed_value : (v place p : ℕ) → place < 2240 → p ≡ 2 ^ (place % 32)
    → value
    (three (place / 32) (v % 2 ^ 32 * p % 2 ^ 32) ((v / 2 ^ 32 * p + v % 2 ^ 32 * p / 2 ^ 32) % 2 ^ 32)
    ((v / 2 ^ 32 * p + v % 2 ^ 32 * p / 2 ^ 32) / 2 ^ 32))
    ≡ v * 2 ^ place
placed_value v place p h e =
    three_value (place / 32) _ _ _ (omega arith)
    ∙ ap (λ (z : ℕ). weight (place / 32) * z) (joined v p)
    ∙ mul_comm (weight (place / 32)) (v * p)
    ∙ mul_assoc v p (weight (place / 32))
    ∙ ap (λ (z : ℕ). v * z) (ap (λ (z : ℕ). z * weight (place / 32)) e ∙ sym (pow-add 2 (place % 32) (32 * (place / 32))) ∙ ap (λ (z : ℕ). 2 ^ z) (whole place))
  where
    whole : (n : ℕ) → n % 32 + 32 * (n / 32) ≡ n
    whole n = omega arith

    parts : (a h : ℕ) → a % 2 ^ 32 + 2 ^ 32 * ((h + a / 2 ^ 32) % 2 ^ 32 + 2 ^ 32 * ((h + a / 2 ^ 32) / 2 ^ 32)) ≡ a + 2 ^ 32 * h
    parts a h = omega arith

    joined : (v p : ℕ)
        → v % 2 ^ 32 * p % 2 ^ 32 + 2 ^ 32 * ((v / 2 ^ 32 * p + v % 2 ^ 32 * p / 2 ^ 32) % 2 ^ 32 + 2 ^ 32 * ((v / 2 ^ 32 * p + v % 2 ^ 32 * p / 2 ^ 32) / 2 ^ 32)) ≡ v * p
    joined v p =
        let q = ap (λ (z : ℕ). z * p) (div-add-mod' v (2 ^ 32)) in
        parts (v % 2 ^ 32 * p) (v / 2 ^ 32 * p) ∙ omega (arith, q)
