-- Limbs without their lowest g digits: g / 32 limbs go whole, and g % 32 digits of the next. Assumes nothing.
use mathlib.Core.Path.{◌≡◌, refl, sym, ap, ◌∙◌, subst}
use mathlib.Core.Bool.{true, not}
use mathlib.Core.List.{List}
use Prim.Native.Nat.{ℕ, zero, suc, ◌+◌, ◌-◌, ◌*◌, ◌/◌, ◌%◌, ◌^◌, ◌≤◌, ◌<◌}
use native.Mathlib.Nat.{mul-le-mul_right, mul-div_cancel, add-mul-div_left, add-mul-mod_self_left}
use native.Mathlib.Omega.{arith}
use borrow.Author.Tests.{ne_eqb}
use lib.Dec.{eqb}
use lib.Pow.{pow-add, pow_pos, pow_mono, high, low, shr-shr, mod-pow-add}
use lib.ListN.{length, get_or, take, drop}
use Rattle.text_limbs.specs.Limbs.{value, Limbs}
use Rattle.text_limbs.proofs.Value.{weight, split_value, drop_value, take_below}

-- p digits' weight divides that of a limb
divides : (r p : ℕ) → r < 32 → p ≡ 2 ^ r → (0 < p) × (2 ^ 32 ≡ 2 ^ 32 / p * p) × (2 ≤ 2 ^ 32 / p)
divides r p h e =
    let s : 2 ^ (32 - r) * p ≡ 2 ^ 32 = ap (λ (z : ℕ). 2 ^ (32 - r) * z) e ∙ sym (pow-add 2 (32 - r) r) ∙ ap (λ (z : ℕ). 2 ^ z) (back r h) in
    let k : 0 < p = subst (λ (z : ℕ). 0 < z) (sym e) (pow_pos r) in
    let q : 2 ^ 32 / p ≡ 2 ^ (32 - r) = ap (λ (z : ℕ). z / p) (sym s) ∙ mul-div_cancel (2 ^ (32 - r)) k in
    (k, sym (ap (λ (z : ℕ). z * p) q ∙ s), subst (λ (z : ℕ). 2 ≤ z) (sym q) (pow_mono {i = 1} (some r h)))
  where
    back : (r : ℕ) → r < 32 → 32 - r + r ≡ 32
    back r h = omega arith

    some : (r : ℕ) → r < 32 → 1 ≤ 32 - r
    some r h = omega arith

module _ (l : List ℕ) (g p : ℕ) (h : Limbs l) (k : g < 2240) (e : p ≡ 2 ^ (g % 32)) where
  in_range : (j : ℕ) → j ≤ 2 → g / 32 + j < length l
  in_range j m = subst (λ (n : ℕ). g / 32 + j < n) (sym h.count) (omega arith)

  -- the limbs from i on
  abbrev upper : ℕ
  upper = value (drop (g / 32) l)

  abbrev rest : ℕ
  rest = value (drop (suc (suc (suc (g / 32)))) l)

  upper_is : upper ≡ get_or l (g / 32) 0 + 2 ^ 32 * (get_or l (g / 32 + 1) 0 + 2 ^ 32 * (get_or l (g / 32 + 2) 0 + 2 ^ 32 * rest))
  upper_is =
      drop_value l (g / 32) (at 0 (in_range 0 (omega arith)))
      ∙ ap (λ (z : ℕ). get_or l (g / 32) 0 + 2 ^ 32 * z)
      (drop_value l (suc (g / 32)) (to_1 (in_range 1 (omega arith)))
      ∙ ap (λ (z : ℕ). get_or l z 0 + 2 ^ 32 * value (drop (suc (suc (g / 32))) l)) (one (g / 32))
      ∙ ap (λ (z : ℕ). get_or l (g / 32 + 1) 0 + 2 ^ 32 * z)
      (drop_value l (suc (suc (g / 32))) (to_2 (in_range 2 (omega arith))) ∙ ap (λ (z : ℕ). get_or l z 0 + 2 ^ 32 * rest) (two (g / 32))))
    where
      at : (j : ℕ) → g / 32 + 0 < length l → g / 32 < length l
      at j h = omega arith

      one : (i : ℕ) → suc i ≡ i + 1
      one i = omega arith

      two : (i : ℕ) → suc (suc i) ≡ i + 2
      two i = omega arith

      to_1 : g / 32 + 1 < length l → suc (g / 32) < length l
      to_1 h = omega arith

      to_2 : g / 32 + 2 < length l → suc (suc (g / 32)) < length l
      to_2 h = omega arith

  lower_less : value (take (g / 32) l) < weight (g / 32)
  lower_less = take_below l (g / 32) h.small (omega (arith, h.count))

  parts : value l ≡ upper * 2 ^ (32 * (g / 32)) + value (take (g / 32) l)
  parts = split_value l (g / 32) (omega (arith, h.count)) ∙ flip (value (take (g / 32) l)) (weight (g / 32)) upper
    where
      flip : (t w u : ℕ) → t + w * u ≡ u * w + t
      flip t w u = omega arith

  whole_g : 32 * (g / 32) + g % 32 ≡ g
  whole_g = omega arith

  cut_is : value l / 2 ^ g ≡ upper / p
  cut_is =
      ap (λ (z : ℕ). value l / 2 ^ z) (sym whole_g)
      ∙ sym (shr-shr (value l) (32 * (g / 32)) (g % 32))
      ∙ ap (λ (z : ℕ). z / 2 ^ (32 * (g / 32)) / 2 ^ (g % 32)) parts
      ∙ ap (λ (z : ℕ). z / 2 ^ (g % 32)) (high upper (32 * (g / 32)) lower_less)
      ∙ ap (λ (z : ℕ). upper / z) (sym e)

  rest_is : value l % 2 ^ g ≡ upper % p * weight (g / 32) + value (take (g / 32) l)
  rest_is =
      ap (λ (z : ℕ). value l % 2 ^ z) (sym whole_g ∙ flip (32 * (g / 32)) (g % 32))
      ∙ mod-pow-add (value l) (g % 32) (32 * (g / 32))
      ∙ ap (λ (z : ℕ). z / 2 ^ (32 * (g / 32)) % 2 ^ (g % 32) * 2 ^ (32 * (g / 32)) + z % 2 ^ (32 * (g / 32))) parts
      ∙ ap (λ (z : ℕ). z % 2 ^ (g % 32) * 2 ^ (32 * (g / 32)) + (upper * 2 ^ (32 * (g / 32)) + value (take (g / 32) l)) % 2 ^ (32 * (g / 32))) (high upper (32 * (g / 32)) lower_less)
      ∙ ap (λ (z : ℕ). upper % 2 ^ (g % 32) * 2 ^ (32 * (g / 32)) + z) (low upper (32 * (g / 32)) lower_less)
      ∙ ap (λ (z : ℕ). upper % z * 2 ^ (32 * (g / 32)) + value (take (g / 32) l)) (sym e)
    where
      flip : (a b : ℕ) → a + b ≡ b + a
      flip a b = omega arith

  -- what the next limb and those above it are of p
  abbrev next : ℕ
  next = get_or l (g / 32 + 1) 0 + 2 ^ 32 * (get_or l (g / 32 + 2) 0 + 2 ^ 32 * rest)

  at_p : upper ≡ get_or l (g / 32) 0 + p * (2 ^ 32 / p * next)
  at_p = upper_is ∙ ap (λ (z : ℕ). get_or l (g / 32) 0 + z * next) (divides (g % 32) p (omega arith) e).1 ∙ flip (get_or l (g / 32) 0) (2 ^ 32 / p) p next
    where
      flip : (x q p n : ℕ) → x + q * p * n ≡ x + p * (q * n)
      flip x q p n = omega arith

  upper_whole : upper / p ≡ get_or l (g / 32) 0 / p + 2 ^ 32 / p * next
  upper_whole = ap (λ (z : ℕ). z / p) at_p ∙ add-mul-div_left (get_or l (g / 32) 0) (2 ^ 32 / p * next) (divides (g % 32) p (omega arith) e).0

  upper_rest : upper % p ≡ get_or l (g / 32) 0 % p
  upper_rest = ap (λ (z : ℕ). z % p) at_p ∙ add-mul-mod_self_left (get_or l (g / 32) 0) p (2 ^ 32 / p * next)

  -- the limbs above the third are zero
  no_more : value l / 2 ^ g < 2 ^ 64 → next ≡ get_or l (g / 32 + 2) 0 * 2 ^ 32 + get_or l (g / 32 + 1) 0
  no_more f =
      go (get_or l (g / 32) 0 / p) (2 ^ 32 / p) (get_or l (g / 32 + 1) 0) (get_or l (g / 32 + 2) 0) rest (value l / 2 ^ g) f (divides (g % 32) p (omega arith) e).2 (cut_is ∙ upper_whole)
    where
      go : (a q x y r v : ℕ) → v < 2 ^ 64 → 2 ≤ q → v ≡ a + q * (x + 2 ^ 32 * (y + 2 ^ 32 * r)) → x + 2 ^ 32 * (y + 2 ^ 32 * r) ≡ y * 2 ^ 32 + x
      go a q x y r v f d s =
          let m : 2 * (x + 2 ^ 32 * (y + 2 ^ 32 * r)) ≤ q * (x + 2 ^ 32 * (y + 2 ^ 32 * r)) = mul-le-mul_right (x + 2 ^ 32 * (y + 2 ^ 32 * r)) d in
          small x y r (q * (x + 2 ^ 32 * (y + 2 ^ 32 * r))) v a f m s
        where
          small : (x y r t v a : ℕ) → v < 2 ^ 64 → 2 * (x + 2 ^ 32 * (y + 2 ^ 32 * r)) ≤ t → v ≡ a + t → x + 2 ^ 32 * (y + 2 ^ 32 * r) ≡ y * 2 ^ 32 + x
          small x y r t v a f m s = omega arith

  cut_whole : value l / 2 ^ g < 2 ^ 64 → (get_or l (g / 32 + 2) 0 * 2 ^ 32 + get_or l (g / 32 + 1) 0) * (2 ^ 32 / p) + get_or l (g / 32) 0 / p ≡ value l / 2 ^ g
  cut_whole f =
      sym
      (cut_is
      ∙ upper_whole
      ∙ ap (λ (z : ℕ). get_or l (g / 32) 0 / p + 2 ^ 32 / p * z) (no_more f)
      ∙ flip (get_or l (g / 32) 0 / p) (2 ^ 32 / p) (get_or l (g / 32 + 2) 0 * 2 ^ 32 + get_or l (g / 32 + 1) 0))
    where
      flip : (a q n : ℕ) → a + q * n ≡ n * q + a
      flip a q n = omega arith

  power_some : 0 < p
  power_some = (divides (g % 32) p (omega arith) e).0

  -- a digit of the next limb is cut off that is not zero
  rest_some : (get_or l (g / 32) 0 % p ≡ 0 → ⊥) → true ≡ not (eqb (value l % 2 ^ g) 0)
  rest_some f =
      sym
      (ap not
      (ne_eqb (value l % 2 ^ g) 0
      (λ (z : value l % 2 ^ g ≡ 0).
      f (go (get_or l (g / 32) 0 % p) (weight (g / 32)) (value (take (g / 32) l)) (pow_pos (32 * (g / 32))) (ap (λ (y : ℕ). y * weight (g / 32) + value (take (g / 32) l)) (sym upper_rest) ∙ sym rest_is ∙ z)))))
    where
      go : (x w t : ℕ) → 0 < w → x * w + t ≡ 0 → x ≡ 0
      go zero w t a s = refl
      go (suc x) w t a s = absurd (omega arith)

  -- or none: then it is those of the limbs below
  rest_lower : get_or l (g / 32) 0 % p ≡ 0 → value l % 2 ^ g ≡ value (take (g / 32) l)
  rest_lower f = rest_is ∙ ap (λ (z : ℕ). z * weight (g / 32) + value (take (g / 32) l)) (upper_rest ∙ f) ∙ none (weight (g / 32)) (value (take (g / 32) l))
    where
      none : (w t : ℕ) → 0 * w + t ≡ t
      none w t = omega arith

-- what is left without the lowest g digits, and whether one of those was not zero
pub record Parted (l : List ℕ) (g p : ℕ) : Type 0 where
  pub power : 0 < p
  pub whole : (get_or l (g / 32 + 2) 0 * 2 ^ 32 + get_or l (g / 32 + 1) 0) * (2 ^ 32 / p) + get_or l (g / 32) 0 / p ≡ value l / 2 ^ g
  pub some : (get_or l (g / 32) 0 % p ≡ 0 → ⊥) → true ≡ not (eqb (value l % 2 ^ g) 0)
  pub none : get_or l (g / 32) 0 % p ≡ 0 → value l % 2 ^ g ≡ value (take (g / 32) l)

pub parted : (l : List ℕ) (g p : ℕ) → Limbs l → g < 2240 → p ≡ 2 ^ (g % 32) → value l / 2 ^ g < 2 ^ 64 → Parted l g p
parted l g p h k e f =
    record { power = power_some l g p h k e; whole = cut_whole l g p h k e f; some = rest_some l g p h k e; none = rest_lower l g p h k e }
