-- Every number that is written is read back. Assumes nothing.
use mathlib.Core.Path.{◌≡◌, refl, sym, ap, ◌∙◌, subst}
use mathlib.Core.Bool.{Bool, true, false, not, cond}
use mathlib.Core.Logic.{inl, inr}
use mathlib.Core.List.{[], ◌∷◌, ◌++◌}
use lib.ListN.{length, take, replicate}
use lib.Seq.{take-append_seam}
use Prim.Native.Nat.{ℕ, suc, ◌+◌, ◌-◌, ◌*◌, ◌/◌, ◌%◌, ◌^◌, ◌≤◌, ◌<◌, compare}
use native.Mathlib.Nat.{le_trans, le_of_lt, mul_assoc, div-lt_iff_lt-mul, le-div_iff_mul-le, eq-zero-or-pos, eq-or-lt_of_le, mul-div_cancel}
use native.Mathlib.Omega.{arith}
use borrow.Author.Tests.{eqb-false, eq-eqb, ne_eqb}
use lib.Dec.{T, eqb, lit<, lit≤, ltb→lt, nltb→le}
use lib.IntN.{pos}
use lib.Pow.{pow-add}
use lib.Ieee.{Float, nan, inf, fin, binary64, size, up, down, units, odd, round, fits}
use lib.Ieee.Fits.{round-fits, nearest-le, down_pos}
use lib.Ieee.Exact.{HasValue}
use lib.Ieee.Nearest.{closest, nearest-ge}
use Rattle.rounding.specs.Units.{in_units}
use Rattle.rounding.proofs.Choose.{le_or_lt}
use Rattle.rounding.proofs.Units.{placed, placed_units}
use Rattle.number.specs.Number.{◌<?◌}
use Rattle.text_decimal_grammar.specs.declared.Place.TheVariants.{Exponent}
use Rattle.std.proofs.Common.{Ok}
use Rattle.text_decimal_write.specs.declared.Decimal.{Decimal}
use Rattle.text_decimal_grammar.specs.declared.State.{State}
use Rattle.text_decimal_grammar.specs.Grammar.{nothing, step, step_at, digit_of, moved, minus, whole_digit, fraction_digit, exponent_digit, mark, after_sign, at_start, in_whole, after_zero, in_fraction, in_exponent, after_mark, in_word}
use Rattle.text_decimal_read.specs.Text.{number_of, read_of, scan, finish_at}
use Rattle.text_decimal_write.specs.Decimals.{over, under, tens, decimal_of, units_decimal, digits_text, exponent_text, decimal_text, units_text, sign_text, text_of, written, written_of}
use Rattle.text_decimal_write.specs.Room.{guess_of}
use Rattle.text_limbs.proofs.Tens.{ten_pos}
use Rattle.text_decimal_write.proofs.First.{under_pos, reach_next, tens_are, Guessed, guessed}
use Rattle.text_decimal.proofs.Back.{Near, round_back, same_value, tens_reach, decimal_near, read_near}
use Rattle.text_decimal.proofs.Again.{st, below, size_of, text_back}

-- ---- 17 digits

tens_short : (u : ℕ) → 0 < u → u < 2 ^ 2098 → (over u (tens u) < 10 ^ 17 * under (tens u)) × (tens u ≤ 632)
tens_short u p h = go (guess_of (size u)) (guessed u p h)
  where
    go : (t : ℕ) → Guessed u t → (over u (tens u) < 10 ^ 17 * under (tens u)) × (tens u ≤ 632)
    go t g = elim (le_or_lt (10 ^ 17 * under t) (over u t)) [
      | inl l ↦ subst (λ (z : ℕ). (over u z < 10 ^ 17 * under z) × (z ≤ 632)) (sym (tens_are u (suc t) g.few (reach_next u t l) g.short)) (g.short, g.few)
      | inr l ↦ subst (λ (z : ℕ). (over u z < 10 ^ 17 * under z) × (z ≤ 632)) (sym (tens_are u t (le_of_lt g.few) g.reach l)) (l, le_of_lt g.few)
    ]

record Seventeen (d : Decimal) : Type 0 where
  pub least : 10 ^ 16 ≤ d.digits
  pub most : d.digits < 10 ^ 17
  pub few : d.tens ≤ 700

seventeen : (u : ℕ) → 0 < u → u < 2 ^ 2098 → Seventeen (decimal_of u)
unfolding decimal_of
seventeen u p h =
    let a : ℕ = over u (tens u) in
    let c : ℕ = under (tens u) in
    let s = tens_short u p h in
    go (eqb (closest a c) (10 ^ 17)) (closest a c) (eqb-false (closest a c) (10 ^ 17))
    (le_trans ((le-div_iff_mul-le (under_pos (tens u))).1 (tens_reach u p h)) (nearest-ge (a / c) (compare (a % c * 2) c)))
    (le_trans (nearest-le (a / c) (compare (a % c * 2) c)) ((div-lt_iff_lt-mul (under_pos (tens u))).1 s.0)) s.1
  where
    go : (b : Bool) (d : ℕ) → (b ≡ false → d ≡ 10 ^ 17 → ⊥) → 10 ^ 16 ≤ d → d ≤ 10 ^ 17 → tens u ≤ 632
        → Seventeen (cond b (record { digits = 10 ^ 16; tens = tens u + 1 }) (record { digits = d; tens = tens u }))
    go true d f l m t = record { least = lit≤ tt; most = lit< tt; few = omega arith }
    go false d f l m t = record { least = l; most = less d m (f refl); few = omega arith }
      where
        less : (d : ℕ) → d ≤ 10 ^ 17 → (d ≡ 10 ^ 17 → ⊥) → d < 10 ^ 17
        less d m n = elim (eq-or-lt_of_le m) [ inl e ↦ absurd (n e) | inr g ↦ g ]

-- ---- the fraction that is read is digits * 10 ^ (t - 340)

read_value : (s : Bool) (u d t : ℕ) → 0 < u → Near (over u t) (d * under t) → (m g : ℕ) → u ≡ m * 2 ^ g → m < 2 ^ 53 → u < 2 ^ 2098
    → HasValue (number_of (st Exponent s d 16 (below t) (size_of t))) s u (2 ^ 1074)
unfolding number_of
read_value s u d t p h m g e M l = go (t <? 324) (ltb→lt t 324) (nltb→le t 324)
  where
    value : (num den : ℕ) → 0 < den → num * 10 ^ (340 - t) ≡ d * 10 ^ (t - 340) * den → HasValue (round binary64 s num den) s u (2 ^ 1074)
    value num den D f =
        subst (λ (z : ℕ). HasValue (round binary64 s num den) s z (2 ^ 1074)) (sym e)
        (round_back s num den m g D M (subst (λ (z : ℕ). z < 2 ^ 2098) e l) (subst (λ (z : ℕ). Near (z * den) (num * 2 ^ 1074)) e (read_near u d t num den p f h)))

    low : (t : ℕ) → t < 324 → 16 + (324 - t) ≡ 340 - t
    low t h = omega arith

    none : (t : ℕ) → t < 324 → t - 340 ≡ 0
    none t h = omega arith

    sums : (t : ℕ) → 324 ≤ t → 0 + (t - 324) + (340 - t) ≡ t - 340 + 16
    sums t h = omega arith

    go : (b : Bool) → (T b → t < 324) → (T (not b) → 324 ≤ t)
        → HasValue (cond b (round binary64 s (d * 10 ^ 0) (10 ^ (16 + cond b (324 - t) (t - 324)))) (round binary64 s (d * 10 ^ (0 + cond b (324 - t) (t - 324))) (10 ^ 16))) s u (2 ^ 1074)
    go true f k =
        value (d * 10 ^ 0) (10 ^ (16 + (324 - t))) (ten_pos (16 + (324 - t)))
        (ap (λ (z : ℕ). d * 10 ^ 0 * 10 ^ z) (sym (low t (f tt))) ∙ ap (λ (z : ℕ). d * 10 ^ z * 10 ^ (16 + (324 - t))) (sym (none t (f tt))))
    go false f k =
        value (d * 10 ^ (0 + (t - 324))) (10 ^ 16) (ten_pos 16)
        (mul_assoc d (10 ^ (0 + (t - 324))) (10 ^ (340 - t))
        ∙ ap (λ (z : ℕ). d * z) (sym (pow-add 10 (0 + (t - 324)) (340 - t)) ∙ ap (λ (z : ℕ). 10 ^ z) (sums t (k tt)) ∙ pow-add 10 (t - 340) 16)
        ∙ sym (mul_assoc d (10 ^ (t - 340)) (10 ^ 16)))

-- ---- the theorem

number_fits : (s : State) → T (fits binary64 (number_of s))
unfolding number_of
number_fits s = go s.under
  where
    go : (b : Bool)
        → T (fits binary64 (cond b (round binary64 s.negative (s.digits * 10 ^ s.up) (10 ^ (s.down + s.exponent))) (round binary64 s.negative (s.digits * 10 ^ (s.up + s.exponent)) (10 ^ s.down))))
    go true = round-fits binary64 s.negative (s.digits * 10 ^ s.up) (10 ^ (s.down + s.exponent))
    go false = round-fits binary64 s.negative (s.digits * 10 ^ (s.up + s.exponent)) (10 ^ s.down)

word_nan : read_of (110 ∷ 97 ∷ 110 ∷ []) ≡ Ok nan
unfolding read_of scan nothing step step_at digit_of moved after_sign at_start in_word finish_at
word_nan = refl

word_inf : (s : Bool) → read_of (sign_text s ++ 105 ∷ 110 ∷ 102 ∷ []) ≡ Ok (inf s)
unfolding read_of scan nothing step step_at digit_of moved minus after_sign at_start in_word finish_at
word_inf true = refl
word_inf false = refl

zero_back : (s : Bool) → read_of (sign_text s ++ decimal_text (record { digits = 0; tens = 324 })) ≡ Ok (fin s 0 (pos 0))
unfolding read_of scan nothing step step_at digit_of moved minus whole_digit fraction_digit exponent_digit mark after_sign at_start in_whole after_zero in_fraction in_exponent after_mark finish_at number_of round size units odd digits_text exponent_text decimal_text
zero_back true = refl
zero_back false = refl

zero_value : (s : Bool) → HasValue (fin s 0 (pos 0)) s 0 (2 ^ 1074)
zero_value s = (refl, refl)

zero_fits : (s : Bool) → T (fits binary64 (fin s 0 (pos 0)))
unfolding fits
zero_fits s = tt

units_back : (x : Float) (s : Bool) (m g u : ℕ) → T (fits binary64 x) → HasValue x s u (2 ^ 1074) → u ≡ m * 2 ^ g → m < 2 ^ 53 → u < 2 ^ 2098 → read_of (sign_text s ++ units_text u) ≡ Ok x
unfolding units_text units_decimal
units_back x s m g u f v e M l = elim (eq-zero-or-pos u) [
  | inl z ↦
      ap (λ (b : Bool). read_of (sign_text s ++ decimal_text (cond b (record { digits = 0; tens = 324 }) (decimal_of u)))) (eq-eqb u 0 z)
      ∙ zero_back s
      ∙ ap Ok (same_value (fin s 0 (pos 0)) x s 0 (zero_fits s) f (zero_value s) (subst (λ (n : ℕ). HasValue x s n (2 ^ 1074)) z v))
  | inr p ↦
      let d = seventeen u p l in
      ap (λ (b : Bool). read_of (sign_text s ++ decimal_text (cond b (record { digits = 0; tens = 324 }) (decimal_of u)))) (ne_eqb u 0 (λ (z : u ≡ 0). not_zero u p z))
      ∙ text_back s (decimal_of u) d.least d.most d.few
      ∙ ap Ok
      (same_value (number_of (st Exponent s (decimal_of u).digits 16 (below (decimal_of u).tens) (size_of (decimal_of u).tens))) x s u
      (number_fits (st Exponent s (decimal_of u).digits 16 (below (decimal_of u).tens) (size_of (decimal_of u).tens))) f
      (read_value s u (decimal_of u).digits (decimal_of u).tens p (decimal_near u p l) m g e M l) v)
]
  where
    not_zero : (u : ℕ) → 0 < u → u ≡ 0 → ⊥
    not_zero u p z = omega arith

-- what is written of a number is read back as that number: its value and its sign, so its bits; of a NaN as a NaN
pub round_trip : (x : Float) → T (fits binary64 x) → read_of (text_of x) ≡ Ok x
unfolding text_of in_units
round_trip nan f = word_nan
round_trip (inf true) f = word_inf true
round_trip (inf false) f = word_inf false
round_trip (fin s m e) f =
    let p = placed binary64 s m e f in
    let v : m * up e * 2 ^ 1074 ≡ m * 2 ^ p.place * down e = placed_units binary64 m e p in
    let u : m * up e * 2 ^ 1074 / down e ≡ m * 2 ^ p.place = ap (λ (z : ℕ). z / down e) v ∙ mul-div_cancel (m * 2 ^ p.place) (down_pos e) in
    ap (λ (z : ℕ). read_of (sign_text s ++ units_text z)) u
    ∙ units_back (fin s m e) s m p.place (m * 2 ^ p.place) f (refl, v) refl p.digits p.under

-- the same of the bytes that `write` hands over
pub written_back : (x : Float) → T (fits binary64 x) → read_of (take (written_of x).length (written_of x).bytes) ≡ Ok x
unfolding written_of written
written_back x f = ap read_of (take-append_seam (text_of x) (replicate (32 - length (text_of x)) 0)) ∙ round_trip x f
