-- The text of a decimal, read again: digits, point and exponent come back. Assumes nothing.
use mathlib.Core.Path.{◌≡◌, refl, sym, ap, ◌∙◌}
use mathlib.Core.Bool.{Bool, true, false, cond}
use mathlib.Core.List.{List, [], ◌∷◌, ◌++◌}
use Prim.Native.Nat.{ℕ, zero, suc, ◌+◌, ◌-◌, ◌*◌, ◌/◌, ◌%◌, ◌^◌, ◌≤◌, ◌<◌}
use native.Mathlib.Nat.{mul-le-mul_right, mul-le-mul_left, pow-suc, mod-one, mod-eq_of_lt, div-add-mod', div-one, mod-lt, div-div-eq-div-mul}
use native.Mathlib.Omega.{arith}
use borrow.Author.Tests.{lt-ltb, le-ltb, ne_eqb}
use lib.Dec.{lit<}
use Rattle.text_decimal_grammar.specs.declared.Place.{Place}
use Rattle.text_decimal_grammar.specs.declared.Place.TheVariants.{Sign, Whole, Fraction, Mark, MarkSign, Exponent}
use Rattle.text_decimal_grammar.specs.declared.State.{State}
use Rattle.std.proofs.Common.{Option, Some}
use Rattle.std.proofs.Common.{Ok}
use Rattle.text_decimal_write.specs.declared.Decimal.{Decimal}
use Rattle.number.specs.Number.{◌<?◌}
use Rattle.text_decimal_grammar.specs.Grammar.{digit_of, nothing, moved, minus, minus_exponent, whole_digit, fraction_digit, exponent_digit, mark, after_sign, at_start, in_whole, in_fraction, in_exponent, after_mark, step_at, step}
use Rattle.text_decimal_read.specs.Text.{number_of, finish_at, onward, scan, read_of}
use Rattle.text_decimal_write.specs.Decimals.{digits_text, exponent_text, decimal_text, sign_text}
use Rattle.text_limbs.proofs.Tens.{ten_pos, mod_of}

abbrev pub st : Place → Bool → ℕ → ℕ → Bool → ℕ → State
st p s d n u e = record { place = p; negative = s; digits = d; up = 0; down = n; under = u; exponent = e }

digit_of_lem : (d : ℕ) → d < 10 → digit_of (48 + d) ≡ Some d
unfolding digit_of
digit_of_lem d h = rw (le-ltb (48 + d) 48 (omega arith), le-ltb 57 (48 + d) (omega arith)) (ap Some (omega arith))

-- one byte more
onto : (s s' : State) (c i : ℕ) (t : List ℕ) → step s c ≡ Some s' → scan s i (c ∷ t) ≡ scan s' (suc i) t
unfolding scan
onto s s' c i t e = ap (λ (x : Option State). onward x i (λ next. scan next (suc i) t)) e

-- ---- the first digit

start_digit : (q : ℕ) → 0 < q → q < 10 → step nothing (48 + q) ≡ Some (st Whole false q 0 false 0)
unfolding step step_at nothing at_start after_sign whole_digit
start_digit q p h =
    simp (ne_eqb (48 + q) 43 (λ (e : 48 + q ≡ 43). omega arith), ne_eqb (48 + q) 45 (λ (e : 48 + q ≡ 45). omega arith), ne_eqb (48 + q) 48 (λ (e : 48 + q ≡ 48). omega arith), digit_of_lem q h)
    (ap (λ (z : ℕ). Some (st Whole false z 0 false 0)) (omega arith))

sign_digit : (q : ℕ) → q < 10 → step (st Sign true 0 0 false 0) (48 + q) ≡ Some (st Whole true q 0 false 0)
unfolding step step_at after_sign whole_digit
sign_digit q h = simp (digit_of_lem q h) (ap (λ (z : ℕ). Some (st Whole true z 0 false 0)) (omega arith))

-- ---- digits after the point

fraction_digit_lem : (s : Bool) (d n x : ℕ) → x < 10 → d < 10 ^ 18 → step (st Fraction s d n false 0) (48 + x) ≡ Some (st Fraction s (d * 10 + x) (n + 1) false 0)
unfolding step step_at in_fraction fraction_digit
fraction_digit_lem s d n x h l = simp (digit_of_lem x h, lt-ltb d (10 ^ 18) l)

fraction_digits : (k v : ℕ) (s : Bool) (d n i : ℕ) (t : List ℕ) → suc d * 10 ^ k ≤ 10 ^ 18
    → scan (st Fraction s d n false 0) i (digits_text k v ++ t) ≡ scan (st Fraction s (d * 10 ^ k + v % 10 ^ k) (n + k) false 0) (i + k) t
unfolding digits_text
fraction_digits zero v s d n i t h =
    ap (λ (z : ℕ). scan (st Fraction s z n false 0) i t) (sym (ap (λ (z : ℕ). d * 1 + z) (mod-one v) ∙ one d))
    ∙ ap (λ (z : ℕ). scan (st Fraction s (d * 10 ^ 0 + v % 10 ^ 0) z false 0) i t) (none n)
    ∙ ap (λ (z : ℕ). scan (st Fraction s (d * 10 ^ 0 + v % 10 ^ 0) (n + 0) false 0) z t) (none i)
  where
    one : (d : ℕ) → d * 1 + 0 ≡ d
    one d = omega arith

    none : (n : ℕ) → n ≡ n + 0
    none n = omega arith
fraction_digits (suc k) v s d n i t h =
    onto (st Fraction s d n false 0) (st Fraction s (d * 10 + v / 10 ^ k % 10) (n + 1) false 0) (48 + v / 10 ^ k % 10) i (digits_text k v ++ t)
    (fraction_digit_lem s d n (v / 10 ^ k % 10) (last (v / 10 ^ k)) (small d (10 ^ suc k) (ten_pos (suc k)) h))
    ∙ fraction_digits k v s (d * 10 + v / 10 ^ k % 10) (n + 1) (suc i) t (next d (v / 10 ^ k % 10) (10 ^ k) (10 ^ suc k) (last (v / 10 ^ k)) (pow-suc 10 k) h)
    ∙ ap (λ (z : ℕ). scan (st Fraction s z (n + 1 + k) false 0) (suc i + k) t)
    (joined d (v / 10 ^ k % 10) (v % 10 ^ k) (10 ^ k) (10 ^ suc k) (v % 10 ^ suc k) (pow-suc 10 k) (ap (λ (z : ℕ). v % z) (pow-suc 10 k) ∙ mod_of v (10 ^ k) 10 (ten_pos k) (lit< tt)))
    ∙ ap (λ (z : ℕ). scan (st Fraction s (d * 10 ^ suc k + v % 10 ^ suc k) z false 0) (suc i + k) t) (one n k)
    ∙ ap (λ (z : ℕ). scan (st Fraction s (d * 10 ^ suc k + v % 10 ^ suc k) (n + suc k) false 0) z t) (two i k)
  where
    last : (x : ℕ) → x % 10 < 10
    last x = omega arith

    small : (d p : ℕ) → 0 < p → suc d * p ≤ 10 ^ 18 → d < 10 ^ 18
    small d zero P h = absurd (omega arith)
    small d (suc p) P h = let q : suc d * 1 ≤ suc d * suc p = mul-le-mul_left (suc d) (omega arith) in omega (arith, q, h)

    next : (d x p p' : ℕ) → x < 10 → p' ≡ p * 10 → suc d * p' ≤ 10 ^ 18 → suc (d * 10 + x) * p ≤ 10 ^ 18
    next d x p p' h e l =
        let q : suc (d * 10 + x) * p ≤ (suc d * 10) * p = mul-le-mul_right p (omega arith) in
        let r = ap (λ (z : ℕ). suc d * z) e in
        omega (arith, q, r, l)

    joined : (d x r p p' r' : ℕ) → p' ≡ p * 10 → r' ≡ x * p + r → (d * 10 + x) * p + r ≡ d * p' + r'
    joined d x r p p' r' e f = let q = ap (λ (z : ℕ). d * z) e in omega (arith, q)

    one : (n k : ℕ) → n + 1 + k ≡ n + suc k
    one n k = omega arith

    two : (i k : ℕ) → suc i + k ≡ i + suc k
    two i k = omega arith

-- ---- the exponent

exponent_first : (s u : Bool) (d n x : ℕ) → x < 10 → step (st MarkSign s d n u 0) (48 + x) ≡ Some (st Exponent s d n u x)
unfolding step step_at in_exponent exponent_digit
exponent_first s u d n x h =
    simp (digit_of_lem x h, le-ltb 400 (0 * 10 + x) (omega arith)) (ap (λ (z : ℕ). Some (st Exponent s d n u z)) (omega arith))

exponent_next : (s u : Bool) (d n e x : ℕ) → x < 10 → e * 10 + x ≤ 400 → step (st Exponent s d n u e) (48 + x) ≡ Some (st Exponent s d n u (e * 10 + x))
unfolding step step_at in_exponent exponent_digit
exponent_next s u d n e x h l = simp (digit_of_lem x h, le-ltb 400 (e * 10 + x) l)

exponent_digits : (s u : Bool) (d n i e : ℕ) → e ≤ 400 → scan (st MarkSign s d n u 0) i (digits_text 3 e) ≡ Ok (number_of (st Exponent s d n u e))
unfolding digits_text scan finish_at
exponent_digits s u d n i e h =
    onto (st MarkSign s d n u 0) (st Exponent s d n u (e / 100 % 10)) (48 + e / 100 % 10) i ((48 + e / 10 % 10) ∷ (48 + e / 1 % 10) ∷ []) (exponent_first s u d n (e / 100 % 10) (omega arith))
    ∙ onto (st Exponent s d n u (e / 100 % 10)) (st Exponent s d n u (e / 100 % 10 * 10 + e / 10 % 10)) (48 + e / 10 % 10) (suc i) ((48 + e / 1 % 10) ∷ [])
    (exponent_next s u d n (e / 100 % 10) (e / 10 % 10) (omega arith) (omega arith))
    ∙ onto (st Exponent s d n u (e / 100 % 10 * 10 + e / 10 % 10)) (st Exponent s d n u ((e / 100 % 10 * 10 + e / 10 % 10) * 10 + e / 1 % 10)) (48 + e / 1 % 10) (suc (suc i)) []
    (exponent_next s u d n (e / 100 % 10 * 10 + e / 10 % 10) (e / 1 % 10) (omega arith) (rw (all e h) h))
    ∙ ap (λ (z : ℕ). Ok (number_of (st Exponent s d n u z))) (all e h)
  where
    less : (e : ℕ) → e ≤ 400 → e / 10 < 100
    less e h = omega arith

    two : (x : ℕ) → x < 100 → x / 10 % 10 * 10 + x % 10 ≡ x
    two x h = omega arith

    one : (e : ℕ) → e / 10 * 10 + e % 10 ≡ e
    one e = omega arith

    all : (e : ℕ) → e ≤ 400 → (e / 100 % 10 * 10 + e / 10 % 10) * 10 + e / 1 % 10 ≡ e
    all e h =
        ap (λ (z : ℕ). (z % 10 * 10 + e / 10 % 10) * 10 + e / 1 % 10) (sym (div-div-eq-div-mul e 10 10))
        ∙ ap (λ (z : ℕ). z * 10 + e / 1 % 10) (two (e / 10) (less e h))
        ∙ ap (λ (z : ℕ). e / 10 * 10 + z % 10) (div-one e)
        ∙ one e

-- ---- point, mark and sign of the exponent

to_point : (s : Bool) (q : ℕ) → step (st Whole s q 0 false 0) 46 ≡ Some (st Fraction s q 0 false 0)
unfolding step step_at in_whole digit_of moved
to_point s q = refl

to_mark : (s : Bool) (d : ℕ) → step (st Fraction s d 16 false 0) 101 ≡ Some (st Mark s d 16 false 0)
unfolding step step_at in_fraction digit_of mark moved
to_mark s d = refl

to_minus : (s : Bool) (d : ℕ) → step (st Mark s d 16 false 0) 45 ≡ Some (st MarkSign s d 16 true 0)
unfolding step step_at after_mark minus_exponent
to_minus s d = refl

to_plus : (s : Bool) (d : ℕ) → step (st Mark s d 16 false 0) 43 ≡ Some (st MarkSign s d 16 false 0)
unfolding step step_at after_mark moved
to_plus s d = refl

-- what the exponent of 10 ^ (t - 324) is: whether it is below zero, and its size
abbrev pub below : ℕ → Bool
below t = t <? 324

abbrev pub size_of : ℕ → ℕ
size_of t = cond (t <? 324) (324 - t) (t - 324)

exponent_back : (s : Bool) (d t i : ℕ) → t ≤ 700 → scan (st Fraction s d 16 false 0) i (exponent_text t) ≡ Ok (number_of (st Exponent s d 16 (below t) (size_of t)))
unfolding exponent_text
exponent_back s d t i h = go (t <? 324)
  where
    go : (b : Bool) → scan (st Fraction s d 16 false 0) i (cond b (101 ∷ 45 ∷ digits_text 3 (324 - t)) (101 ∷ 43 ∷ digits_text 3 (t - 324))) ≡ Ok (number_of (st Exponent s d 16 b (cond b (324 - t) (t - 324))))
    go true =
        onto (st Fraction s d 16 false 0) (st Mark s d 16 false 0) 101 i (45 ∷ digits_text 3 (324 - t)) (to_mark s d)
        ∙ onto (st Mark s d 16 false 0) (st MarkSign s d 16 true 0) 45 (suc i) (digits_text 3 (324 - t)) (to_minus s d)
        ∙ exponent_digits s true d 16 (suc (suc i)) (324 - t) (omega arith)
    go false =
        onto (st Fraction s d 16 false 0) (st Mark s d 16 false 0) 101 i (43 ∷ digits_text 3 (t - 324)) (to_mark s d)
        ∙ onto (st Mark s d 16 false 0) (st MarkSign s d 16 false 0) 43 (suc i) (digits_text 3 (t - 324)) (to_plus s d)
        ∙ exponent_digits s false d 16 (suc (suc i)) (t - 324) (omega arith)

-- ---- from the first digit on

rest_back : (s : Bool) (d t i : ℕ) → d < 10 ^ 17 → t ≤ 700
    → scan (st Whole s (d / 10 ^ 16) 0 false 0) i (46 ∷ digits_text 16 (d % 10 ^ 16) ++ exponent_text t) ≡ Ok (number_of (st Exponent s d 16 (below t) (size_of t)))
rest_back s d t i h k =
    onto (st Whole s (d / 10 ^ 16) 0 false 0) (st Fraction s (d / 10 ^ 16) 0 false 0) 46 i (digits_text 16 (d % 10 ^ 16) ++ exponent_text t) (to_point s (d / 10 ^ 16))
    ∙ fraction_digits 16 (d % 10 ^ 16) s (d / 10 ^ 16) 0 (suc i) (exponent_text t) (room d h)
    ∙ ap (λ (z : ℕ). scan (st Fraction s z 16 false 0) (suc i + 16) (exponent_text t)) (ap (λ (z : ℕ). d / 10 ^ 16 * 10 ^ 16 + z) (mod-eq_of_lt (mod-lt d (ten_pos 16))) ∙ div-add-mod' d (10 ^ 16))
    ∙ exponent_back s d t (suc i + 16) k
  where
    room : (d : ℕ) → d < 10 ^ 17 → suc (d / 10 ^ 16) * 10 ^ 16 ≤ 10 ^ 18
    room d h = omega arith

first_text : (q : ℕ) (t : List ℕ) → q < 10 → digits_text 1 q ++ t ≡ (48 + q) ∷ t
unfolding digits_text
first_text q t h = ap (λ (z : ℕ). (48 + z) ∷ t) (ap (λ (z : ℕ). z % 10) (div-one q) ∙ mod-eq_of_lt h)

pub text_back : (s : Bool) (d : Decimal) → 10 ^ 16 ≤ d.digits → d.digits < 10 ^ 17 → d.tens ≤ 700
    → read_of (sign_text s ++ decimal_text d) ≡ Ok (number_of (st Exponent s d.digits 16 (below d.tens) (size_of d.tens)))
unfolding read_of decimal_text nothing
text_back true d l h k =
    let q : ℕ = d.digits / 10 ^ 16 in
    let t : List ℕ = 46 ∷ digits_text 16 (d.digits % 10 ^ 16) ++ exponent_text d.tens in
    onto nothing (st Sign true 0 0 false 0) 45 0 (digits_text 1 q ++ t) (unfold step step_at at_start minus nothing in refl)
    ∙ ap (λ (z : List ℕ). scan (st Sign true 0 0 false 0) 1 z) (first_text q t (one d.digits h))
    ∙ onto (st Sign true 0 0 false 0) (st Whole true q 0 false 0) (48 + q) 1 t (sign_digit q (one d.digits h))
    ∙ rest_back true d.digits d.tens 2 h k
  where
    one : (d : ℕ) → d < 10 ^ 17 → d / 10 ^ 16 < 10
    one d h = omega arith
text_back false d l h k =
    let q : ℕ = d.digits / 10 ^ 16 in
    let t : List ℕ = 46 ∷ digits_text 16 (d.digits % 10 ^ 16) ++ exponent_text d.tens in
    ap (λ (z : List ℕ). scan nothing 0 z) (first_text q t (one d.digits h))
    ∙ onto nothing (st Whole false q 0 false 0) (48 + q) 0 t (start_digit q (some d.digits l) (one d.digits h))
    ∙ rest_back false d.digits d.tens 1 h k
  where
    one : (d : ℕ) → d < 10 ^ 17 → d / 10 ^ 16 < 10
    one d h = omega arith

    some : (d : ℕ) → 10 ^ 16 ≤ d → 0 < d / 10 ^ 16
    some d l = omega arith
