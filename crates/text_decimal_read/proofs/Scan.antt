-- The loop that reads a text: what is left of the text leads where the whole text does, and there is room for each byte. Assumes nothing.
use mathlib.Core.Path.{◌≡◌, refl, sym, ap, ◌∙◌, subst}
use mathlib.Core.Bool.{Bool, true, false, not, cond}
use mathlib.Core.List.{List}
use Prim.Native.Nat.{ℕ, suc, ◌+◌, ◌*◌, ◌^◌, ◌≤◌, ◌<◌}
use native.Mathlib.Omega.{arith}
use lib.Dec.{T, ltb, eqb, nltb→le}
use lib.Pow.{pow-add}
use lib.ListN.{length, get_or, drop, drop_of_length-le}
use lib.Seq.{drop-cons}
use Rattle.text_decimal_grammar.specs.declared.Place.{Place}
use Rattle.text_decimal_grammar.specs.declared.Place.TheVariants.{Start, Sign, Zero, Whole, Point, Fraction, Mark, MarkSign, Exponent, I, In, Inf, N, Na, Nan, Hex}
use Rattle.text_decimal_grammar.specs.declared.State.{State}
use Rattle.std.proofs.Common.{Option, Some, None, Err}
use Rattle.text_decimal_grammar.specs.Grammar.{by_digit, digit_of, hex_of, nothing, moved, minus, minus_exponent, whole_digit, fraction_digit, exponent_digit, hex_digit, mark, after_sign, at_start, in_whole, after_zero, after_point, in_fraction, in_exponent, after_mark, in_word, in_hex, step_at, step}
use Rattle.text_decimal_read.specs.Text.{finish_at, onward, scan, read_of}
use Rattle.text_decimal_grammar.specs.Room.{Held, Room}

-- ---- digits

hex_below : (c d : ℕ) → hex_of c ≡ Some d → d < 16
unfolding hex_of digit_of
hex_below c d e = grind arith

-- ---- a byte more counts one at most

-- after n bytes
pub record Counted (s : State) (n : ℕ) : Type 0 where
  pub counts : s.up + s.down ≤ n
  pub small : s.exponent ≤ 400
  pub held : Held s.place s.digits

abbrev Keeps : Option State → ℕ → Type 0
Keeps (Some s) n = Counted s n
Keeps None n = Prim.Unit

choose : (b : Bool) (x y : Option State) (n : ℕ) → (T b → Keeps x n) → (T (not b) → Keeps y n) → Keeps (cond b x y) n
choose true x y n f g = f tt
choose false x y n f g = g tt

digit : (o : Option ℕ) (f : ℕ → Option State) (x : Option State) (n : ℕ) → ((d : ℕ) → o ≡ Some d → Keeps (f d) n) → Keeps x n → Keeps (by_digit o f x) n
digit (Some d) f x n g h = g d refl
digit None f x n g h = h

more : (a b n : ℕ) → a + b ≤ n → a + b ≤ suc n
more a b n h = omega arith

module _ (s : State) (n : ℕ) (h : Counted s n) where
  kept : (p : Place) → Held p s.digits → Counted (moved s p) (suc n)
  unfolding moved
  kept p k = record { counts = more s.up s.down n h.counts; small = h.small; held = k }

  keeps_whole : (d : ℕ) → Keeps (whole_digit s d) (suc n)
  unfolding whole_digit
  keeps_whole d =
      choose (ltb s.digits (10 ^ 18)) _ _ (suc n) (λ t. record { counts = more s.up s.down n h.counts; small = h.small; held = tt })
      (λ t. choose (eqb d 0) _ _ (suc n) (λ u. record { counts = up_one s.up s.down n h.counts; small = h.small; held = tt }) (λ u. tt))
    where
      up_one : (a b n : ℕ) → a + b ≤ n → a + 1 + b ≤ suc n
      up_one a b n h = omega arith

  keeps_fraction : (d : ℕ) → Keeps (fraction_digit s d) (suc n)
  unfolding fraction_digit
  keeps_fraction d =
      choose (ltb s.digits (10 ^ 18)) _ _ (suc n) (λ t. record { counts = down_one s.up s.down n h.counts; small = h.small; held = tt })
      (λ t. choose (eqb d 0) _ _ (suc n) (λ u. kept Fraction tt) (λ u. tt))
    where
      down_one : (a b n : ℕ) → a + b ≤ n → a + (b + 1) ≤ suc n
      down_one a b n h = omega arith

  keeps_exponent : (d : ℕ) → Keeps (exponent_digit s d) (suc n)
  unfolding exponent_digit
  keeps_exponent d =
      choose (ltb 400 (s.exponent * 10 + d)) _ _ (suc n) (λ t. tt)
      (λ t. record { counts = more s.up s.down n h.counts; small = nltb→le 400 (s.exponent * 10 + d) t; held = tt })

  keeps_mark : (c : ℕ) → Keeps (mark s c) (suc n)
  unfolding mark
  keeps_mark c = choose (eqb c 101) _ _ (suc n) (λ t. kept Mark tt) (λ t. choose (eqb c 69) _ _ (suc n) (λ u. kept Mark tt) (λ u. tt))

  keeps_sign : (c : ℕ) → Keeps (after_sign s c) (suc n)
  unfolding after_sign
  keeps_sign c =
      digit (digit_of c) _ _ (suc n) (λ d e. keeps_whole d)
      (choose (eqb c 46) _ _ (suc n) (λ u. kept Point tt) (λ u. choose (eqb c 105) _ _ (suc n) (λ v. kept I tt) (λ v. choose (eqb c 110) _ _ (suc n) (λ w. kept N tt) (λ w. tt))))

  keeps_start : (c : ℕ) → s.digits < 1 → Keeps (at_start s c) (suc n)
  unfolding at_start minus
  keeps_start c k =
      choose (eqb c 43) _ _ (suc n) (λ t. kept Sign tt)
      (λ t.
      choose (eqb c 45) _ _ (suc n) (λ u. record { counts = more s.up s.down n h.counts; small = h.small; held = tt })
      (λ u. choose (eqb c 48) _ _ (suc n) (λ v. kept Zero k) (λ v. keeps_sign c)))

  keeps_in_whole : (c : ℕ) → Keeps (in_whole s c) (suc n)
  unfolding in_whole
  keeps_in_whole c =
      digit (digit_of c) _ _ (suc n) (λ d e. keeps_whole d) (choose (eqb c 46) _ _ (suc n) (λ u. kept Fraction tt) (λ u. keeps_mark c))

  keeps_zero : (c : ℕ) → s.digits < 1 → Keeps (after_zero s c) (suc n)
  unfolding after_zero
  keeps_zero c k = choose (eqb c 120) _ _ (suc n) (λ t. kept (Hex 0) k) (λ t. keeps_in_whole c)

  keeps_point : (c : ℕ) → Keeps (after_point s c) (suc n)
  unfolding after_point
  keeps_point c = digit (digit_of c) _ _ (suc n) (λ d e. keeps_fraction d) tt

  keeps_in_fraction : (c : ℕ) → Keeps (in_fraction s c) (suc n)
  unfolding in_fraction
  keeps_in_fraction c = digit (digit_of c) _ _ (suc n) (λ d e. keeps_fraction d) (keeps_mark c)

  keeps_in_exponent : (c : ℕ) → Keeps (in_exponent s c) (suc n)
  unfolding in_exponent
  keeps_in_exponent c = digit (digit_of c) _ _ (suc n) (λ d e. keeps_exponent d) tt

  keeps_after_mark : (c : ℕ) → Keeps (after_mark s c) (suc n)
  unfolding after_mark minus_exponent
  keeps_after_mark c =
      choose (eqb c 43) _ _ (suc n) (λ t. kept MarkSign tt)
      (λ t.
      choose (eqb c 45) _ _ (suc n) (λ u. record { counts = more s.up s.down n h.counts; small = h.small; held = tt })
      (λ u. keeps_in_exponent c))

  keeps_word : (c letter : ℕ) (p : Place) → Held p s.digits → Keeps (in_word s c letter p) (suc n)
  unfolding in_word
  keeps_word c letter p k = choose (eqb c letter) _ _ (suc n) (λ t. kept p k) (λ t. tt)

  keeps_hex : (c k : ℕ) → s.digits < 2 ^ (4 * k) → Keeps (in_hex s c k) (suc n)
  unfolding in_hex hex_digit
  keeps_hex c k d =
      choose (ltb k 16) _ _ (suc n)
      (λ t.
      digit (hex_of c) _ _ (suc n)
      (λ x e.
      record {
        counts = more s.up s.down n h.counts;
        small = h.small;
        held = (subst (λ (z : ℕ). s.digits * 16 + x < z) (sym (ap (λ (z : ℕ). 2 ^ z) (four k) ∙ pow-add 2 (4 * k) 4)) (next s.digits x (2 ^ (4 * k)) d (hex_below c x e)));
      })
      tt)
      (λ t. tt)
    where
      four : (k : ℕ) → 4 * (k + 1) ≡ 4 * k + 4
      four k = omega arith

      next : (d x p : ℕ) → d < p → x < 16 → d * 16 + x < p * 16
      next d x p a b = omega arith

  keeps_at : (p : Place) (c : ℕ) → Held p s.digits → Keeps (step_at p s c) (suc n)
  unfolding step_at
  keeps_at Start c k = keeps_start c k
  keeps_at Sign c k = keeps_sign c
  keeps_at Zero c k = keeps_zero c k
  keeps_at Whole c k = keeps_in_whole c
  keeps_at Point c k = keeps_point c
  keeps_at Fraction c k = keeps_in_fraction c
  keeps_at Mark c k = keeps_after_mark c
  keeps_at MarkSign c k = keeps_in_exponent c
  keeps_at Exponent c k = keeps_in_exponent c
  keeps_at I c k = keeps_word c 110 In tt
  keeps_at In c k = keeps_word c 102 Inf tt
  keeps_at Inf c k = tt
  keeps_at N c k = keeps_word c 97 Na tt
  keeps_at Na c k = keeps_word c 110 Nan tt
  keeps_at Nan c k = tt
  keeps_at (Hex m) c k = keeps_hex c m k

  keeps : (c : ℕ) → Keeps (step s c) (suc n)
  unfolding step
  keeps c = keeps_at s.place c h.held

-- ---- the loop

pub record Scanned (text : List ℕ) (s : State) (n : ℕ) : Type 0 where
  pub most : n ≤ length text
  pub counted : Counted s n
  pub is : scan s n (drop n text) ≡ read_of text

pub first : (text : List ℕ) (s : State) → s ≡ nothing → Scanned text s 0
unfolding read_of nothing
first text s e =
    subst (λ (z : State). Scanned text z 0) (sym e) (record { most = omega arith; counted = record { counts = omega arith; small = omega arith; held = omega arith }; is = refl })

pub room : (text : List ℕ) (s : State) (n : ℕ) → Scanned text s n → length text < 2 ^ 63 → Room s
room text s n h l = record { counts = less (s.up + s.down) n (length text) h.counted.counts h.most l; small = h.counted.small; held = h.counted.held }
  where
    less : (a n l : ℕ) → a ≤ n → n ≤ l → l < 2 ^ 63 → a < 2 ^ 63
    less a n l h k m = omega arith

one_more : (text : List ℕ) (s : State) (n : ℕ) → n < length text → scan s n (drop n text) ≡ onward (step s (get_or text n 0)) n (λ next. scan next (suc n) (drop (suc n) text))
unfolding scan
one_more text s n h = ap (λ (t : List ℕ). scan s n t) (drop-cons text n 0 h)

pub next : (text : List ℕ) (s s' : State) (n : ℕ) → Scanned text s n → n < length text → step s (get_or text n 0) ≡ Some s' → Scanned text s' (suc n)
next text s s' n h l e =
    record {
      most = l;
      counted = subst (λ (x : Option State). Keeps x (suc n)) e (keeps s n h.counted (get_or text n 0));
      is = (sym (one_more text s n l ∙ ap (λ (x : Option State). onward x n (λ next. scan next (suc n) (drop (suc n) text))) e) ∙ h.is);
    }

pub fault : (text : List ℕ) (s : State) (n : ℕ) → Scanned text s n → n < length text → step s (get_or text n 0) ≡ None → Err n ≡ read_of text
fault text s n h l e = sym (one_more text s n l ∙ ap (λ (x : Option State). onward x n (λ next. scan next (suc n) (drop (suc n) text))) e) ∙ h.is

pub last : (text : List ℕ) (s : State) (n : ℕ) → Scanned text s n → length text ≤ n → finish_at s.place s n ≡ read_of text
unfolding scan
last text s n h l = ap (λ (t : List ℕ). scan s n t) (sym (drop_of_length-le text l)) ∙ h.is
