-- A number as text: what text is a number, and which; of any other text, the place of the first byte at fault, the text's length where it ends
-- too early. The value is the exact fraction, rounded once by lib.Ieee's `round`. The grammar is text_decimal_grammar's.
use Rattle.std.specs.Prelude.{ℕ, suc, ◌+◌, ◌*◌, ◌^◌, List, [], ◌∷◌, Float, if◌then◌else◌, Option, Some, None, Result, Ok, Err}
use Rattle.std.specs.Float.{nan, inf, binary64}
use Rattle.std.specs.Float.Ieee.{round}
use Rattle.number.specs.Number.{◌=?◌, float}
use Rattle.text_decimal_grammar.specs.declared.Place.{Place}
use Rattle.text_decimal_grammar.specs.declared.Place.TheVariants.{Start, Sign, Zero, Whole, Point, Fraction, Mark, MarkSign, Exponent, I, In, Inf, N, Na, Nan, Hex}
use Rattle.text_decimal_grammar.specs.declared.State.{State}
use Rattle.text_decimal_grammar.specs.Grammar.{nothing, step}

-- ---- the value

unfoldable pub number_of : State → Float
unfolding round
number_of s =
    if s.under then round binary64 s.negative (s.digits * 10 ^ s.up) (10 ^ (s.down + s.exponent))
    else round binary64 s.negative (s.digits * 10 ^ (s.up + s.exponent)) (10 ^ s.down)

-- a text of n bytes has ended
unfoldable pub finish_at : Place → State → ℕ → Result Float ℕ
unfolding number_of
finish_at Start s n = Err n
finish_at Sign s n = Err n
finish_at Zero s n = Ok (number_of s)
finish_at Whole s n = Ok (number_of s)
finish_at Point s n = Err n
finish_at Fraction s n = Ok (number_of s)
finish_at Mark s n = Err n
finish_at MarkSign s n = Err n
finish_at Exponent s n = Ok (number_of s)
finish_at I s n = Err n
finish_at In s n = Err n
finish_at Inf s n = Ok (inf s.negative)
finish_at N s n = Err n
finish_at Na s n = Err n
finish_at Nan s n = Ok nan
finish_at (Hex k) s n = if k =? 16 then Ok (float s.digits) else Err n

-- ---- the whole text

abbrev pub onward : Option State → ℕ → (State → Result Float ℕ) → Result Float ℕ
onward (Some s) n more = more s
onward None n more = Err n

-- the text from place n on
unfoldable pub scan : State → ℕ → List ℕ → Result Float ℕ
unfolding step finish_at
scan s n [] = finish_at s.place s n
scan s n (c ∷ t) = onward (step s c) n (λ next. scan next (suc n) t)

unfoldable pub read_of : List ℕ → Result Float ℕ
unfolding nothing scan
read_of t = scan nothing 0 t
