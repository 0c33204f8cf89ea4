-- The grammar of a number as text: what a byte leads to.
-- A number is
--   a sign or none; digits, and a point before, among or behind them, or none; and, or not, `e` or `E`, a sign or none, and digits;
--   or a sign or none, and `inf` or `nan`;
--   or `0x` and 16 hexadecimal digits in either case, a bit pattern.
-- A sign is `+` or `-`. There is at least one digit beside the point, and at least one after `e`.
-- From the first digit that is not zero to the last that is not, a number has 19 digits at most, the exponent's left out: a digit that
-- is not zero and comes later is at fault. The exponent is from -400 to 400: the digit that leads past 400 is at fault. Zeros
-- before and after are free. Else a byte that cannot stand where it stands is at fault; and where the text ends too early, its length
-- is the place.
use Rattle.std.specs.Prelude.{ℕ, ◌+◌, ◌-◌, ◌*◌, ◌^◌, true, false, if◌then◌else◌, Option, Some, None}
use Rattle.number.specs.Number.{◌<?◌, ◌≤?◌, ◌=?◌}
use Rattle.text_decimal_grammar.specs.declared.Place.{Place}
use Rattle.text_decimal_grammar.specs.declared.Place.TheVariants.{Start, Sign, Zero, Whole, Point, Fraction, Mark, MarkSign, Exponent, I, In, Inf, N, Na, Nan, Hex}
use Rattle.text_decimal_grammar.specs.declared.State.{State}

-- ---- bytes

-- what to do with a digit, and what where there is none
abbrev pub by_digit : {A : Type 0} → Option ℕ → (ℕ → A) → A → A
by_digit (Some d) f x = f d
by_digit None f x = x

-- what a byte is as a decimal digit
unfoldable pub digit_of : ℕ → Option ℕ
digit_of c = if c <? 48 then None else (if 57 <? c then None else Some (c - 48))

-- and as a hexadecimal digit
unfoldable pub hex_of : ℕ → Option ℕ
unfolding digit_of
hex_of c =
    by_digit (digit_of c) (λ d. Some d)
    (if c <? 65 then None
    else (if c ≤? 70 then Some (c - 55)
    else (if c <? 97 then None
    else (if c ≤? 102 then Some (c - 87)
    else None))))

-- ---- what is read so far: digits * 10 ^ up / 10 ^ down, times ten to the exponent, and what came last

unfoldable pub nothing : State
nothing = record { place = Start; negative = false; digits = 0; up = 0; down = 0; under = false; exponent = 0 }

unfoldable pub moved : State → Place → State
moved s p =
    record { place = p; negative = s.negative; digits = s.digits; up = s.up; down = s.down; under = s.under; exponent = s.exponent }

unfoldable pub minus : State → State
minus s =
    record { place = Sign; negative = true; digits = s.digits; up = s.up; down = s.down; under = s.under; exponent = s.exponent }

unfoldable pub minus_exponent : State → State
minus_exponent s =
    record { place = MarkSign; negative = s.negative; digits = s.digits; up = s.up; down = s.down; under = true; exponent = s.exponent }

-- a digit before the point: up to 19 are kept, and each zero after them is a factor of ten
unfoldable pub whole_digit : State → ℕ → Option State
whole_digit s d =
    if s.digits <? 10 ^ 18
    then Some (record { place = Whole; negative = s.negative; digits = s.digits * 10 + d; up = s.up; down = s.down; under = s.under; exponent = s.exponent })
    else (if d =? 0
    then Some (record { place = Whole; negative = s.negative; digits = s.digits; up = s.up + 1; down = s.down; under = s.under; exponent = s.exponent })
    else None)

-- a digit after the point
unfoldable pub fraction_digit : State → ℕ → Option State
unfolding moved
fraction_digit s d =
    if s.digits <? 10 ^ 18
    then Some (record { place = Fraction; negative = s.negative; digits = s.digits * 10 + d; up = s.up; down = s.down + 1; under = s.under; exponent = s.exponent })
    else (if d =? 0 then Some (moved s Fraction) else None)

unfoldable pub exponent_digit : State → ℕ → Option State
exponent_digit s d =
    if 400 <? s.exponent * 10 + d then None
    else Some (record { place = Exponent; negative = s.negative; digits = s.digits; up = s.up; down = s.down; under = s.under; exponent = s.exponent * 10 + d })

unfoldable pub hex_digit : State → ℕ → ℕ → Option State
hex_digit s n d =
    Some (record { place = Hex (n + 1); negative = s.negative; digits = s.digits * 16 + d; up = s.up; down = s.down; under = s.under; exponent = s.exponent })

-- ---- one byte more, c: `+` is 43, `-` 45, `.` 46, `0` 48, `E` 69, `a` 97, `e` 101, `f` 102, `i` 105, `n` 110, `x` 120

unfoldable pub mark : State → ℕ → Option State
unfolding moved
mark s c = if c =? 101 then Some (moved s Mark) else (if c =? 69 then Some (moved s Mark) else None)

unfoldable pub after_sign : State → ℕ → Option State
unfolding digit_of whole_digit moved
after_sign s c =
    by_digit (digit_of c) (whole_digit s)
    (if c =? 46 then Some (moved s Point)
    else (if c =? 105 then Some (moved s I)
    else (if c =? 110 then Some (moved s N)
    else None)))

unfoldable pub at_start : State → ℕ → Option State
unfolding moved minus after_sign
at_start s c =
    if c =? 43 then Some (moved s Sign)
    else (if c =? 45 then Some (minus s)
    else (if c =? 48 then Some (moved s Zero)
    else after_sign s c))

unfoldable pub in_whole : State → ℕ → Option State
unfolding digit_of whole_digit moved mark
in_whole s c = by_digit (digit_of c) (whole_digit s) (if c =? 46 then Some (moved s Fraction) else mark s c)

-- the text is `0` so far
unfoldable pub after_zero : State → ℕ → Option State
unfolding moved in_whole
after_zero s c = if c =? 120 then Some (moved s (Hex 0)) else in_whole s c

unfoldable pub after_point : State → ℕ → Option State
unfolding digit_of fraction_digit
after_point s c = by_digit (digit_of c) (fraction_digit s) None

unfoldable pub in_fraction : State → ℕ → Option State
unfolding digit_of fraction_digit mark
in_fraction s c = by_digit (digit_of c) (fraction_digit s) (mark s c)

unfoldable pub in_exponent : State → ℕ → Option State
unfolding digit_of exponent_digit
in_exponent s c = by_digit (digit_of c) (exponent_digit s) None

unfoldable pub after_mark : State → ℕ → Option State
unfolding moved minus_exponent in_exponent
after_mark s c = if c =? 43 then Some (moved s MarkSign) else (if c =? 45 then Some (minus_exponent s) else in_exponent s c)

-- the next letter of a word
unfoldable pub in_word : State → ℕ → ℕ → Place → Option State
unfolding moved
in_word s c letter p = if c =? letter then Some (moved s p) else None

unfoldable pub in_hex : State → ℕ → ℕ → Option State
unfolding hex_of hex_digit
in_hex s c n = if n <? 16 then by_digit (hex_of c) (hex_digit s n) None else None

unfoldable pub step_at : Place → State → ℕ → Option State
unfolding at_start after_sign after_zero in_whole after_point in_fraction after_mark in_exponent in_word in_hex
step_at Start s c = at_start s c
step_at Sign s c = after_sign s c
step_at Zero s c = after_zero s c
step_at Whole s c = in_whole s c
step_at Point s c = after_point s c
step_at Fraction s c = in_fraction s c
step_at Mark s c = after_mark s c
step_at MarkSign s c = in_exponent s c
step_at Exponent s c = in_exponent s c
step_at I s c = in_word s c 110 In
step_at In s c = in_word s c 102 Inf
step_at Inf s c = None
step_at N s c = in_word s c 97 Na
step_at Na s c = in_word s c 110 Nan
step_at Nan s c = None
step_at (Hex n) s c = in_hex s c n

unfoldable pub step : State → ℕ → Option State
unfolding step_at
step s c = step_at s.place s c
