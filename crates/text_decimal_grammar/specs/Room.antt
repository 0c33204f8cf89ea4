-- What is true of a state that a text leads to. No entry point's contract cites it.
use Rattle.std.specs.Prelude.{ℕ, ◌+◌, ◌*◌, ◌≤◌, ◌<◌, ◌^◌}
use Rattle.text_decimal_grammar.specs.declared.Place.{Place}
use Rattle.text_decimal_grammar.specs.declared.Place.TheVariants.{Start, Sign, Zero, Whole, Point, Fraction, Mark, MarkSign, Exponent, I, In, Inf, N, Na, Nan, Hex}
use Rattle.text_decimal_grammar.specs.declared.State.{State}

-- before any digit there is zero, and n hexadecimal digits are that many
abbrev pub Held : Place → ℕ → Type 0
Held Start d = d < 1
Held Sign d = Prim.Unit
Held Zero d = d < 1
Held Whole d = Prim.Unit
Held Point d = Prim.Unit
Held Fraction d = Prim.Unit
Held Mark d = Prim.Unit
Held MarkSign d = Prim.Unit
Held Exponent d = Prim.Unit
Held I d = Prim.Unit
Held In d = Prim.Unit
Held Inf d = Prim.Unit
Held N d = Prim.Unit
Held Na d = Prim.Unit
Held Nan d = Prim.Unit
Held (Hex n) d = d < 2 ^ (4 * n)

-- there is room for one byte more
pub record Room (s : State) : Type 0 where
  pub counts : s.up + s.down < 2 ^ 63
  pub small : s.exponent ≤ 400
  pub held : Held s.place s.digits
