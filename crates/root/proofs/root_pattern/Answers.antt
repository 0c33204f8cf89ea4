-- `root_pattern`: a number, or a subnormal one moved up, is sig * 2^(ex - 2098).
use Rattle.std.proofs.Common.{sym, ap, ◌∙◌, arith}
use Rattle.number.specs.Number.{float}
use Rattle.root.specs.Root.{root_pattern, root_square}
use Rattle.root.proofs.Scaled.{Moved, moved, shift_of, Scaled, subnormal, normal}
use Rattle.root.proofs.root_pattern.Goals.{Joined-b-lt4503599627370496, Then-b-lt4503599627370496, then-b-lt4503599627370496, else-b-lt4503599627370496}
use Rattle.root.proofs.root_pattern.Goals as goal

low : (c : Then-b-lt4503599627370496) → Moved c.args.b (shift_of c.args.b)
low c = moved c.args.b c.requires.0 c.if-b-lt4503599627370496.true

scaled : (c : Joined-b-lt4503599627370496) → Scaled (root_square (float c.args.b)) c.if-b-lt4503599627370496.sig c.if-b-lt4503599627370496.ex
scaled c =
    let b = c.args.b in
    elim c.if-b-lt4503599627370496.branch [
      | then-b-lt4503599627370496 w ↦ rw (w.sig-is, w.ex-is, (moved b c.requires.0 w.if-b-lt4503599627370496.true).kept) (subnormal b c.requires.0 w.if-b-lt4503599627370496.true)
      | else-b-lt4503599627370496 w ↦ rw (w.sig-is, w.ex-is) (normal b w.if-b-lt4503599627370496.false c.requires.1)
    ]

pub overflow_cast-s : goal.overflow_cast-s
overflow_cast-s c = let w = low c in omega arith

pub overflow_sub-s : goal.overflow_sub-s
overflow_sub-s c = let w = low c in omega arith

pub overflow_shl-sig : goal.overflow_shl-sig
overflow_shl-sig c = let w = low c in omega arith

pub overflow_sub-ex : goal.overflow_sub-ex
overflow_sub-ex c = let w = low c in omega arith

pub root_scaled-requires : goal.root_scaled-requires
root_scaled-requires c = let s = scaled c in (s.from, s.below, s.some, s.most)

pub returns : goal.returns
returns c = c.root_scaled.ensures ∙ ap root_pattern (sym (scaled c.before).is)
