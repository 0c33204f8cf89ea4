-- A factor with its sign turned gives the product with its sign turned, so that what is added is taken away. Assumes nothing.
use Prim.Native.Nat.{◌*◌}
use mathlib.Core.Path.{◌≡◌, refl, sym}
use mathlib.Core.Bool.{Bool, true, false, not, cond}
use lib.Dec.{eqb}
use lib.Ieee.{Float, nan, inf, fin, binary64, unlike, up, down, neg, mul, sub}
use Rattle.number.specs.Number.{◌⊕◌, ◌⊖◌, ◌⊗◌}
use Rattle.rounding.proofs.Negate.{neg_round}

turned_sign : (s t : Bool) → unlike (not s) t ≡ not (unlike s t)
turned_sign true true = refl
turned_sign true false = refl
turned_sign false true = refl
turned_sign false false = refl

turned_either : (b s t : Bool) → cond b nan (inf (unlike (not s) t)) ≡ neg (cond b nan (inf (unlike s t)))
unfolding neg
turned_either true s t = refl
turned_either false s t = rw (turned_sign s t)

turned_product : (x y : Float) → neg x ⊗ y ≡ neg (x ⊗ y)
unfolding neg mul
turned_product nan y = refl
turned_product (inf s) nan = refl
turned_product (inf s) (inf t) = rw (turned_sign s t)
turned_product (inf s) (fin t n d) = turned_either (eqb n 0) s t
turned_product (fin s m e) nan = refl
turned_product (fin s m e) (inf t) = turned_either (eqb m 0) s t
turned_product (fin s m e) (fin t n d) = rw (turned_sign s t) (sym (neg_round binary64 (unlike s t) (m * up e * (n * up d)) (down e * down d)))

pub less_is : (x f d : Float) → x ⊕ neg f ⊗ d ≡ x ⊖ f ⊗ d
unfolding sub
less_is x f d = rw (turned_product f d)
