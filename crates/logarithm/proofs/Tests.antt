-- One test for either of two things, as the code's `|` makes it, and the definition's two tests one after the other. Assumes nothing.
use mathlib.Core.Path.{◌≡◌, refl}
use mathlib.Core.Bool.{Bool, true, false, ◌||◌, cond, true≢false}

-- both lead to the same
pub either : {A : Type 0} (p q : Bool) (x y : A) → (p || q) ≡ true → cond p x (cond q x y) ≡ x
either true q x y h = refl
either false true x y h = refl
either false false x y h = cc

pub neither : {A : Type 0} (p q : Bool) (x y : A) → (p || q) ≡ false → cond p x (cond q x y) ≡ y
neither true q x y h = cc
neither false true x y h = cc
neither false false x y h = refl

-- the first holds, where the second does not; or neither does
pub first : (p q : Bool) → (p || q) ≡ true → q ≡ false → p ≡ true
first true q h k = refl
first false q h k = cc

pub none : (p q : Bool) → (p || q) ≡ false → (p ≡ false) × (q ≡ false)
none true q h = absurd (true≢false h)
none false q h = (refl, h)
