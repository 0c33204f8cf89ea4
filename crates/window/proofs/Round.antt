-- Labels now run round as windows follow in number. Assumes nothing.
use Prim.Native.Nat.{ℕ, suc, ◌+◌, ◌*◌, ◌/◌, ◌%◌, ◌<◌}
use mathlib.Core.Path.{◌≡◌, sym, ◌∙◌}
use native.Mathlib.Nat.{div-add-mod', suc-mul, mul-mod_left}
use native.Mathlib.Omega.{arith}
use lib.Arith.{digits_mod}

module _ (k a : ℕ) {s : ℕ} (e : s ≡ a % k) (h : s < k) where
  whole : a ≡ a / k * k + s
  whole = sym (div-add-mod' a k) ∙ rw e

  -- the next label, or the first again
  pub label_next : s + 1 < k → s + 1 ≡ (a + 1) % k
  label_next l = let w : a + 1 ≡ a / k * k + (s + 1) = omega (arith, whole) in rw w (sym (digits_mod (a / k) l))

  pub label_round : s + 1 ≡ k → 0 ≡ (a + 1) % k
  label_round l = let w : a + 1 ≡ suc (a / k) * k = rw (suc-mul (a / k) k) (omega (arith, whole)) in rw w (sym (mul-mod_left (suc (a / k)) k))
