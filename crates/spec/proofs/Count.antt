-- Each outcome of `window_count`, from what the code tests: some power of k up to the last is above 256, or none is. Assumes nothing.
use mathlib.Core.Path.{◌≡◌}
use Prim.Native.Nat.{ℕ, suc, ◌^◌, ◌<◌, ◌≤◌, suc-le-suc}
use Rattle.std.specs.Prelude.{Ok, Err}
use native.Mathlib.Nat.{pow-suc, pow-zero, one-mul, pow-le-pow_right}
use native.Mathlib.Omega.{arith}
use borrow.Author.Tests.{lt-ltb, le-ltb}
use Rattle.refusal.specs.declared.Refusal.TheVariants.{FewRegimes, ManyWindows, ManyRegimes}
use Rattle.spec.specs.Spec.{spec_check, window_count}

pub few : (k p : ℕ) → k < 2 → Err (FewRegimes k) ≡ window_count k p
unfolding window_count spec_check
few k p h = rw (lt-ltb k 2 h)

pub many : (k p j : ℕ) → 2 ≤ k → j ≤ p → 256 < k ^ suc j → Err (ManyWindows k) ≡ window_count k p
unfolding window_count spec_check
many k p j h le l =
    let pos : 0 < k = omega arith in
    let up : k ^ suc j ≤ k ^ suc p = pow-le-pow_right pos (suc-le-suc le) in
    let big : 256 < k ^ suc p = omega arith in
    rw (le-ltb k 2 h, lt-ltb 256 (k ^ suc p) big)

pub wide : (k p : ℕ) → 2 ≤ k → k ^ suc p ≤ 256 → 16 < k → Err (ManyRegimes k) ≡ window_count k p
unfolding window_count spec_check
wide k p h u l = rw (le-ltb k 2 h, le-ltb 256 (k ^ suc p) u, lt-ltb 16 k l)

pub fits : (k p m : ℕ) → 2 ≤ k → m ≡ k ^ suc p → m ≤ 256 → k ≤ 16 → Ok m ≡ window_count k p
unfolding window_count spec_check
fits k p m h e u l =
    let u' : k ^ suc p ≤ 256 = omega arith in
    rw (le-ltb k 2 h, le-ltb 256 (k ^ suc p) u', le-ltb 16 k l, e)

pub pow_one : (k : ℕ) → k ≡ k ^ suc 0
pow_one k = rw (pow-suc, pow-zero, one-mul)
