-- Sizes whose four numbers are equal are equal: what their type says of the numbers has one proof. Assumes nothing.
use Prim.Native.Nat.{ℕ, suc, ◌^◌, ◌≤◌}
use mathlib.Core.Path.{◌≡◌}
use mathlib.Core.HLevel.{is_prop→PathP}
use Rattle.std.proofs.Math.Bridge.{le_prop}
use Rattle.std.proofs.Math.Nat.{ℕ_set}
use Rattle.window.specs.Shape.{Shape}
use Rattle.window.specs.declared.sizes.Sizes.{Sizes}

shape_prop : (k p : ℕ) → IsProp (Shape k p)
shape_prop k p s t = λ i. record { low = le_prop s.low t.low i; high = le_prop s.high t.high i; few = le_prop s.few t.few i }

pub same_sizes : (s t : Sizes) → s.k ≡ t.k → s.order ≡ t.order → s.power ≡ t.power → s.windows ≡ t.windows → s ≡ t
same_sizes s t a b c d =
    λ i. record {
      k = a i;
      order = b i;
      power = c i;
      windows = d i;
      shape = is_prop→PathP (λ j. Shape (a j) (b j)) (λ j. shape_prop (a j) (b j)) s.shape t.shape i;
      few_lags = is_prop→PathP (λ j. b j ≤ 7) (λ j. le_prop) s.few_lags t.few_lags i;
      power_value = is_prop→PathP (λ j. c j ≡ a j ^ b j) (λ j. ℕ_set (c j) (a j ^ b j)) s.power_value t.power_value i;
      windows_value = is_prop→PathP (λ j. d j ≡ a j ^ suc (b j)) (λ j. ℕ_set (d j) (a j ^ suc (b j))) s.windows_value t.windows_value i;
    }
