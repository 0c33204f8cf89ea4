-- Bounds on the constants of number/specs, over the denominators that exp and log sum with. Assumes nothing.
use mathlib.Core.Path.{refl}
use mathlib.Core.Bool.{false}
use lib.Dec.{lit<, lit≤}
use lib.Ieee.{of_bits}
use Rattle.number.specs.Number.{zero⁺, half, one, two}
use Rattle.rounding.proofs.Intervals.{Up, Lo}

pub zero_up : Up zero⁺ 0 1
unfolding of_bits
zero_up = record { pos = lit< tt; is = lit≤ tt }

pub half_up : Up half 1 2
unfolding of_bits
half_up = record { pos = lit< tt; is = lit≤ tt }

pub one_up : Up one 1024 1024
unfolding of_bits
one_up = record { pos = lit< tt; is = lit≤ tt }

pub one_lo : Lo false one 1024 1024
unfolding of_bits
one_lo = record { is = (refl, lit≤ tt) }

pub two_up : Up two 32 16
unfolding of_bits
two_up = record { pos = lit< tt; is = lit≤ tt }

pub two_lo : Lo false two 32 16
unfolding of_bits
two_lo = record { is = (refl, lit≤ tt) }
