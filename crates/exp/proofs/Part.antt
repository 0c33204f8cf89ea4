-- For |hi| ≤ 3/8 and |lo| ≤ 1/1024, `exp_part hi lo` is finite, above zero, and from 351/1024 to 1697/1024. Assumes nothing.
use mathlib.Core.Bool.{false}
use lib.Dec.{T, lit<, lit≤}
use lib.Ieee.{Float, binary64, fits, of_bits}
use lib.Ieee.Fits.{sub-fits}
use Rattle.number.specs.Number.{◌⊖◌, ◌⊗◌, ◌⊘◌, two}
use Rattle.number.specs.Table.{◌!◌}
use Rattle.rounding.proofs.Intervals.{Up, Lo, exact, wider, nearer, up_mul, up_add, up_sub, up_div, lo_sub}
use Rattle.rounding.proofs.Constants.{one_up, one_lo, two_up, two_lo}
use Rattle.exp.specs.Exp.{exp_p, exp_poly, exp_part}

-- the table's entries
p5 : Up (exp_p ! 4) 1 256
unfolding of_bits
p5 = record { pos = lit< tt; is = lit≤ tt }

p4 : Up (exp_p ! 3) 4 1024
unfolding of_bits
p4 = record { pos = lit< tt; is = lit≤ tt }

p3 : Up (exp_p ! 2) 16 4096
unfolding of_bits
p3 = record { pos = lit< tt; is = lit≤ tt }

p2 : Up (exp_p ! 1) 64 16384
unfolding of_bits
p2 = record { pos = lit< tt; is = lit≤ tt }

p1 : Up (exp_p ! 0) 12288 65536
unfolding of_bits
p1 = record { pos = lit< tt; is = lit≤ tt }

-- for |t| ≤ 1/4 the polynomial is at most 1/16 in size
pub poly_bound : (t : Float) → Up t 1 4 → Up (exp_poly t) 1 16
unfolding exp_poly exact
poly_bound t h = wider 1 16 tt (up_mul tt h (up_add tt p1 (up_mul tt h (up_add tt p2 (up_mul tt h (up_add tt p3 (up_mul tt h (up_add tt p4 (up_mul tt h p5)))))))))

pub record Bounded (y : Float) : Type 0 where
  pub from : Lo false y 351 1024
  pub within : Up y 1697 1024

pub part_bound : (hi lo : Float) → Up hi 384 1024 → Up lo 1 1024 → Bounded (exp_part hi lo)
unfolding exp_part exact
part_bound hi lo h l =
    let x : Float = hi ⊖ lo in
    let hx : Up x 1 2 = wider 1 2 tt (up_sub tt h l) in
    let c : Float = x ⊖ exp_poly (x ⊗ x) in
    let hc : Up c 9 16 = up_sub tt (wider 8 16 tt hx) (poly_bound (x ⊗ x) (up_mul tt hx hx)) in
    let ld : Lo false (two ⊖ c) 1 1 = nearer 1 1 tt (lo_sub tt two_lo hc (up_sub tt two_up hc)) in
    let q : Up (x ⊗ c ⊘ (two ⊖ c)) 9 32 = up_div tt (up_mul tt hx hc) ld in
    let z : Up (lo ⊖ x ⊗ c ⊘ (two ⊖ c) ⊖ hi) 673 1024 = up_sub tt (up_sub tt l (wider 288 1024 tt q)) h in
    record { from = lo_sub tt one_lo z (up_sub tt one_up z); within = up_sub tt one_up z }

pub part_fits : (hi lo : Float) → T (fits binary64 (exp_part hi lo))
unfolding exp_part
part_fits hi lo = sub-fits binary64 _ _
