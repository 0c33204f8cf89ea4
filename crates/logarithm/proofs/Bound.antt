-- For |f| ≤ 7/16 and |k| ≤ 1075, each way that the logarithm ends is at most 746 in size. Assumes nothing.
use mathlib.Core.Bool.{Bool, true, false, cond}
use Prim.Native.Nat.{ℕ}
use lib.Dec.{lit<, lit≤}
use lib.Ieee.{Float, of_bits, eq}
use Rattle.number.specs.Number.{◌<?◌, ◌=?◌, ◌⊕◌, ◌⊖◌, ◌⊗◌, ◌⊘◌, zero⁺, half, two}
use Rattle.number.specs.Table.{◌!◌}
use Rattle.rounding.proofs.Intervals.{Up, Lo, exact, wider, up_mul, up_add, up_sub, lo_add, up_div_to}
use Rattle.rounding.proofs.Constants.{zero_up, half_up, two_up, two_lo}
use Rattle.logarithm.specs.Log.{log_l, ln2_hi, ln2_lo, third, dk_of, log_poly, log_close, log_mid, log_out, log_far}

-- ---- the constants

l0 : Up (log_l ! 0) 11264 16384
unfolding of_bits
l0 = record { pos = lit< tt; is = lit≤ tt }

l1 : Up (log_l ! 1) 448 1024
unfolding of_bits
l1 = record { pos = lit< tt; is = lit≤ tt }

l2 : Up (log_l ! 2) 768 2048
unfolding of_bits
l2 = record { pos = lit< tt; is = lit≤ tt }

l3 : Up (log_l ! 3) 16 64
unfolding of_bits
l3 = record { pos = lit< tt; is = lit≤ tt }

l4 : Up (log_l ! 4) 32 128
unfolding of_bits
l4 = record { pos = lit< tt; is = lit≤ tt }

l5 : Up (log_l ! 5) 1 4
unfolding of_bits
l5 = record { pos = lit< tt; is = lit≤ tt }

l6 : Up (log_l ! 6) 1 4
unfolding of_bits
l6 = record { pos = lit< tt; is = lit≤ tt }

hi_up : Up ln2_hi 45427 65536
unfolding of_bits
hi_up = record { pos = lit< tt; is = lit≤ tt }

lo_up : Up ln2_lo 1 4194304
unfolding of_bits
lo_up = record { pos = lit< tt; is = lit≤ tt }

third_up : Up third 3 8
unfolding of_bits
third_up = record { pos = lit< tt; is = lit≤ tt }

pub pick : (b : Bool) {x y : Float} {a c : ℕ} → Up x a c → Up y a c → Up (cond b x y) a c
pick true u v = u
pick false u v = v

-- ---- the ways it ends

poly_up : (z : Float) → Up z 1 8 → Up (log_poly z) 1 8
unfolding log_poly exact
poly_up z h =
    let w : Up (z ⊗ z) 1 64 = up_mul tt h h in
    let w16 : Up (z ⊗ z) 1 16 = wider 1 16 tt w in
    let t1 : Up _ 1 128 = wider 1 128 tt (up_mul tt w (wider 1 2 tt (up_add tt l1 (wider 32 1024 tt (up_mul tt w16 (wider 1 2 tt (up_add tt l3 (wider 1 64 tt (up_mul tt w16 l5))))))))) in
    let t2 : Up _ 12 128 = wider 12 128 tt (up_mul tt h (wider 3 4 tt (up_add tt l0 (wider 128 16384 tt (up_mul tt w (wider 1 2 tt (up_add tt l2 (wider 32 2048 tt (up_mul tt w (wider 1 2 tt (up_add tt l4 (wider 2 128 tt (up_mul tt w16 l6))))))))))))) in
    wider 1 8 tt (up_add tt t2 t1)

module _ (a base : ℕ) (dk : Up (dk_of a base) 1075 1) where
  hi_k : Up (dk_of a base ⊗ ln2_hi) 48834025 65536
  unfolding exact
  hi_k = up_mul tt dk hi_up

  lo_k : Up (dk_of a base ⊗ ln2_lo) 1 2048
  unfolding exact
  lo_k = wider 1 2048 tt (up_mul tt dk lo_up)

  out_up : (f s R : Float) → Up f 7 16 → Up s 5 16 → Up R 1 8 → Up (log_out f s R a base) 746 1
  unfolding log_out exact
  out_up f s R hf hs hR =
      let q : Up (s ⊗ (f ⊖ R)) 384 2048 = wider 384 2048 tt (up_mul tt hs (wider 9 16 tt (up_sub tt hf (wider 2 16 tt hR)))) in
      let f' : Up f 896 2048 = wider 896 2048 tt hf in
      pick (a =? base) (wider 746 1 tt (up_sub tt f' q)) (wider 746 1 tt (up_sub tt hi_k (wider 43008 65536 tt (up_sub tt (up_sub tt q lo_k) f'))))

  mid_up : (f s R : Float) → Up f 7 16 → Up s 5 16 → Up R 1 8 → Up (log_mid f s R a base) 746 1
  unfolding log_mid exact
  mid_up f s R hf hs hR =
      let h : Up (half ⊗ f ⊗ f) 256 2048 = wider 256 2048 tt (up_mul tt (up_mul tt half_up hf) hf) in
      let q : Up (s ⊗ (half ⊗ f ⊗ f ⊕ R)) 192 2048 = wider 192 2048 tt (up_mul tt hs (wider 1 4 tt (up_add tt h (wider 256 2048 tt hR)))) in
      let f' : Up f 896 2048 = wider 896 2048 tt hf in
      pick (a =? base) (wider 746 1 tt (up_sub tt f' (up_sub tt h q))) (wider 746 1 tt (up_sub tt hi_k (wider 43040 65536 tt (up_sub tt (up_sub tt h (up_add tt q lo_k)) f'))))

  pub close_up : (f : Float) → Up f 7 16 → Up (log_close f a base) 746 1
  unfolding log_close exact
  close_up f hf =
      let R : Up (f ⊗ f ⊗ (half ⊖ third ⊗ f)) 400 2048 = wider 400 2048 tt (up_mul tt (up_mul tt hf hf) (wider 1 1 tt (up_sub tt (wider 128 256 tt half_up) (wider 42 256 tt (up_mul tt third_up hf))))) in
      let f' : Up f 896 2048 = wider 896 2048 tt hf in
      pick (eq f zero⁺) (pick (a =? base) (wider 746 1 tt zero_up) (wider 746 1 tt (up_add tt hi_k (wider 32 65536 tt lo_k))))
      (pick (a =? base) (wider 746 1 tt (up_sub tt f' R)) (wider 746 1 tt (up_sub tt hi_k (wider 41504 65536 tt (up_sub tt (up_sub tt R lo_k) f')))))

  pub far_up : (f : Float) (m : ℕ) → Up f 7 16 → Up (log_far f m a base) 746 1
  unfolding log_far exact
  far_up f m hf =
      let d : Lo false (two ⊕ f) 25 16 = lo_add tt two_lo hf (up_add tt two_up hf) in
      let s : Up (f ⊘ (two ⊕ f)) 5 16 = up_div_to 5 16 tt hf d in
      let R = poly_up _ (wider 1 8 tt (up_mul tt s s)) in
      pick (m <? 0x6_147a) (out_up f _ _ hf s R) (pick (0x6_b851 <? m) (out_up f _ _ hf s R) (mid_up f _ _ hf s R))
