-- `excess`: q * q in two parts of 52 digits, and its distance from m * 2^52 where that is small.
use Rattle.std.proofs.Common.{◌*◌, arith}
use Rattle.root.proofs.Parts.{small, two_parts, above}
use Rattle.root.proofs.excess.Goals as goal

pub overflow_mul-c-2 : goal.overflow_mul-c-2
overflow_mul-c-2 c = let s = small c.args.q c.requires.1 in omega arith

pub overflow_mul-high : goal.overflow_mul-high
overflow_mul-high c = let s = small c.args.q c.requires.1 in omega arith

pub overflow_add-high : goal.overflow_add-high
overflow_add-high c = let s = small c.args.q c.requires.1 in omega arith

pub overflow_mul-low-2 : goal.overflow_mul-low-2
overflow_mul-low-2 c = let s = small c.args.q c.requires.1 in omega arith

pub overflow_add-low : goal.overflow_add-low
overflow_add-low c = let s = small c.args.q c.requires.1 in omega arith

pub overflow_sub-result : goal.overflow_sub-result
overflow_sub-result c = let s = small c.args.q c.requires.1 in omega arith

pub returns : goal.returns
returns c =
    let q = c.args.q in
    let s = small q c.requires.1 in
    (λ _. above c.args.m c.wrapping_sub_u64-e.result _ _ (q * q) c.wrapping_sub_u64-e.ensures.value c.if-e-gt8.false (omega arith) (two_parts q) (omega arith), omega arith)
