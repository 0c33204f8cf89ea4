-- `settled`: q or q + 1 is the nearest root where the excess says so; else the digits give it.
use Rattle.std.proofs.Common.{◌*◌, ◌^◌, arith}
use Rattle.root.proofs.Parts.{settled_same, settled_next}
use Rattle.root.proofs.settled.Goals as goal

pub returns-then-s-q-2 : goal.returns-then-s-q-2
returns-then-s-q-2 c =
    let e = c.excess-s in
    let a = c.args in
    (settled_next (a.m * 2 ^ 52) a.q e.result (e.ensures.0 (omega arith)) c.if-s-q-2.true c.if-s-q.true, omega arith)

pub returns-then-s-q : goal.returns-then-s-q
returns-then-s-q c =
    let e = c.excess-s in
    let a = c.args in
    (settled_same (a.m * 2 ^ 52) a.q e.result (e.ensures.0 (omega arith)) (omega arith) c.if-s-q-2.false, omega arith)
