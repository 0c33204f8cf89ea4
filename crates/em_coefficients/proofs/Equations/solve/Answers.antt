use Prim.Native.Nat.{◌+◌, ◌*◌, ◌<◌, ◌≤◌}
use mathlib.Core.Path.{◌≡◌}
use native.Mathlib.Omega.{arith}
use borrow.Author.Rules.{rules}
use lib.ListN.{length}
use Rattle.refusal.proofs.Each.{each_none, each_more}
use Rattle.em_coefficients.specs.Steps.{block_from}
use Rattle.em_coefficients.proofs.Parts.{side_fits, block_is, answers_none, answers_more, answers_refused, answers_all}
use Rattle.em_coefficients.proofs.Equations.solve.Goals as goal

pub loop-b-init : goal.loop-b-init
loop-b-init c =
    let self = c.args.self.now in
    let q = c.args.q.now in
    record { passed = each_none _; answers = answers_none q.order (block_from q.order self.tables self.sides q.ar) q.ar }

pub returns-in_err-values : goal.returns-in_err-values
returns-in_err-values c =
    let self = c.args.self.now in
    let q = c.args.q.now in
    let block = block_is q.order self.tables self.sides q.ar c.loop-b.b c.part_at-table.ensures c.part_at-side.ensures c.part_at-incumbent.ensures c.in_err-values.ensures in
    let refused = answers_refused q.order (block_from q.order self.tables self.sides q.ar) q.ar _ _ c.loop-b.invariant.passed c.loop-b-test.true block in
    search (rules, refused)

pub loop-b-preserved : goal.loop-b-preserved
loop-b-preserved c =
    let self = c.args.self.now in
    let q = c.args.q.now in
    let solved = block_is q.order self.tables self.sides q.ar c.loop-b.b c.part_at-table.ensures c.part_at-side.ensures c.part_at-incumbent.ensures c.in_ok-values.ensures in
    let long : length q.ar ≡ 112 = search rules in
    let b : c.loop-b.b < 16 = omega arith in
    let room : c.loop-b.b * q.order + q.order ≤ length q.ar = omega (arith, side_fits b c.requires.1) in
    record {
      passed = each_more _ _ c.loop-b.invariant.passed (rw (← solved));
      answers = answers_more q.order (block_from q.order self.tables self.sides q.ar) q.ar _ solved c.loop-b.invariant.answers room c.copy.ensures;
    }

pub returns : goal.returns
returns c =
    let self = c.args.self.now in
    let q = c.args.q.now in
    let e : c.loop-b.b ≡ q.ar_blocks = omega arith in
    answers_all q.order (block_from q.order self.tables self.sides q.ar) q.ar _ (rw e at c.loop-b.invariant.passed) (rw e at c.loop-b.invariant.answers)
