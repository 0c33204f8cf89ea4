-- `share`: the place is read, or it lies beyond the table.
use Rattle.std.proofs.Common.{rules, ◌≡◌, ◌+◌, ◌*◌, ◌≤◌, length, sym, ap, ◌∙◌, arith}
use lib.ListN.{get_or-eq_default}
use Rattle.number.specs.Number.{zero⁺}
use Rattle.msar_verdict.specs.Verdict.{at, share_of}
use Rattle.msar_verdict.proofs.share.Goals as goal

pub returns-in_default : goal.returns-in_default
unfolding share_of
returns-in_default c =
    let h : length c.args.table.now ≤ c.args.row * c.args.k + c.args.r = search rules in
    sym (get_or-eq_default c.args.table.now zero⁺ h)

pub returns-in_default-checked_add : goal.returns-in_default-checked_add
unfolding share_of
returns-in_default-checked_add c =
    let h : length c.args.table.now ≤ c.args.row * c.args.k + c.args.r = search rules in
    sym (get_or-eq_default c.args.table.now zero⁺ h)

pub returns : goal.returns
unfolding share_of
returns c =
    let e : c.in-Some-checked_add.e ≡ c.args.row * c.args.k + c.args.r = omega (arith, c.in-Some.ensures.1, c.in-Some-checked_add.ensures.1) in
    c.entry.ensures ∙ ap (at c.args.table.now) e
