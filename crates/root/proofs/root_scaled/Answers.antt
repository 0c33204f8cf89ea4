-- `root_scaled`: m has at most 54 digits, and its nearest root with half the exponent is the pattern.
use Rattle.std.proofs.Common.{ℕ, ◌+◌, ◌-◌, ◌*◌, ◌/◌, ◌%◌, ◌^◌, ◌<◌, ◌≤◌, sym, ap, ◌∙◌, arith}
use Rattle.root.proofs.WholeRoot.{is_whole_root}
use Rattle.root.proofs.Scaled.{m_from, m_most, m_kept, pattern_of_lem}
use Rattle.root.proofs.root_scaled.Goals as goal

-- m is sig or twice sig, of at most 54 digits
some : (m : ℕ) → 2 ^ 52 ≤ m → 0 < m
some m h = omega arith

few : (m : ℕ) → m ≤ (2 ^ 53 - 1) * 2 ^ 1 → m < 2 ^ 54
few m h = omega arith

pub settled-requires : goal.settled-requires
settled-requires c =
    let sig = c.args.sig in
    let ex = c.args.ex in
    let p = c.requires in
    rw (m_kept sig ex p.0 p.1 p.2) (some _ (m_from sig ex p.0 p.1 p.2), few _ (m_most sig ex p.0 p.1 p.2), c.guess-q.ensures)

pub returns : goal.returns
returns c =
    let sig = c.args.sig in
    let ex = c.args.ex in
    let p = c.requires in
    ap (λ (q : ℕ). (ex / 2 - 1) * 2 ^ 52 + q)
    (is_whole_root (sig * 2 ^ (ex % 2)) c.settled.result (some _ (m_from sig ex p.0 p.1 p.2)) (few _ (m_most sig ex p.0 p.1 p.2))
    (rw (m_kept sig ex p.0 p.1 p.2) at c.settled.ensures.0))
    ∙ sym (pattern_of_lem sig ex p.0 p.1 p.2)
