use Rattle.root.specs.Root.{root_of}
use Rattle.density.proofs.Tables.{deviations_filled}
use Rattle.density.proofs.deviations.Goals as goal

pub returns : goal.returns
returns c =
    let again = c.by_label.ensures root_of (λ s y b p. p.0) in
    deviations_filled c.args.q.now _ _ _ c.variances-own.ensures c.requires.0 again
