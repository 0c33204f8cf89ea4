use lib.ListN.{replicate}
use Rattle.number.specs.Number.{zero⁺}
use Rattle.logarithm.specs.Log.{log_of}
use Rattle.density.proofs.Tables.{logs_filled}
use Rattle.density.proofs.logarithms.Goals as goal

pub returns : goal.returns
returns c q n d =
    let again = c.by_label.ensures log_of (λ s y b p. p) in
    logs_filled q _ _ (replicate 256 zero⁺) (replicate 256 zero⁺) n d again c.requires.0 c.requires.2
