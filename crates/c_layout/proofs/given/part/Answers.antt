-- `given::part` fills its places with the numbers from `start` on.
use Prim.Native.Nat.{◌+◌}
use mathlib.Core.Path.{sym, ap, ◌∙◌}
use lib.ListN.{length-replicate}
use Rattle.number.specs.Table.{◌!◌, tab}
use Rattle.number.proofs.Table.{fill_at_from}
use Rattle.c_layout.proofs.Spelling.{filled_whole}
use Rattle.c_layout.proofs.given.part.Goals as goal

pub returns : goal.returns
returns g c =
    let long = length-replicate g.row.N _ in
    filled_whole _ _ (c.copy.ensures ∙ fill_at_from 0 c.args.start g.row.N c.args.numbers.now _ c.requires) (sym long)
    ∙ ap (tab (λ i. c.args.numbers.now ! (c.args.start + i))) long
