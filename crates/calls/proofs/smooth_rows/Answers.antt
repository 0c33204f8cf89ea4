-- `smooth_rows` meets its contract: the rows are the smoother's, and so is their table.
use native.Mathlib.Omega.{arith}
use Rattle.filter.proofs.Start.{windows_are, power_is}
use Rattle.calls.proofs.Runs.{windows_split, smoothed_tabled}
use Rattle.calls.proofs.smooth_rows.Goals as goal

pub smooth-requires : goal.smooth-requires
smooth-requires c = record { sizes_value = c.requires.sizes; rows = (c.requires.rows.0, c.requires.rows.1) }

pub tabulate-requires : goal.tabulate-requires
tabulate-requires c =
    let h = c.requires.rows in
    let q = c.args.q.now in
    let s = c.args.sizes in
    (omega (arith, s.shape.low, c.requires.sizes.0), windows_split q.means_count q.order (windows_are q s c.requires.sizes) (power_is q s c.requires.sizes), omega (arith, h.1, c.smooth.ensures.long), h.2)

pub returns : goal.returns
returns c =
    let q = c.args.q.now in
    let w = windows_are q c.args.sizes c.requires.sizes in
    record {
      same = (c.smooth.ensures.long, rw w c.smooth.ensures.rest);
      table = λ rule y shares held. smoothed_tabled q _ _ _ (omega (arith, c.args.sizes.shape.low, c.requires.sizes.0)) w (power_is q c.args.sizes c.requires.sizes) rule y shares _ held (omega arith) _ _ c.smooth.ensures c.tabulate.ensures;
    }
