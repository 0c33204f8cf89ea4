-- `msar_filter` leaves what `filter_call` on the records of its arrays gives, spelled.
use Rattle.c_interface.proofs.Spelling.{leaves}
use Rattle.c_interface.proofs.msar_filter.Goals as goal

pub returns : goal.returns
returns c =
    leaves (rw c.params_of-q.ensures at c.filter-answer.ensures) c.spell_loglik.ensures
