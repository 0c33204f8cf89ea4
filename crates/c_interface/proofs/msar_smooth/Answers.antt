-- `msar_smooth` leaves what `smooth_call` on the records of its arrays gives, spelled.
use Rattle.c_interface.proofs.Spelling.{leaves}
use Rattle.c_interface.proofs.msar_smooth.Goals as goal

pub returns : goal.returns
returns c =
    leaves (rw c.params_of-q.ensures at c.smooth-answer.ensures) c.spell_loglik.ensures
