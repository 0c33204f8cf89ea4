-- `msar_fit` leaves what `fit_call` on the records of its arrays gives, spelled and laid out.
use Rattle.c_interface.proofs.Spelling.{fit_leaves}
use Rattle.c_interface.proofs.msar_fit.Goals as goal

pub returns : goal.returns
returns c =
    fit_leaves _ (rw c.params_of-start.ensures at c.fit-answer.ensures) c.lay_out.ensures c.spell_fit.ensures
