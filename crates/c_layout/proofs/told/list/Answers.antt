-- `told::list` hands over 16 numbers where there is no refusal, and spells the check.
use Rattle.std.specs.Prelude.{Ok, Err}
use mathlib.Core.Path.{refl}
use Rattle.c_layout.proofs.Spelling.{lists}
use Rattle.c_layout.proofs.told.list.Goals as goal

pub returns-in-Ok : goal.returns-in-Ok
returns-in-Ok c = rw c.in-Ok.is (lists (Ok _) _ refl c.spell.ensures)

pub returns-in-Err : goal.returns-in-Err
returns-in-Err c = rw c.in-Err.is (lists (Err _) _ refl c.refuse.ensures)
