-- `model_reach::first_row` meets its contract, closer by closer.
use mathlib.Core.Path.{refl}
use mathlib.Core.Logic.{⊎_elim}
use Rattle.model_reach.specs.Store.{first_row}
use Rattle.model_reach.proofs.first_row.Goals as goal

pub returns-in-End : goal.returns-in-End
unfolding first_row
returns-in-End c = rw c.in-End.is c.with-own.ensures

pub returns-in-Time : goal.returns-in-Time
unfolding first_row
returns-in-Time c =
    rw (c.with-in-Time.ensures, c.with.ensures, c.with-own.ensures, c.from.ensures, c.from-in-Time.ensures)
    (⊎_elim (λ w. rw w.1 refl) (λ w. rw w.1 refl) c.in-Time.is)
