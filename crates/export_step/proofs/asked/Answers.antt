-- `export_step::asked` meets its contract.
use mathlib.Core.Path.{sym, ◌∙◌}
use Rattle.refusal.proofs.NumberLaws.{number_of-not_0}
use Rattle.export_step.proofs.asked.Goals as goal

pub returns-in-Ok : goal.returns-in-Ok
returns-in-Ok c = record { number = c.in-Ok.ensures.number; read = λ z. c.in-Ok.ensures.read }

pub returns-in-Err : goal.returns-in-Err
returns-in-Err c =
    record { number = c.from.ensures ∙ c.in-Err.ensures.number; read = λ z. absurd (number_of-not_0 c.in-Err.r (sym c.from.ensures ∙ z)) }
