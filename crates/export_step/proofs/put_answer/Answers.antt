-- `export_step::put_answer` meets its contract: a grant is written, a refusal not.
use Rattle.export_step.proofs.StepLaws.{answer-granted, answer-refused}
use Rattle.export_step.proofs.put_answer.Goals as goal

pub returns-in-Granted : goal.returns-in-Granted
returns-in-Granted c =
    let x = c.args in
    let e = answer-granted x.a x.answer.now _ _ _ c.in-Granted.is c.grant_into.ensures in
    record { number = e.0; words = e.1 }

pub returns-in-Refused : goal.returns-in-Refused
returns-in-Refused c =
    let x = c.args in
    let e = answer-refused x.a x.answer.now _ c.in-Refused.is in
    record { number = e.0; words = e.1 }
