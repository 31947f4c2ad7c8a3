-- `export_step::fresh_into` meets its contract.
use mathlib.Core.Path.{refl}
use Rattle.refusal.proofs.NumberLaws.{number_of-not_0}
use Rattle.export_step.specs.Step.{keeps}
use Rattle.export_step.proofs.StepLaws.{fresh-refused, fresh-done}
use Rattle.export_step.proofs.fresh_into.Goals as goal

pub returns-in-Ok : goal.returns-in-Ok
returns-in-Ok c =
    let x = c.args in
    let o = c.in-Ok.ensures in
    fresh-done x.file.now (keeps x.variables.now x.log.now x.records.now) _ o.number o.read refl _ c.put_fresh.ensures

pub returns-in-Err : goal.returns-in-Err
returns-in-Err c =
    let x = c.args in
    fresh-refused x.file.now (keeps x.variables.now x.log.now x.records.now) _ c.in-Err.ensures.number (number_of-not_0 c.in-Err.r) _ c.from.ensures
