-- `export_step::with_room` meets its contract.
use mathlib.Core.Path.{refl, sym, ◌∙◌}
use mathlib.Core.List.{[]}
use Rattle.std.proofs.lemmas.Result.{err_from_is_err_and}
use Rattle.refusal.proofs.NumberLaws.{number_of-not_0}
use Rattle.export_step.specs.Step.{keeps, has_room}
use Rattle.export_step.proofs.StepLaws.{opened-refused, opened-fit, opened-unfit, room-opened}
use Rattle.export_step.proofs.with_room.Goals as goal

pub returns-in_err-m : goal.returns-in_err-m
returns-in_err-m c =
    let x = c.args in
    let b = keeps x.variables.now x.log.now x.records.now in
    let p = err_from_is_err_and c.from_residual.result c.from_residual.ensures.1 in
    rw (p.1, p.2) (record { number = room-opened x.file.now b [] _ (opened-refused x.file.now (λ m. has_room m.t b) _ c.in_err-m.ensures (number_of-not_0 c.in_err-m.field-0.0)); read = tt })

pub returns-then-has_room : goal.returns-then-has_room
returns-then-has_room c =
    let x = c.args in
    let b = keeps x.variables.now x.log.now x.records.now in
    record { number = room-opened x.file.now b [] _ (opened-fit x.file.now (λ m. has_room m.t b) _ c.in_ok-m.ensures refl (sym c.has_room.ensures ∙ c.if-has_room.true)); read = c.in_ok-m.ensures }

pub returns : goal.returns
returns c =
    let x = c.args in
    let b = keeps x.variables.now x.log.now x.records.now in
    record { number = room-opened x.file.now b [] _ (opened-unfit x.file.now (λ m. has_room m.t b) _ c.in_ok-m.ensures refl (sym c.has_room.ensures ∙ c.if-has_room.false)); read = tt }
