-- `export_step::with_state` meets its contract.
use mathlib.Core.Path.{refl, sym, ◌∙◌}
use mathlib.Core.Bool.{◌&&◌}
use lib.Dec.{leb}
use lib.ListN.{length}
use Rattle.std.proofs.lemmas.Result.{err_from_is_err_and}
use Rattle.refusal.proofs.NumberLaws.{number_of-not_0}
use Rattle.export_state.specs.Numbers.{are_held}
use Rattle.export_step.specs.Step.{keeps}
use Rattle.export_step.proofs.StepLaws.{opened-refused, opened-fit, opened-unfit, state-opened}
use Rattle.export_step.proofs.with_state.Goals as goal

pub returns-in_err-m : goal.returns-in_err-m
returns-in_err-m c =
    let x = c.args in
    let p = err_from_is_err_and c.from_residual.result c.from_residual.ensures.1 in
    let o = opened-refused x.file.now (λ m. are_held m.t x.variables.now x.log.now x.records.now && leb 3 (length x.answer.now)) _ c.in_err-m.ensures (number_of-not_0 c.in_err-m.field-0.0) in
    rw (p.1, p.2) (record { number = state-opened x.file.now (keeps x.variables.now x.log.now x.records.now) x.answer.now _ o; read = tt })

pub returns-then-may_ask : goal.returns-then-may_ask
returns-then-may_ask c =
    let x = c.args in
    let o = opened-fit x.file.now (λ m. are_held m.t x.variables.now x.log.now x.records.now && leb 3 (length x.answer.now)) _ c.in_ok-m.ensures refl (sym c.may_ask.ensures ∙ c.if-may_ask.true) in
    record { number = state-opened x.file.now (keeps x.variables.now x.log.now x.records.now) x.answer.now _ o; read = c.in_ok-m.ensures }

pub returns : goal.returns
returns c =
    let x = c.args in
    let o = opened-unfit x.file.now (λ m. are_held m.t x.variables.now x.log.now x.records.now && leb 3 (length x.answer.now)) _ c.in_ok-m.ensures refl (sym c.may_ask.ensures ∙ c.if-may_ask.false) in
    record { number = state-opened x.file.now (keeps x.variables.now x.log.now x.records.now) x.answer.now _ o; read = tt }
