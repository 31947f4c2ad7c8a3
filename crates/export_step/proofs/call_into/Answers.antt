-- `export_step::call_into` meets its contract.
use mathlib.Core.Path.{refl, sym, ◌∙◌}
use Rattle.export_step.specs.Step.{keeps, call_by}
use Rattle.export_step.proofs.StepLaws.{call-refused, call-answered, call-right}
use Rattle.export_step.proofs.call_into.Goals as goal

pub returns : goal.returns
returns c =
    let x = c.args in
    let number = sym c.if-read-ne0.false ∙ c.asked-read.ensures.number in
    let read = c.asked-read.ensures.read c.if-read-ne0.false in
    let a = c.put_answer.ensures in
    let l = c.call_on-after in
    call-answered x.file.now x.call (call_by x.file.now x.words.now (keeps x.variables.now x.log.now x.records.now) x.held.now x.call) (keeps x.variables.now x.log.now x.records.now) x.held.now x.answer.now number _ l.result _
    (call-right x.file.now (keeps x.variables.now x.log.now x.records.now) x.held.now x.call _ read refl x.words.now l.result _ l.ensures.left l.ensures.held) _ _ _ a.number c.put_called.ensures a.words

pub returns-then-read-ne0 : goal.returns-then-read-ne0
returns-then-read-ne0 c =
    let x = c.args in
    call-refused x.file.now x.call (call_by x.file.now x.words.now (keeps x.variables.now x.log.now x.records.now) x.held.now x.call) (keeps x.variables.now x.log.now x.records.now) x.held.now x.answer.now _ c.asked-read.ensures.number c.if-read-ne0.true _ refl
