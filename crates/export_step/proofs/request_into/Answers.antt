-- `export_step::request_into` meets its contract.
use mathlib.Core.Path.{refl, sym, ◌∙◌}
use Rattle.export_step.specs.Step.{keeps, request_by}
use Rattle.export_step.proofs.StepLaws.{request-refused, request-answered, words_right}
use Rattle.export_step.proofs.request_into.Goals as goal

pub returns : goal.returns
returns c =
    let x = c.args in
    let number = sym c.if-read-ne0.false ∙ c.asked-read.ensures.number in
    let read = c.asked-read.ensures.read c.if-read-ne0.false in
    let a = c.put_answer.ensures in
    let l = c.request_on-after in
    request-answered x.file.now (request_by x.file.now x.words.now (keeps x.variables.now x.log.now x.records.now) x.thread) (keeps x.variables.now x.log.now x.records.now) x.answer.now number _ l.result
    (words_right x.file.now (keeps x.variables.now x.log.now x.records.now) x.thread _ read refl x.words.now l.result l.ensures) _ _ _ a.number c.put_after.ensures a.words

pub returns-then-read-ne0 : goal.returns-then-read-ne0
returns-then-read-ne0 c =
    let x = c.args in
    request-refused x.file.now (request_by x.file.now x.words.now (keeps x.variables.now x.log.now x.records.now) x.thread) (keeps x.variables.now x.log.now x.records.now) x.answer.now _ c.asked-read.ensures.number c.if-read-ne0.true _ refl
