-- `export_step::request_by_rows_into` meets its contract.
use mathlib.Core.Path.{refl, sym, ◌∙◌}
use lib.ListN.{length}
use Rattle.early_laws.proofs.ByRowsLaws.{free-same}
use Rattle.export_step.specs.Step.{keeps, rows_by}
use Rattle.export_step.proofs.StepLaws.{request-refused, request-answered, rows_right}
use Rattle.export_step.proofs.request_by_rows_into.Goals as goal

pub returns : goal.returns
returns c =
    let x = c.args in
    let number = sym c.if-read-ne0.false ∙ c.asked-read.ensures.number in
    let read = c.asked-read.ensures.read c.if-read-ne0.false in
    let a = c.put_answer.ensures in
    let l = c.rows_on-after in
    record {
      free = l.ensures.free;
      requests = request-answered x.file.now (rows_by x.file.now (length x.row.now) (keeps x.variables.now x.log.now x.records.now) x.thread) (keeps x.variables.now x.log.now x.records.now) x.answer.now number _ l.result
          (rows_right x.file.now (keeps x.variables.now x.log.now x.records.now) x.thread _ read refl (length x.row.now) l.result l.ensures.left) _ _ _ a.number c.put_after.ensures a.words;
    }

pub returns-then-read-ne0 : goal.returns-then-read-ne0
returns-then-read-ne0 c =
    let x = c.args in
    record { free = free-same x.row.now; requests = request-refused x.file.now (rows_by x.file.now (length x.row.now) (keeps x.variables.now x.log.now x.records.now) x.thread) (keeps x.variables.now x.log.now x.records.now) x.answer.now _ c.asked-read.ensures.number c.if-read-ne0.true _ refl }
