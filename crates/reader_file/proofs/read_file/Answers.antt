-- `reader_file::read_file` meets its contract: the model, or the refusal.
use mathlib.Core.Path.{sym}
use Rattle.std.proofs.lemmas.Result.{err_from_is_err_and}
use Rattle.reader_file.proofs.LackLaws.{accepted-judged, read-model, read-refused}
use Rattle.reader_file.proofs.read_file.Goals as goal

pub returns-in_err-file_fault : goal.returns-in_err-file_fault
returns-in_err-file_fault c =
    let p = err_from_is_err_and c.from_residual.result c.from_residual.ensures.1 in
    rw (p.1, p.2) (read-refused _ _ c.in_err-file_fault.ensures)

pub model_from-requires : goal.model_from-requires
model_from-requires c = accepted-judged _ (sym c.in_ok-file_fault.ensures)

pub returns : goal.returns
returns c = read-model _ _ (sym c.in_ok-file_fault.ensures) c.model_from.ensures
