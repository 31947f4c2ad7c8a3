-- `reader_file::file_fault` meets its contract: the number but for 18, then 18.
use mathlib.Core.Path.{sym, ap}
use Rattle.std.specs.Prelude.{Ok}
use Rattle.std.proofs.lemmas.Result.{err_from_is_err_and}
use Rattle.refusal.proofs.NumberLaws.{number_of-not_0}
use Rattle.reader_file.proofs.LackLaws.{number-refused, number-asked}
use Rattle.reader_file.proofs.file_fault.Goals as goal

pub returns-in_err-judge : goal.returns-in_err-judge
returns-in_err-judge c =
    let p = err_from_is_err_and c.from_residual.result c.from_residual.ensures.1 in
    rw (p.1, p.2) (number-refused _ _ c.in_err-judge.ensures.number (number_of-not_0 c.in_err-judge.field-0.0))

-- no port is named
pub returns-then-not-branch : goal.returns-then-not-branch
returns-then-not-branch c = number-asked _ (sym c.in_ok-judge.ensures.number) 0 (sym (c.in_ok-judge.ensures.unnamed (ap Ok c.if-not-branch.true)))

pub returns : goal.returns
returns c = number-asked _ (sym c.in_ok-judge.ensures.number) _ c.lack_number.ensures
