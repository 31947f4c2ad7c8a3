-- `sheet_file::plain_sheet` meets its contract: accepted or refused.
use mathlib.Core.Path.{refl}
use Rattle.refusal.proofs.NumberLaws.{number_of-not_0}
use Rattle.sheet_file.proofs.ReportLaws.{printed-run, printed-refused}
use Rattle.sheet_file.proofs.plain_sheet.Goals as goal

pub returns-in-Ok : goal.returns-in-Ok
returns-in-Ok c =
    let s = rw (printed-run c.args.budget c.args.file.now _ c.in-Ok.ensures c.plain_run-run.result refl c.plain_run-run.ensures) at c.sheet.ensures in
    record { writes = s.writes; file_len_bound = s.run_len_bound }

pub returns-in-Err : goal.returns-in-Err
returns-in-Err c =
    let s = rw (c.from.ensures, printed-refused c.args.budget c.args.file.now _ c.in-Err.ensures (number_of-not_0 c.in-Err.r)) at c.refusal.ensures in
    record { writes = s.writes; file_len_bound = s.number_len_bound }
