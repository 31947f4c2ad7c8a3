-- `export_step::put_called` meets its contract: a grant writes the records, a request and a finish the state.
use Rattle.export_step.proofs.StepLaws.{left_by-state}
use Rattle.export_step.proofs.put_called.Goals as goal

pub returns-in-Grant : goal.returns-in-Grant
returns-in-Grant c = rw c.in-Grant.is (c.put_started.ensures _ _)

pub returns-in-Both : goal.returns-in-Both
returns-in-Both c = left_by-state c.args.call _ _ _ _ _ c.in-Both.is c.put_after.ensures
