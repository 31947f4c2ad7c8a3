-- `export_step::put_after` meets its contract: a grant is written, a refusal not.
use Rattle.export_step.proofs.StepLaws.{kept_by-other}
use Rattle.export_step.proofs.put_after.Goals as goal

pub returns-in-Granted : goal.returns-in-Granted
returns-in-Granted c = rw c.in-Granted.is c.put_state.ensures

pub returns-in_default : goal.returns-in_default
returns-in_default c = kept_by-other c.args.after.answer _ _ _ c.in_default.not-Granted
