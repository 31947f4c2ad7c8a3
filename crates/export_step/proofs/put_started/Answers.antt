-- `export_step::put_started` meets its contract: a grant is written, a refusal not.
use mathlib.Core.Path.{ap}
use mathlib.Core.List.{List}
use Prim.Native.Nat.{ℕ}
use Rattle.export_step.specs.Step.{keeps}
use Rattle.export_step.proofs.StepLaws.{started_by-other}
use Rattle.export_step.proofs.put_started.Goals as goal

pub returns-in-Granted : goal.returns-in-Granted
returns-in-Granted c vs ws = rw c.in-Granted.is (ap (λ (rs : List ℕ). keeps vs ws rs) c.threads_into.ensures)

pub returns-in_default : goal.returns-in_default
returns-in_default c vs ws = started_by-other c.args.after.answer _ _ c.in_default.not-Granted
