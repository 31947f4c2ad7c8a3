-- `early_list::call_at` meets its contract.
use native.Mathlib.Omega.{arith}
use Rattle.early_list.proofs.AnswerWordLaws.{call_at-both, call_at-grant, call_at-finish}
use Rattle.early_list.proofs.call_at.Goals as goal

pub returns-in-0-to-255 : goal.returns-in-0-to-255
returns-in-0-to-255 c = call_at-both c.args.w (omega arith)

pub returns-in-256-to-511 : goal.returns-in-256-to-511
returns-in-256-to-511 c = call_at-grant c.args.w (omega arith) (omega arith)

pub returns-in-512-to-767 : goal.returns-in-512-to-767
returns-in-512-to-767 c = call_at-finish c.args.w _ (omega arith) (omega arith)

pub returns-in_default : goal.returns-in_default
returns-in_default c = let h = c.in_default in call_at-finish c.args.w 255 (omega arith) (omega arith)
