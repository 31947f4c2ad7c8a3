-- `export_judge::leaves_model` meets its contract, by the kind.
use native.Mathlib.Omega.{arith}
use Rattle.model.specs.Rules.{leaves_model}
use Rattle.export_judge.proofs.leaves_model.Goals as goal

pub returns-after-xs-p : goal.returns-after-xs-p
unfolding leaves_model
returns-after-xs-p c = grind arith

pub returns-else-matches : goal.returns-else-matches
unfolding leaves_model
returns-else-matches c = grind arith
