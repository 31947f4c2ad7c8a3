-- `model_effect::execute_all` meets its contract. The invariant: the first statements, below the index, are done.
use Rattle.std.proofs.Common.{[], add-one}
use Rattle.model.specs.Values.{no_statement}
use Rattle.model_effect.proofs.StatementLaws.{execute-none, execute-more}
use Rattle.model_effect.proofs.execute_all.Goals as goal

pub loop-x-init : goal.loop-x-init
loop-x-init c = execute-none [] _

pub loop-x-preserved : goal.loop-x-preserved
loop-x-preserved c =
    let j = c.loop-x.x-index in
    rw (add-one, execute-more c.body_of-x-items.result.now j no_statement _ c.loop-x-test.true, ← c.loop-x.invariant) c.execute_op-w.ensures
