-- `export_step::put_fresh` meets its contract.
use Rattle.export_step.specs.Step.{keeps}
use Rattle.export_step.proofs.StepLaws.{holding-same}
use Rattle.export_step.proofs.put_fresh.Goals as goal

pub returns : goal.returns
returns c =
    let x = c.args in
    holding-same _ _ x.m.t (keeps x.variables.now x.log.now x.records.now) _ c.fresh-fresh.ensures c.put_state.ensures
