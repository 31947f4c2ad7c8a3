-- `export_step::put_state` meets its contract.
use lib.ListN.{take}
use Rattle.export_step.specs.Step.{keeps}
use Rattle.export_step.proofs.StepLaws.{holding-stored}
use Rattle.export_step.proofs.put_state.Goals as goal

pub returns : goal.returns
returns c =
    let x = c.args in
    let s = c.site_into.ensures in
    holding-stored x.site (take x.t x.threads.at) (keeps x.variables.now x.log.now x.records.now) _ _ _ s.values s.words c.threads_into.ensures
