-- `early_deliver::settle` meets its contract: the rows hold the log.
use mathlib.Core.Path.{ap, ◌∙◌}
use Rattle.early.specs.Log.{log_of}
use Rattle.early.specs.Deliver.{settled_by}
use Rattle.early_deliver.specs.Awake.{sooner_on}
use Rattle.early_deliver.proofs.settle.Goals as goal

pub returns : goal.returns
returns c =
    let x = c.args in
    c.settled.ensures
    ∙ (ap (λ l. settled_by (sooner_on x.reach.now c.few.result l) l c.few.result x.threads.at) c.spread-rows.ensures
    ∙ ap (λ n. settled_by (sooner_on x.reach.now n (log_of x.site)) (log_of x.site) n x.threads.at) c.few.ensures.0)
