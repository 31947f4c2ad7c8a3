-- `early_deliver::outlook_of` meets its contract: the rows hold the log.
use mathlib.Core.Path.{ap, ◌∙◌}
use mathlib.Core.Bool.{false}
use Rattle.early.specs.Log.{log_of}
use Rattle.early_deliver.specs.Awake.{outlook_of}
use Rattle.early_deliver.proofs.outlook_of.Goals as goal

pub returns : goal.returns
returns c =
    let x = c.args in
    c.outlook.ensures
    ∙ (ap (λ l. outlook_of x.reach.now c.few.result l x.threads.at false) c.spread-rows.ensures
    ∙ ap (λ n. outlook_of x.reach.now n (log_of x.site) x.threads.at false) c.few.ensures.0)
