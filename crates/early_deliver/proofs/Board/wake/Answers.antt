-- `early_deliver::Board::wake` meets its contract.
use mathlib.Core.Path.{ap, ◌∙◌}
use mathlib.Core.Bool.{true}
use lib.ListN.{set}
use Rattle.model.specs.Record.{thread_at}
use Rattle.early_deliver.specs.Awake.{log_on, outlook_of}
use Rattle.early_deliver.proofs.Board.wake.Goals as goal

pub returns : goal.returns
unfolding thread_at
returns c =
    let x = c.args in
    let b = x.self.now in
    c.outlook.ensures
    ∙ ap
    (λ s. outlook_of b.reach.now b.t (log_on b.rows.now) (set x.threads.at x.k (record { segment = (thread_at x.threads.at x.k).segment; state = s })) true)
    c.woken_at.ensures
