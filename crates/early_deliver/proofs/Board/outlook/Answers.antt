-- `early_deliver::Board::outlook` meets its contract.
use Rattle.early_deliver.specs.Awake.{log_on}
use Rattle.early_deliver.proofs.SweepLaws.{outlook-made}
use Rattle.early_deliver.proofs.Board.outlook.Goals as goal

pub returns : goal.returns
returns c =
    let x = c.args in
    let b = x.self.now in
    outlook-made b.reach.now b.t (log_on b.rows.now) x.threads _ c.first_limits-first.result _ x.heard c.crew-crew.ensures c.first_limits-first.ensures c.earliest-limits.ensures
