-- `early_fit::is_unfit_places` meets its contract: what is counted for the running threads, or none is running.
use Rattle.std.proofs.Common.{◌∙◌, sym, arith}
use Rattle.early_log.proofs.LengthLaws.{log-length}
use Rattle.early_log.proofs.HeldLaws.{log_of-length}
use Rattle.early_fit.proofs.FitnessLaws.{is_unfit_places-none}
use Rattle.early_fit.proofs.is_unfit_places.Goals as goal

pub returns-else-any_running : goal.returns-else-any_running
returns-else-any_running c =
    let x = c.args in
    let n = log_of-length x.site (log-length x.site _ c.well_formed.1.0) in
    c.if-any_running.false ∙ is_unfit_places-none x.m x.site x.threads.at (omega arith) (sym c.any_running.ensures ∙ c.if-any_running.false)
