-- `early_log::counted_site` meets its contract: what is counted for the running threads, or none is running.
use mathlib.Core.Path.{sym, ◌∙◌}
use Rattle.early_log.proofs.RunningLaws.{counted_none}
use Rattle.early_log.proofs.counted_site.Goals as goal

pub returns : goal.returns
returns c =
    let x = c.args in
    counted_none x.m x.threads.at x.site (sym c.any_running.ensures ∙ c.if-any_running.false)
