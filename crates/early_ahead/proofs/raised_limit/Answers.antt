-- `early_ahead::raised_limit` meets its contract.
use mathlib.Core.Path.{◌∙◌}
use Rattle.early_ahead.proofs.LimitLaws.{raised_limit-max}
use Rattle.early_ahead.proofs.raised_limit.Goals as goal

pub returns : goal.returns
returns c = c.max.ensures ∙ raised_limit-max c.args.since c.args.x
