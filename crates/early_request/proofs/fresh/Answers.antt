-- `early_request::fresh` meets its contract.
use mathlib.Core.Path.{sym, ◌∙◌}
use Rattle.model_rules.proofs.RuleLaws.{model_fault-counts}
use Rattle.refusal.proofs.NumberLaws.{told-refused, told-held}
use Rattle.early_request.proofs.FreshLaws.{fresh-refused, fresh-accepted}
use Rattle.early_request.proofs.fresh.Goals as goal

pub returns-then-is_err : goal.returns-then-is_err
returns-then-is_err c =
    fresh-refused c.args.m _ _ c.fresh_site-site.ensures (told-refused c.model_fault.result _ c.model_fault.ensures (sym c.is_err.ensures.value ∙ c.if-is_err.true)) c.no_threads-threads.ensures

pub fresh_threads-threads-requires : goal.fresh_threads-threads-requires
fresh_threads-threads-requires c =
    (model_fault-counts c.args.m (told-held c.model_fault.result _ c.model_fault.ensures (sym c.is_err.ensures.value ∙ c.if-is_err.false))).threads

pub returns : goal.returns
returns c =
    fresh-accepted c.args.m _ _ c.fresh_site-site.ensures (told-held c.model_fault.result _ c.model_fault.ensures (sym c.is_err.ensures.value ∙ c.if-is_err.false)) c.fresh_threads-threads.ensures
