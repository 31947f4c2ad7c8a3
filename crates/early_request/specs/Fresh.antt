-- Document 01, "Early issue": "The fresh state, thread records included, is the plain run's start with an empty log". 11 for a
-- model against the file rules, all else zero.
use Rattle.std.specs.Prelude.{cond, eqb, replicate}
use Rattle.model.specs.declared.Model.{Model}
use Rattle.model.specs.Refusal.{accepted, unfit}
use Rattle.model.specs.Record.{no_thread}
use Rattle.model.specs.Rules.{model_fault}
use Rattle.plain.specs.Start.{fresh_threads}
use Rattle.early.specs.Request.{fresh_site}
use Rattle.early_request.specs.declared.FreshState.{FreshState}

unfoldable pub fresh_of : Model → FreshState
fresh_of m =
    cond (eqb (model_fault m) accepted)
    (record { number = accepted; site = fresh_site; threads = record { at = fresh_threads m } })
    (record { number = unfit; site = fresh_site; threads = record { at = replicate 32 no_thread } })
