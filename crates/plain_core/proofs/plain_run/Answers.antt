-- `plain_core::plain_run` meets its contract.
use Rattle.std.proofs.Common.{refl, sym, ◌∙◌}
use Rattle.refusal.proofs.NumberLaws.{number_of-not_0}
use Rattle.plain_core.proofs.RunLaws.{plain_run-fit, plain_run-fault}
use Rattle.plain_core.proofs.plain_run.Goals as goal

pub cycles-requires : goal.cycles-requires
cycles-requires c = sym c.in-Ok.ensures

pub returns-in-Ok : goal.returns-in-Ok
returns-in-Ok c = c.cycles.ensures ∙ plain_run-fit c.args.m _ (sym c.in-Ok.ensures)

pub returns-in-Err : goal.returns-in-Err
returns-in-Err c =
    rw c.from.ensures
    (plain_run-fault c.args.m _ _ _
    (λ e. number_of-not_0 c.in-Err.field-0 (c.in-Err.ensures ∙ e))
    refl
    c.no_threads.ensures)
