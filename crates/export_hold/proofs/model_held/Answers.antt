-- `export_hold::model_held` meets its contract: the model, or none.
use mathlib.Core.Path.{sym, ◌∙◌}
use Rattle.refusal.proofs.NumberLaws.{number_of-not_0}
use Rattle.export_hold.proofs.HeldLaws.{held-length, held-parts, held-counts, held_or-kept, held_or-none}
use Rattle.export_hold.proofs.model_held.Goals as goal

pub model_kept-requires : goal.model_kept-requires
model_kept-requires c =
    let xs = c.args.xs.now in
    let fit = sym c.in-Ok.ensures in
    let parts = held-parts xs fit in
    let k = held-counts xs parts in
    (parts, held-length xs fit, k.variables, k.events, k.segments, k.threads)

pub returns-in-Ok : goal.returns-in-Ok
returns-in-Ok c = c.model_kept.ensures ∙ held_or-kept _ (sym c.in-Ok.ensures)

pub returns-in-Err : goal.returns-in-Err
returns-in-Err c = c.no_model.ensures ∙ held_or-none _ (λ z. number_of-not_0 c.in-Err.field-0 (c.in-Err.ensures ∙ z))
