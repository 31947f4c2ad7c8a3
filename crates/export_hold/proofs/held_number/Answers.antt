-- `export_hold::held_number` meets its contract: the length, the parts, then 18.
use mathlib.Core.Path.{◌≡◌, sym}
use native.Mathlib.Omega.{arith}
use Rattle.std.proofs.lemmas.Result.{err_from_is_err_and}
use Rattle.base.specs.Index.{or_else}
use Rattle.refusal.specs.Number.{number_told}
use Rattle.refusal.proofs.NumberLaws.{number_of-not_0}
use Rattle.model.specs.Rules.{lack_fault}
use Rattle.export_model.specs.Judged.{parts_fault, numbers_fault, numbers_number, model_held}
use Rattle.export_hold.proofs.HeldLaws.{held-counts}
use Rattle.export_hold.proofs.KeptLaws.{lack-held}
use Rattle.export_hold.proofs.held_number.Goals as goal

pub returns-then-xs-n : goal.returns-then-xs-n
unfolding numbers_number or_else
returns-then-xs-n c = grind arith

pub returns-in_err-parts_fault : goal.returns-in_err-parts_fault
unfolding numbers_number numbers_fault or_else
returns-in_err-parts_fault c =
    let p = err_from_is_err_and c.from_residual.result c.from_residual.ensures.1 in
    let not_0 = number_of-not_0 c.in_err-parts_fault.field-0.0 in
    rw (p.1, p.2) (grind arith)

pub model_kept-requires : goal.model_kept-requires
model_kept-requires c =
    let fit : parts_fault c.args.xs.now ≡ 0 = sym c.in_ok-parts_fault.ensures in
    let k = held-counts c.args.xs.now fit in
    (fit, rw (c.value_at-n.ensures, c.value_at-t.ensures) at c.if-xs-n.false, k.variables, k.events, k.segments, k.threads)

pub returns : goal.returns
unfolding numbers_number numbers_fault or_else
returns c =
    let fit : parts_fault c.args.xs.now ≡ 0 = sym c.in_ok-parts_fault.ensures in
    let lack : number_told c.lack_fault.result ≡ lack_fault (model_held c.args.xs.now) = lack-held c.args.xs.now fit _ _ c.model_kept.ensures c.lack_fault.ensures in
    grind arith
