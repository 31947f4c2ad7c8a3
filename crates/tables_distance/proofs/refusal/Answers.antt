-- `tables_distance::refusal` meets its contract: 11, then 16, then 0.
use Prim.Native.Nat.{◌*◌}
use mathlib.Core.Path.{refl, sym, ◌∙◌}
use borrow.Author.Tests.{lt-ltb, le-ltb}
use Rattle.tables.proofs.OutcomeLaws.{if_held-yes, if_held-no}
use Rattle.refusal.proofs.NumberLaws.{told-refused, told-held}
use Rattle.tables_distance.proofs.refusal.Goals as goal

pub returns-then-is_err : goal.returns-then-is_err
returns-then-is_err c = sym (if_held-no c.args.m _ 11 (told-refused c.model_fault.result _ c.model_fault.ensures (sym c.is_err.ensures.value ∙ c.if-is_err.true)))

pub returns-then-size-n : goal.returns-then-size-n
returns-then-size-n c =
    let x = c.args.m in
    sym (if_held-yes x _ 11 (told-held c.model_fault.result _ c.model_fault.ensures (sym c.is_err.ensures.value ∙ c.if-is_err.false)) ∙ rw (lt-ltb c.args.size (x.n * x.n) c.if-size-n.true) refl)

pub returns : goal.returns
returns c =
    let x = c.args.m in
    sym (if_held-yes x _ 11 (told-held c.model_fault.result _ c.model_fault.ensures (sym c.is_err.ensures.value ∙ c.if-is_err.false)) ∙ rw (le-ltb c.args.size (x.n * x.n) c.if-size-n.false) refl)
