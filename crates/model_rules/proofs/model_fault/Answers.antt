-- `model_rules::model_fault` meets its contract: all but 18, then 18.
use mathlib.Core.Path.{refl, sym, ◌∙◌}
use Rattle.std.proofs.lemmas.Result.{err_from_is_err_and}
use Rattle.refusal.proofs.NumberLaws.{number_of-not_0}
use Rattle.model_rules.proofs.FaultLaws.{fault-here, fault-later}
use Rattle.model_rules.proofs.RuleLaws.{model_fault-parts, parts-linked}
use Rattle.model_rules.proofs.model_fault.Goals as goal

pub returns-in_err-parts_fault : goal.returns-in_err-parts_fault
returns-in_err-parts_fault c =
    let p = err_from_is_err_and c.from_residual.result c.from_residual.ensures.1 in
    rw (p.1, p.2)
    (fault-here _ _ _ c.in_err-parts_fault.ensures (number_of-not_0 c.in_err-parts_fault.field-0.0) ∙ sym (model_fault-parts _))

pub returns : goal.returns
returns c =
    let none = sym c.in_ok-parts_fault.ensures in
    fault-later _ _ _ none (c.lack_in.ensures _ refl refl (parts-linked _ none c.lacks.ensures)) ∙ sym (model_fault-parts _)
