-- `early_answer::store_written` meets its contract. The invariant: the first i variables are stored or left.
use mathlib.Core.Path.{◌≡◌, refl, sym, ◌∙◌}
use native.Mathlib.Omega.{arith}
use Rattle.model_effect.proofs.LengthLaws.{variables_length}
use Rattle.early_answer.proofs.HeldLaws.{chosen, stored-none, stored_more, stored-all}
use Rattle.early_answer.proofs.store_written.Goals.{then-has, else-has}
use Rattle.early_answer.proofs.store_written.Goals as goal

pub loop-i-init : goal.loop-i-init
loop-i-init c = let x = c.args in stored-none c.names_of-written.result x.v.at x.w.at

pub loop-i-preserved : goal.loop-i-preserved
loop-i-preserved c =
    let x = c.args in
    let l = c.loop-i in
    let word = c.names_of-written.result in
    let e : c.if-has.x ≡ chosen word x.v.at x.w.at l.i = elim c.if-has.branch [
      | then-has w ↦ w.x-is ∙ rw (sym c.has.ensures ∙ w.if-has.true) refl
      | else-has w ↦ w.x-is ∙ rw (sym c.has.ensures ∙ w.if-has.false) refl
    ] in
    stored_more word x.v.at x.w.at l.i _ l.out.at e l.invariant

pub returns : goal.returns
returns c =
    let x = c.args in
    let l = c.loop-i in
    stored-all c.names_of-written.result x.v.at x.w.at x.g l.out.at l.i c.names_of-written.ensures (variables_length x.v _ c.well_formed.1.0) (omega arith) l.invariant
