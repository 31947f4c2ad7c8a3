-- `tables_row::store_steps` meets its contract: a store for each place.
use mathlib.Core.Path.{◌≡◌, ◌∙◌}
use native.Mathlib.Omega.{arith}
use Rattle.base.proofs.IndexLaws.{store_to-none, store_to-more}
use Rattle.model_effect.proofs.LengthLaws.{segments-length}
use Rattle.tables_row.proofs.StepLaws.{steps_to-in, steps_of-near, step_word-read}
use Rattle.tables_row.proofs.store_steps.Goals as goal

pub loop-s-init : goal.loop-s-init
loop-s-init c = store_to-none _ _ _

pub step_word-requires : goal.step_word-requires
step_word-requires c = rw c.steps_of.ensures (steps_of-near _)

pub loop-s-preserved : goal.loop-s-preserved
loop-s-preserved c =
    let x = c.args in
    let l = c.loop-s in
    let size = segments-length x.m _ c.well_formed.0 in
    store_to-more _ 0 x.steps.now l.s l.s _ _ l.invariant (omega arith) (step_word-read x.m l.s _ _ _ (omega arith) c.steps_of.ensures c.step_word.ensures)

pub returns : goal.returns
returns c =
    let x = c.args in
    let size = segments-length x.m _ c.well_formed.0 in
    let e : c.loop-s.s ≡ 64 = omega arith in
    rw e at c.loop-s.invariant ∙ steps_to-in x.m x.steps.now (omega arith)
