-- `tables_distance::relax_row` meets its contract: a store, or none, for each column.
use mathlib.Core.Path.{◌∙◌}
use Rattle.tables_distance.proofs.relax_row.Goals.{then-c-words, else-c-words}
use native.Mathlib.Omega.{arith}
use Rattle.base.proofs.IndexLaws.{store_to-none}
use Rattle.tables_distance.proofs.StoreLaws.{relaxed_to-stored, relaxed_to-left}
use Rattle.tables_distance.proofs.relax_row.Goals as goal

pub loop-j-init : goal.loop-j-init
loop-j-init c = store_to-none _ _ _

pub loop-j-preserved : goal.loop-j-preserved
loop-j-preserved c =
    let x = c.args in
    let l = c.loop-j in
    elim c.if-c-words.branch [
      | then-c-words w ↦ w.words-is ∙ relaxed_to-stored x.a x.p x.q x.words.now l.j _ _ l.invariant c.sum_word-c.ensures (omega arith)
      | else-c-words w ↦ w.words-is ∙ relaxed_to-left x.a x.p x.q x.words.now l.j _ _ l.invariant c.sum_word-c.ensures (omega arith)
    ]
