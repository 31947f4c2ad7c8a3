-- `early_reach::lower_row` meets its contract: a store for each note, but for a way that is never.
use Prim.Native.Nat.{◌+◌, ◌/◌}
use mathlib.Core.Path.{refl, ap, sym, ◌∙◌}
use native.Mathlib.Omega.{arith}
use native.Mathlib.Nat.{zero-add}
use lib.ListN.{get_or}
use Rattle.early_limits.specs.Limit.{limit_of_word}
use Rattle.early_reach.specs.Store.{Places, row_lowered}
use Rattle.early_reach.proofs.StoreLaws.{row_lowered-none, row_lowered-more, row_lowered-never}
use Rattle.early_reach.proofs.lower_row.Goals.{then-leads, else-leads}
use Rattle.early_ahead.proofs.LimitLaws.{lesser-min}
use Rattle.early_reach.proofs.lower_row.Goals as goal

pub loop-note-init : goal.loop-note-init
loop-note-init c = (row_lowered-none _ _ _ _ _, λ j. omega (arith, c.type_inv.reach j))

pub loop-note-preserved : goal.loop-note-preserved
loop-note-preserved c =
    let x = c.args in
    let l = c.loop-note in
    let place = ap (λ i. get_or x.row.now i 0) (sym (zero-add (c.from-x.result / 32))) in
    let way = c.limit_of_word-way.ensures ∙ ap limit_of_word (c.word_at.ensures ∙ place) in
    let placed : Places (row_lowered x.notes.now (l.note-index + 1) x.row.now 0 x.r) x.reach.now c.if-leads.reach = elim c.if-leads.branch [
      | then-leads w ↦ rw w.reach-is
          (row_lowered-more x.notes.now x.row.now 0 x.r x.reach.now l.reach l.note-index _ _ _ _ l.invariant.0 (omega arith) (omega arith) c.from-x.ensures
          refl way (w.min.ensures ∙ lesser-min _ _))
      | else-leads w ↦ rw w.reach-is
          (row_lowered-never x.notes.now x.row.now 0 x.r x.reach.now l.reach l.note-index _ _ l.invariant.0 l.invariant.1 c.from-x.ensures way (omega arith))
    ] in
    (placed, l.invariant.1)
