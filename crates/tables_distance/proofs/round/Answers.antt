-- `tables_distance::round` meets its contract: each row relaxed, or left where there is no way to k.
use mathlib.Core.Path.{refl, ◌∙◌}
use Rattle.tables_distance.proofs.round.Goals.{then-a-lt-CUT_WORD, else-a-lt-CUT_WORD}
use native.Mathlib.Omega.{arith}
use Rattle.tables_distance.proofs.StoreLaws.{round_to-none, round_to-relaxed, round_to-left}
use Rattle.tables_distance.proofs.round.Goals as goal

pub loop-i-init : goal.loop-i-init
loop-i-init c = round_to-none _ _ _

pub loop-i-preserved : goal.loop-i-preserved
loop-i-preserved c =
    let x = c.args in
    let l = c.loop-i in
    elim c.if-a-lt-CUT_WORD.branch [
      | then-a-lt-CUT_WORD w ↦ round_to-relaxed x.n x.k x.words.now l.i _ _ _ _ _ l.invariant refl refl refl (omega arith) (w.words-is ∙ w.relax_row.ensures)
      | else-a-lt-CUT_WORD w ↦ w.words-is ∙ round_to-left x.n x.k x.words.now l.i _ _ _ l.invariant refl refl (omega arith)
    ]
