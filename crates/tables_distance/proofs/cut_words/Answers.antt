-- `tables_distance::cut_words` meets its contract: a store, or none, for each place.
use mathlib.Core.Path.{sym, ◌∙◌}
use native.Mathlib.Omega.{arith}
use lib.ListN.{drop, take-append-drop, get_or-append}
use lib.Seq.{set-append_left, set-get_or}
use Rattle.base.proofs.IndexLaws.{store_to-none}
use Rattle.tables.specs.Word.{all_ones}
use Rattle.tables_distance.proofs.StoreLaws.{cut_to-stored, cut_to-left}
use Rattle.tables_distance.proofs.cut_words.Goals.{then-w-ge-CUT_WORD, else-w-ge-CUT_WORD}
use Rattle.tables_distance.proofs.cut_words.Goals as goal

pub loop-w-init : goal.loop-w-init
loop-w-init c = take-append-drop c.args.count c.args.words.now ∙ store_to-none _ _ _

pub loop-w-preserved : goal.loop-w-preserved
loop-w-preserved c =
    let x = c.args in
    let l = c.loop-w in
    let rest = drop x.count x.words.now in
    let read = get_or-append l.w-items rest 0 l.w-index (omega arith) in
    elim c.if-w-ge-CUT_WORD.branch [
      | then-w-ge-CUT_WORD w ↦ rw w.w-items-is (sym (set-append_left l.w-items rest l.w-index all_ones (omega arith)) ∙ cut_to-stored x.words.now l.w-index _ l.invariant (omega arith))
      | else-w-ge-CUT_WORD w ↦ rw (w.w-items-is, set-get_or l.w-items l.w-index 0) (cut_to-left x.words.now l.w-index _ l.invariant (omega arith))
    ]
