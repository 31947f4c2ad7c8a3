-- `transcript_print::fill_words` meets its contract. The invariant: the words of the first i calls are there, and the rest is as it was.
use mathlib.Core.Path.{refl}
use native.Mathlib.Omega.{arith}
use Rattle.buffers.proofs.WriteLaws.{writes-all}
use Rattle.transcript_print.specs.Text.{call_words}
use Rattle.transcript_print.proofs.LabelLaws.{call_words-length, words_more}
use Rattle.transcript_print.proofs.fill_words.Goals as goal

pub loop-i-init : goal.loop-i-init
loop-i-init c = refl

pub loop-i-preserved : goal.loop-i-preserved
loop-i-preserved c =
    let a = c.args in
    rw (c.loop-i.invariant, c.word_of.ensures) (words_more a.kinds.now a.labels.now a.calls.now c.loop-i.i (omega arith) (omega arith))

pub returns : goal.returns
returns c =
    let a = c.args in
    let n = call_words-length a.kinds.now a.labels.now in
    (writes-all (call_words a.kinds.now a.labels.now) a.calls.now c.loop-i.calls c.loop-i.i (omega arith) (omega arith) c.loop-i.invariant).buffer
