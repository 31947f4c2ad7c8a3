-- `transcript_print::transcript` meets its contract. The text is shorter than the array that it is made in, so nothing of it was cut.
use mathlib.Core.Path.{sym}
use native.Mathlib.Omega.{arith}
use lib.Seq.{length-take-le}
use Rattle.buffers.proofs.PutLaws.{puts_then}
use Rattle.transcript.specs.Transcript.{closing_of}
use Rattle.transcript_print.proofs.TranscriptLaws.{transcript-long, transcript-short, transcript-whole, held-line, held-text, whole-fits}
use Rattle.transcript_print.proofs.transcript.Goals as goal

pub returns-then-labels-gt1024 : goal.returns-then-labels-gt1024
returns-then-labels-gt1024 c =
    let k = c in
    let a = k.args in
    let e = c.refusal.ensures in
    let h = held-line (transcript-long a.labels.now a.answers.now a.v a.t a.site a.threads.at k.if-labels-gt1024.true) (e.writes, e.number_len_bound) in
    record { writes = h.0; at_len_bound = h.1 }

pub returns-then-answers-labels : goal.returns-then-answers-labels
returns-then-answers-labels c =
    let k = c in
    let a = k.args in
    let e = c.refusal-then-answers-labels.ensures in
    let h = held-line (transcript-short a.labels.now a.answers.now a.v a.t a.site a.threads.at k.if-labels-gt1024.false k.if-answers-labels.true) (e.writes, e.number_len_bound) in
    record { writes = h.0; at_len_bound = h.1 }

pub slice_bounds-text-end : goal.slice_bounds-text-end
slice_bounds-text-end c = c.put_closing-n.ensures.0.within

pub slice_bounds-copy_in-end : goal.slice_bounds-copy_in-end
slice_bounds-copy_in-end c = sym (length-take-le _ _ c.put_closing-n.ensures.0.within)

pub returns : goal.returns
returns c =
    let cs = c in
    let rs = cs in
    let k = rs in
    let a = k.args in
    let g = k.if-labels-gt1024.false in
    let whole = transcript-whole a.labels.now a.answers.now a.v a.t a.site a.threads.at g k.if-answers-labels.false in
    let put = puts_then {ys = closing_of a.v a.t a.site a.threads.at} rs.put_call_lines-a.ensures.0 cs.put_closing-n.ensures.0 in
    let h = held-text put (omega arith) (whole-fits a.labels.now g rs.put_call_lines-a.ensures.1 cs.put_closing-n.ensures.1) whole c.copy_in.ensures in
    record { writes = h.0; at_len_bound = h.1 }
