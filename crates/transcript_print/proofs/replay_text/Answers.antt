-- `transcript_print::replay_text` meets its contract: too many labels, too few kinds, a refused file, the whole list.
use mathlib.Core.Path.{◌≡◌, sym}
use native.Mathlib.Omega.{arith}
use lib.ListN.{replicate}
use lib.Seq.{length-take-le}
use Rattle.buffers.proofs.WriteLaws.{writes-same}
use Rattle.replay.specs.Replay.{replayed_of, answers_after}
use Rattle.transcript_print.specs.Text.{call_words}
use Rattle.transcript_print.proofs.LabelLaws.{words-front}
use Rattle.transcript_print.proofs.TranscriptLaws.{held-line}
use Rattle.transcript_print.proofs.TextLaws.{text-long, text-unkind, text-refused, text-done}
use Rattle.transcript_print.proofs.replay_text.Goals as goal

pub returns-then-labels-gt1024 : goal.returns-then-labels-gt1024
returns-then-labels-gt1024 c =
    let k = c in
    let a = k.args in
    let p = c.refusal.ensures in
    let l = held-line (text-long a.file.now a.kinds.now a.labels.now k.if-labels-gt1024.true) (p.writes, p.number_len_bound) in
    record { writes = l.0; labels_len_bound = l.1 }

pub returns-then-kinds-labels : goal.returns-then-kinds-labels
returns-then-kinds-labels c =
    let k = c in
    let a = k.args in
    let p = c.refusal-then-kinds-labels.ensures in
    let l = held-line (text-unkind a.file.now a.kinds.now a.labels.now k.if-kinds-labels.true) (p.writes, p.number_len_bound) in
    record { writes = l.0; labels_len_bound = l.1 }

pub slice_bounds-replay-end-3 : goal.slice_bounds-replay-end-3
slice_bounds-replay-end-3 c = sym (length-take-le _ _ (omega arith))

pub returns-then-r-ne0 : goal.returns-then-r-ne0
returns-then-r-ne0 c =
    let h = c in
    let r = h.replay-r in
    let f = h in
    let a = f.args in
    let k = words-front a.kinds.now a.labels.now (replicate 1024 0) _ (omega arith) f.fill_words.ensures in
    let e : r.result ≡ replayed_of a.file.now (replicate 4096 0) (replicate 2048 0) (call_words a.kinds.now a.labels.now) (replicate 5120 0) = rw k at r.ensures.outcome in
    let t = text-refused a.file.now a.kinds.now a.labels.now (replicate 4096 0) (replicate 5120 0) f.if-labels-gt1024.false f.if-kinds-labels.false (omega arith) (omega arith) r.result e h.if-r-ne0.true in
    let p = c.refusal-then-r-ne0.ensures in
    let l = held-line t (p.writes, p.number_len_bound) in
    record { writes = l.0; labels_len_bound = l.1 }

pub slice_bounds-transcript-end : goal.slice_bounds-transcript-end
slice_bounds-transcript-end c = sym (length-take-le _ _ (omega arith))

pub returns : goal.returns
returns c =
    let h = c in
    let r = h.replay-r in
    let f = h in
    let a = f.args in
    let k = words-front a.kinds.now a.labels.now (replicate 1024 0) _ (omega arith) f.fill_words.ensures in
    let e : r.result ≡ replayed_of a.file.now (replicate 4096 0) (replicate 2048 0) (call_words a.kinds.now a.labels.now) (replicate 5120 0) = rw k at r.ensures.outcome in
    let b : _ ≡ answers_after a.file.now (replicate 4096 0) (replicate 2048 0) (call_words a.kinds.now a.labels.now) (replicate 5120 0) = rw k at r.ensures.written in
    let t = text-done a.file.now a.kinds.now a.labels.now (replicate 4096 0) (replicate 5120 0) f.if-labels-gt1024.false f.if-kinds-labels.false (omega arith) (omega arith) r.result e h.if-r-ne0.false _ b r.auto.answers in
    let e = c.transcript.ensures in
    record { writes = writes-same t e.writes; labels_len_bound = rw (← t) e.at_len_bound }
