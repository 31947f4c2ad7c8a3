-- `transcript_print::put_call_lines` meets its contract. The invariant: the lines of the first i calls are put.
use mathlib.Core.Path.{◌≡◌, refl}
use native.Mathlib.Omega.{arith}
use lib.ListN.{length}
use Rattle.buffers.proofs.PutLaws.{puts_none, puts-next}
use Rattle.transcript.specs.Transcript.{call_lines}
use Rattle.transcript_print.proofs.put_call_lines.Goals as goal

pub loop-i-init : goal.loop-i-init
unfolding call_lines
loop-i-init c = (puts_none _ _ _ (omega arith), omega arith)

pub loop-i-preserved : goal.loop-i-preserved
unfolding call_lines
loop-i-preserved c =
    let a = c.args in
    (puts-next (λ i. call_lines i a.labels.now a.answers.now) c.loop-i.i c.loop-i.invariant.0 c.put_call_line-to.ensures.0 refl, omega arith)

pub returns : goal.returns
returns c =
    let e : c.loop-i.i ≡ length c.args.labels.now = omega arith in
    (rw e at c.loop-i.invariant.0, omega arith)
