-- `transcript_print::put_call_lines` meets its contract. The invariant: the lines of the first i calls are put.
use Prim.Native.Nat.{◌*◌, ◌≤◌}
use Rattle.buffers.specs.Put.{Puts}
use Rattle.transcript.specs.Transcript.{call_lines}
use Rattle.transcript_print.proofs.put_call_lines.Given as goal

abbrev pub invariant-loop-i : goal.invariant-loop-i
invariant-loop-i l = Puts l.initial.out 0 l.out l.to (call_lines l.i l.labels l.answers) × (l.to ≤ 95 * l.i)
