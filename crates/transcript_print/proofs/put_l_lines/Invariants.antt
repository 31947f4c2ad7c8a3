-- `transcript_print::put_l_lines` meets its contract. The invariant: the lines of the first pairs, below the index, are put.
use Prim.Native.Nat.{◌+◌, ◌*◌, ◌≤◌}
use Rattle.buffers.specs.Put.{Puts}
use Rattle.transcript.specs.Transcript.{l_lines}
use Rattle.transcript_print.proofs.put_l_lines.Given as goal

abbrev pub invariant-loop-x : goal.invariant-loop-x
invariant-loop-x l = Puts l.initial.out l.at l.out l.to (l_lines l.x-index l.fn.site.log) × (l.to ≤ l.at + 65 * l.x-index)
