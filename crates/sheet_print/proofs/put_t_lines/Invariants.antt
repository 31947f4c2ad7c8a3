-- `sheet_print::put_t_lines` meets its contract. The invariant: the lines of the first k threads are put.
use Prim.Native.Nat.{◌+◌, ◌*◌, ◌≤◌}
use Rattle.buffers.specs.Put.{Puts}
use Rattle.sheet.specs.Sheet.{t_lines}
use Rattle.sheet_print.proofs.put_t_lines.Given as goal

abbrev pub invariant-loop-k : goal.invariant-loop-k
invariant-loop-k l = Puts l.initial.out l.at l.out l.to (t_lines l.k l.fn.xs.at) × (l.to ≤ l.at + 112 * l.k)
