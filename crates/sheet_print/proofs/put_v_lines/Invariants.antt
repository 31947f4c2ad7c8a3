-- `sheet_print::put_v_lines` meets its contract. The invariant: the lines of the first i variables are put.
use Prim.Native.Nat.{◌+◌, ◌*◌, ◌≤◌}
use Rattle.buffers.specs.Put.{Puts}
use Rattle.sheet.specs.Sheet.{v_lines}
use Rattle.sheet_print.proofs.put_v_lines.Given as goal

abbrev pub invariant-loop-i : goal.invariant-loop-i
invariant-loop-i l = Puts l.initial.out l.at l.out l.to (v_lines l.i l.fn.xs.at) × (l.to ≤ l.at + 44 * l.i)
