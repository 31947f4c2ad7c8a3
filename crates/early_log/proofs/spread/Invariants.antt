-- `early_log::spread` meets its contract. The invariant: the first i places of the rows are those of the log.
use Prim.Native.Nat.{min}
use mathlib.Core.Path.{◌≡◌}
use Rattle.early_log.proofs.SpreadLaws.{SpreadTo}
use Rattle.early_log.proofs.spread.Given as goal

abbrev pub invariant-loop-i : goal.invariant-loop-i
invariant-loop-i l = (l.rows.n ≡ min l.fn.site.count 128) × SpreadTo l.fn.site l.rows.events l.rows.times l.rows.deltas l.i
