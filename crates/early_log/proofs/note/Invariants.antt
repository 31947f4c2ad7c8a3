-- `early_log::note` meets its contract. The invariant: the places hold the log with the pairs of the first events, as far as there is room.
use lib.ListN.{take}
use Rattle.early.specs.Log.{with_pairs}
use Rattle.early_log.proofs.NotedLaws.{Holding}
use Rattle.early_log.proofs.note.Given as goal

abbrev pub invariant-loop-e : goal.invariant-loop-e
invariant-loop-e l = Holding (with_pairs (take l.initial.count l.initial.log) l.c (take l.e-index l.e-items)) l.log l.count
