-- `early_deliver::Board::crew` meets its contract. The invariant: the first k places are filled.
use Rattle.early_deliver.proofs.CrewLaws.{CrewTo}
use Rattle.early_deliver.proofs.Board.crew.Given as goal

abbrev pub invariant-loop-k : goal.invariant-loop-k
invariant-loop-k l = CrewTo l.fn.threads.at l.segments l.events l.since l.k
