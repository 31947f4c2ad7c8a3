-- `export_state::threads_into` meets its contract. The invariant: the words of the first k records.
use mathlib.Core.Path.{◌≡◌}
use lib.ListN.{take}
use lib.Seq.{sets}
use Rattle.export_state.specs.Numbers.{thread_words, in_turn}
use Rattle.export_state.proofs.threads_into.Given as goal

abbrev pub invariant-loop-k : goal.invariant-loop-k
invariant-loop-k l = l.records ≡ sets l.initial.records 0 (in_turn thread_words (take l.k l.fn.threads.at))
