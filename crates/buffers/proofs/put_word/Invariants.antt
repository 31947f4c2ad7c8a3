-- `buffers::put_word` meets its contract. The invariant: the first bytes of the word, below the index, are put.
use lib.ListN.{take}
use Rattle.buffers.specs.Put.{Puts}
use Rattle.buffers.proofs.put_word.Given as goal

abbrev pub invariant-loop-byte : goal.invariant-loop-byte
invariant-loop-byte l = Puts l.initial.out l.at l.out l.to (take l.byte-index l.word)
