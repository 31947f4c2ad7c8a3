-- `buffers::put_word` meets its contract. The invariant: the first bytes of the word, below the index, are put.
use native.Mathlib.Omega.{arith}
use Rattle.buffers.proofs.PutLaws.{puts_none, puts-more, puts-all}
use Rattle.buffers.proofs.put_word.Goals as goal

pub loop-byte-init : goal.loop-byte-init
loop-byte-init c = puts_none _ _ _ (omega arith)

pub loop-byte-preserved : goal.loop-byte-preserved
loop-byte-preserved c = puts-more c.args.word.now c.loop-byte.byte-index (omega arith) c.loop-byte.invariant c.put_byte-to.ensures

pub returns : goal.returns
returns c = puts-all c.args.word.now c.loop-byte.byte-index (omega arith) c.loop-byte.invariant
