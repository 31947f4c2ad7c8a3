-- `buffers::put_byte` meets its contract. One byte, or none where there is no room.
use Rattle.buffers.proofs.PutLaws.{puts-byte, puts-full}
use Rattle.buffers.proofs.put_byte.Goals as goal

pub returns-then-at-out : goal.returns-then-at-out
returns-then-at-out c = puts-byte _ _ _ c.if-at-out.true

pub returns : goal.returns
returns c = puts-full _ _ _ c.if-at-out.false
