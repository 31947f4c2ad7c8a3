-- `buffers::copy_in` meets its contract: no room for the text, or room.
use Rattle.buffers.proofs.WriteLaws.{writes_room, writes_short}
use Rattle.buffers.proofs.copy_in.Goals as goal

pub returns-then-out-text : goal.returns-then-out-text
returns-then-out-text c = writes_short c.args.text.now c.args.out.now c.if-out-text.true

pub returns : goal.returns
returns c = rw c.copy_from_slice.ensures.after (writes_room c.args.text.now c.args.out.now c.if-out-text.false)
