-- `buffers::put` meets its contract: the part that is written over.
use native.Mathlib.Omega.{arith}
use Rattle.buffers.proofs.StoreLaws.{put_mid-sets}
use Rattle.buffers.proofs.put.Goals as goal

pub returns : goal.returns
returns g c = put_mid-sets c.args.at _ c.args.out.now _ c.args.from.now c.copy_from_slice.ensures.after (omega arith) c.requires
