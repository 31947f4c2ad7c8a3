-- `buffers::put_last` meets its contract. The number, then the line feed.
use native.Mathlib.Omega.{arith}
use Rattle.buffers.specs.Line.{rest_of}
use Rattle.buffers.proofs.PutLaws.{puts_then}
use Rattle.buffers.proofs.put_last.Goals as goal

pub returns : goal.returns
unfolding rest_of
returns c = (puts_then c.put_number-a.ensures.0 c.put_byte.ensures, omega arith)
