-- `writer_segment::put_one` meets its contract. A byte is itself modulo 256.
use native.Mathlib.Omega.{arith}
use Rattle.writer_segment.proofs.JoinLaws.{bytes_of-byte}
use Rattle.writer_segment.proofs.put_one.Goals as goal

pub returns : goal.returns
returns c = rw (bytes_of-byte c.args.x (omega arith)) c.put_byte.ensures
