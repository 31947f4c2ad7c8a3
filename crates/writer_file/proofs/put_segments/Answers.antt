-- `writer_file::put_segments` meets its contract. The invariant: the records of the first i segments are put.
use mathlib.Core.Path.{◌≡◌, ap}
use native.Mathlib.Omega.{arith}
use borrow.Author.Rules.{rules}
use Rattle.buffers.proofs.PutLaws.{puts_none}
use Rattle.model.specs.Values.{segment_at}
use Rattle.writer.specs.File.{segment_bytes}
use Rattle.writer_segment.proofs.JoinLaws.{joined-none, puts-joined}
use Rattle.writer_file.proofs.put_segments.Goals as goal

pub loop-i-init : goal.loop-i-init
loop-i-init c = rw (joined-none 0 (λ i. segment_bytes (segment_at c.args.m i))) (puts_none _ _ _ c.min-to.ensures)

pub loop-i-preserved : goal.loop-i-preserved
unfolding segment_at
loop-i-preserved c =
    let is : c.unwrap_or-g.result.now ≡ segment_at c.args.m c.loop-i.i = search rules in
    puts-joined (λ i. segment_bytes (segment_at c.args.m i)) c.loop-i.i c.loop-i.invariant c.put_segment-to.ensures (ap segment_bytes is)

pub returns : goal.returns
returns c = let e : c.loop-i.i ≡ c.args.m.n = omega arith in rw e at c.loop-i.invariant
