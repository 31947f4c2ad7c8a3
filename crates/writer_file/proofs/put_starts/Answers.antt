-- `writer_file::put_starts` meets its contract. The invariant: the records of the first k threads are put.
use mathlib.Core.Path.{◌≡◌, ap}
use native.Mathlib.Omega.{arith}
use borrow.Author.Rules.{rules}
use Rattle.buffers.proofs.PutLaws.{puts_none}
use Rattle.model.specs.Values.{start_at}
use Rattle.writer.specs.File.{start_bytes}
use Rattle.writer_segment.proofs.JoinLaws.{joined-none, puts-joined}
use Rattle.writer_file.proofs.put_starts.Goals as goal

pub loop-k-init : goal.loop-k-init
loop-k-init c = rw (joined-none 0 (λ k. start_bytes (start_at c.args.m k))) (puts_none _ _ _ c.min-to.ensures)

pub loop-k-preserved : goal.loop-k-preserved
unfolding start_at
loop-k-preserved c =
    let is : c.unwrap_or-s.result ≡ start_at c.args.m c.loop-k.k = search rules in
    puts-joined (λ k. start_bytes (start_at c.args.m k)) c.loop-k.k c.loop-k.invariant c.put_thread-to.ensures (ap start_bytes is)

pub returns : goal.returns
returns c = let e : c.loop-k.k ≡ c.args.m.t = omega arith in rw e at c.loop-k.invariant
