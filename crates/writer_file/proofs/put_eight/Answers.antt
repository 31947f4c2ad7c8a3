-- `writer_file::put_eight` meets its contract. The invariant: the numbers of the ports passed are put.
use Prim.Native.Nat.{ℕ}
use mathlib.Core.List.{List}
use mathlib.Core.Path.{◌≡◌, refl}
use native.Mathlib.Omega.{arith}
use Rattle.buffers.proofs.PutLaws.{puts_none}
use Rattle.model.specs.Port.{port_of}
use Rattle.writer.specs.Bytes.{bytes_of}
use Rattle.writer_segment.proofs.JoinLaws.{joined-none, puts-joined}
use Rattle.writer_file.proofs.put_eight.Goals as goal

pub loop-x-init : goal.loop-x-init
loop-x-init c = rw (joined-none 0 (λ p. bytes_of 1 (port_of c.args.ports p))) (puts_none _ _ _ c.min-to.ensures)

pub loop-x-preserved : goal.loop-x-preserved
loop-x-preserved c =
    let f : ℕ → List ℕ = λ p. bytes_of 1 (port_of c.args.ports p) in
    puts-joined f c.loop-x.x-index c.loop-x.invariant c.put_one-to.ensures refl

pub returns : goal.returns
returns c = let e : c.loop-x.x-index ≡ 8 = omega arith in rw e at c.loop-x.invariant
