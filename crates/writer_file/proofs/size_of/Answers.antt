-- `writer_file::size_of` meets its contract. The invariant: the head, the threads, the end and the first i segments are counted.
use mathlib.Core.Path.{◌≡◌, refl, ◌∙◌}
use native.Mathlib.Omega.{arith}
use borrow.Author.Rules.{rules}
use Rattle.model.specs.Values.{segment_at}
use Rattle.writer_file.proofs.SizeLaws.{counted_none, counted-all, counted-read}
use Rattle.writer_file.proofs.size_of.Goals as goal

pub loop-i-init : goal.loop-i-init
loop-i-init c = counted_none _ _ (omega arith) (omega (arith, c.starts_size-size.ensures.0))

pub loop-i-preserved : goal.loop-i-preserved
unfolding segment_at
loop-i-preserved c =
    let is : c.map_or-n.result ≡ (segment_at c.args.m c.loop-i.i).n = search rules in
    counted-read c.args.m c.loop-i.i _ _ c.loop-i.invariant _ (c.from.ensures ∙ is) (omega arith) refl

pub returns : goal.returns
returns c = counted-all _ c.loop-i.i _ (omega arith) c.loop-i.invariant
