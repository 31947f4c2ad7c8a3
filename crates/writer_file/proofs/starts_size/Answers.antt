-- `writer_file::starts_size` meets its contract. The invariant: the first i threads are counted.
use mathlib.Core.Path.{◌≡◌, refl}
use native.Mathlib.Omega.{arith}
use borrow.Author.Rules.{rules}
use Rattle.model.specs.Values.{start_at}
use Rattle.writer_file.proofs.SizeLaws.{starts_none, starts-all, starts-read}
use Rattle.writer_file.proofs.starts_size.Goals as goal

pub loop-i-init : goal.loop-i-init
loop-i-init c = starts_none _

pub loop-i-preserved : goal.loop-i-preserved
unfolding start_at
loop-i-preserved c =
    let is : c.unwrap_or-s.result ≡ start_at c.args.m c.loop-i.i = search rules in
    starts-read c.args.m c.loop-i.i _ _ c.loop-i.invariant _ _ is c.start_size-size.ensures.0 refl

pub returns : goal.returns
returns c = starts-all _ c.loop-i.i _ (omega arith) (omega arith) c.loop-i.invariant
