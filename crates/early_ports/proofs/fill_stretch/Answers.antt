-- `early_ports::fill_stretch` meets its contract: a word for each segment.
use Prim.Native.Nat.{◌*◌}
use mathlib.Core.Path.{refl, ap, ◌∙◌}
use native.Mathlib.Omega.{arith}
use lib.ListN.{length-take}
use lib.Seq.{get_or-take}
use Rattle.base.proofs.IndexLaws.{store_to-none, store_to-more}
use Rattle.model.specs.Values.{segment_at}
use Rattle.model_reach.proofs.ReadLaws.{segments-length, segment_at-read}
use Rattle.early_ports.specs.Names.{name_word, stretch}
use Rattle.early_ports.proofs.fill_stretch.Goals as goal

pub loop-s-init : goal.loop-s-init
unfolding stretch
loop-s-init c = store_to-none _ _ _

pub loop-s-preserved : goal.loop-s-preserved
unfolding stretch
loop-s-preserved c =
    let x = c.args in
    let l = c.loop-s in
    let size = segments-length x.m _ c.well_formed.0 in
    let front = length-take x.n x.m.segments in
    let read = get_or-take x.n x.m.segments l.s _ (omega arith) ∙ segment_at-read x.m l.s _ (omega arith) in
    store_to-more (λ s vs. name_word x.q (segment_at x.m s)) (64 * x.q) x.names.now l.s _ l.names c.name_word.result
    l.invariant refl
    (c.name_word.ensures ∙ ap (name_word x.q) read)
