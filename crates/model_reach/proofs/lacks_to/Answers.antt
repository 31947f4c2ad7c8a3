-- `model_reach::lacks_to` meets its contract: a word for each thread.
use mathlib.Core.Path.{◌≡◌, ap, ◌∙◌}
use native.Mathlib.Omega.{arith}
use lib.ListN.{length}
use Rattle.base.proofs.IndexLaws.{store_to-none, store_to-more}
use Rattle.base.proofs.ListLaws.{get_d_any}
use Rattle.model.specs.declared.Start.{Start}
use Rattle.model.specs.Values.{no_start}
use Rattle.model_reach.specs.Store.{lack_of, lacks_to}
use Rattle.model_reach.proofs.lacks_to.Goals as goal

pub loop-k-init : goal.loop-k-init
unfolding lacks_to
loop-k-init c = store_to-none _ _ _

pub loop-k-preserved : goal.loop-k-preserved
unfolding lacks_to
loop-k-preserved c =
    let x = c.args in
    let l = c.loop-k in
    store_to-more _ 0 _ l.k l.k _ _ l.invariant (omega arith)
    (c.lack.ensures ∙ ap (λ (s : Start). lack_of x.names.now x.rows.now (length x.names.now) s.ports) (get_d_any x.starts.now l.k _ no_start (omega (arith, c.told-starts))))

pub returns : goal.returns
returns c = let e : c.loop-k.k ≡ 32 = omega arith in rw e at c.loop-k.invariant
