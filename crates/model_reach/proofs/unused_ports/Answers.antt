-- `model_reach::unused_ports` meets its contract: a bit for each port.
use mathlib.Core.Path.{◌≡◌, refl}
use native.Mathlib.Omega.{arith}
use lib.Dec.{eqb}
use Rattle.masks.proofs.MaskLaws.{mask_of-start, mask_of-more}
use Rattle.model.specs.Port.{unused, port_of}
use Rattle.model_reach.specs.Store.{unused_of}
use Rattle.model_reach.proofs.unused_ports.Goals as goal

pub loop-p-init : goal.loop-p-init
loop-p-init c = mask_of-start _

pub loop-p-preserved : goal.loop-p-preserved
loop-p-preserved c =
    let ps = c.args.ports.now in
    let l = c.loop-p in
    mask_of-more (λ q. eqb (port_of ps q) unused) l.p _ _ _ l.invariant refl c.with_if-out.ensures

pub returns : goal.returns
unfolding unused_of
returns c = let e : c.loop-p.p ≡ 8 = omega arith in rw e at c.loop-p.invariant
