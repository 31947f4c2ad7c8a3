-- `model_reach::ports_of` meets its contract: the statements, one after the other, and the test variable.
use mathlib.Core.Path.{refl}
use mathlib.Core.List.{[]}
use Rattle.model_reach.proofs.StoreLaws.{ports_in-none, ports_in-more, ports_of-made}
use Rattle.model_reach.proofs.ports_of.Goals as goal

pub loop-x-init : goal.loop-x-init
loop-x-init c = ports_in-none []

pub loop-x-preserved : goal.loop-x-preserved
loop-x-preserved c =
    let l = c.loop-x in
    ports_in-more _ l.x-index _ _ _ c.loop-x-test.true l.invariant c.op_ports-w.ensures

pub returns : goal.returns
returns c =
    let l = c.loop-x in
    ports_of-made c.args.g.now l.x-index _ _ _ (rw (c.min.ensures, c.from.ensures) refl) c.loop-x-test.false l.invariant c.test_port.ensures
