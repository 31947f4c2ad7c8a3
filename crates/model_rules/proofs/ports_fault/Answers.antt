-- `model_rules::ports_fault` meets its contract.
use mathlib.Core.Logic.{⊎_elim}
use native.Mathlib.Omega.{arith}
use borrow.Author.Count.{below_more}
use Rattle.model_rules.proofs.FaultLaws.{port_wrong-at, port_wrong-unused, port_wrong-below, ports_fault-here, ports_fault-none}
use Rattle.model_rules.proofs.ports_fault.Goals as goal

pub returns-then-v-x : goal.returns-then-v-x
returns-then-v-x c = ports_fault-here _ _ c.loop-x.x-index c.loop-x-test.true (port_wrong-at _ _ c.loop-x.x-index c.if-x.true c.if-v-x.true)

pub loop-x-preserved : goal.loop-x-preserved
loop-x-preserved c =
    below_more _ _ c.loop-x.invariant
    (⊎_elim (λ w. port_wrong-below _ _ c.loop-x.x-index w.1) (λ w. port_wrong-unused _ _ c.loop-x.x-index w) c.else-x.either)

pub returns : goal.returns
returns c = ports_fault-none _ _ c.loop-x.x-index (omega arith) c.loop-x.invariant
