-- The invariant: the ports so far keep the rule.
use Prim.Native.Nat.{ℕ, ◌<◌}
use mathlib.Core.Path.{◌≡◌}
use mathlib.Core.Bool.{false}
use Rattle.model_rules.proofs.FaultLaws.{port_wrong}
use Rattle.model_rules.proofs.ports_fault.Given as goal

abbrev pub invariant-loop-x : goal.invariant-loop-x
invariant-loop-x l = (i : ℕ) → i < l.x-index → port_wrong l.v l.fn.ports i ≡ false
