-- `second::view::Bounds::soonest` meets its contract.
use Rattle.std.proofs.Common.{◌<◌, IfSome}
use Rattle.second.proofs.view.Bounds.soonest.Given as goal

abbrev pub invariant-loop-k : goal.invariant-loop-k
invariant-loop-k l = IfSome l.soonest (λ k. k < 32)
