-- `model_effect::mapped_segment` meets its contract. The invariant: the first statements, below the index, are mapped.
use Rattle.std.proofs.Common.{◌≡◌}
use Rattle.base.specs.Index.{store_to}
use Rattle.model_effect.proofs.PortLaws.{statement_for}
use Rattle.model_effect.proofs.mapped_segment.Given as goal

abbrev pub invariant-loop-x : goal.invariant-loop-x
invariant-loop-x l = l.x-items ≡ store_to (statement_for l.ports l.g.statements) 0 l.g.statements l.x-index
