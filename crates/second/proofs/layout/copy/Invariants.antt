-- `second::layout::copy` meets its contract.
use Rattle.std.proofs.Common.{◌≡◌}
use Rattle.second.specs.Layout.{copied_to}
use Rattle.second.proofs.layout.copy.Given as goal

abbrev pub invariant-loop-i : goal.invariant-loop-i
invariant-loop-i l = l.out ≡ copied_to l.desk l.part l.initial.out l.to l.i
