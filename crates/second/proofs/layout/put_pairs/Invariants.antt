-- `second::layout::put_pairs` meets its contract.
use Rattle.std.proofs.Common.{◌≡◌}
use Rattle.second.specs.Layout.{pairs_to}
use Rattle.second.proofs.layout.put_pairs.Given as goal

abbrev pub invariant-loop-i : goal.invariant-loop-i
invariant-loop-i l = l.out ≡ pairs_to l.desk l.initial.out l.i
