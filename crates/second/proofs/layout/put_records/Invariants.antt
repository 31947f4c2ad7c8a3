-- `second::layout::put_records` meets its contract.
use Rattle.std.proofs.Common.{◌≡◌}
use Rattle.second.specs.Layout.{records_to}
use Rattle.second.proofs.layout.put_records.Given as goal

abbrev pub invariant-loop-k : goal.invariant-loop-k
invariant-loop-k l = l.out ≡ records_to l.desk l.initial.out l.k
