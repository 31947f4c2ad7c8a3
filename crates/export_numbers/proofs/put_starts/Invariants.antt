-- `export_numbers::put_starts` meets its contract. The invariant: the numbers of the first k threads.
use mathlib.Core.Path.{◌≡◌}
use lib.Seq.{sets}
use Rattle.model.specs.Values.{start_at}
use Rattle.writer.specs.Bytes.{joined}
use Rattle.export_model.specs.Numbers.{segment_place, start_numbers}
use Rattle.export_numbers.proofs.put_starts.Given as goal

abbrev pub invariant-loop-k : goal.invariant-loop-k
invariant-loop-k l = l.xs ≡ sets l.initial.xs (segment_place l.fn.m.n) (joined l.k 0 (λ i. start_numbers (start_at l.fn.m i)))
