-- `test_files::runs::read_calls` meets its contract: the buffers keep their lengths.
use Rattle.std.proofs.Common.{length, ◌≡◌}
use Rattle.test_files.proofs.runs.read_calls.Given as goal

abbrev pub invariant-loop-i : goal.invariant-loop-i
invariant-loop-i g l = length l.text ≡ 21
