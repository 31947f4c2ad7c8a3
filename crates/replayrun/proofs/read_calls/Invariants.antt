-- `replayrun::read_calls` meets its contract: the buffers keep their lengths.
use Rattle.std.proofs.Common.{length, ◌≡◌}
use Rattle.replayrun.proofs.read_calls.Given as goal

abbrev pub invariant-loop-n : goal.invariant-loop-n
invariant-loop-n g l = (length l.kinds ≡ length l.initial.kinds) × (length l.text ≡ 21)
