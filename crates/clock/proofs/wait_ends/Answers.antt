-- `clock::wait_ends` meets its contract: the step over the wait's passage.
use Rattle.std.proofs.Common.{◌∙◌}
use Rattle.clock.proofs.WaitLaws.{wait-over}
use Rattle.clock.proofs.wait_ends.Goals as goal

pub returns : goal.returns
returns c = c.step_over.ensures ∙ (rw c.passage_of.ensures (wait-over _ _))
