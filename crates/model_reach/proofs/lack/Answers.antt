-- `model_reach::lack` meets its contract: the segments that lack a port, then those that reach one of them.
use mathlib.Core.Path.{refl, ◌∙◌}
use Rattle.model_reach.specs.Store.{lack_of}
use Rattle.model_reach.proofs.lack.Goals as goal

pub returns : goal.returns
unfolding lack_of
returns c = c.meeting-2.ensures ∙ rw (c.meeting.ensures, c.unused_ports.ensures, c.requires) refl
