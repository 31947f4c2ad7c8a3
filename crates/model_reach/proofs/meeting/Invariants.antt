-- `model_reach::meeting` meets its contract: a bit for each word.
use mathlib.Core.Path.{◌≡◌}
use Rattle.masks.specs.Mask.{mask_of}
use Rattle.model_reach.specs.Store.{meets}
use Rattle.model_reach.proofs.meeting.Given as goal

abbrev pub invariant-loop-i : goal.invariant-loop-i
invariant-loop-i l = l.out ≡ mask_of (meets l.words l.w) l.i
