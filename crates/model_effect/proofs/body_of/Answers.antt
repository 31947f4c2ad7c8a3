-- `model_effect::body_of` meets its contract: as many statements as the segment counts, and no more than there are.
use Rattle.std.proofs.lemmas.List.{take_min}
use Rattle.model.specs.Values.{body_of}
use Rattle.model_effect.proofs.body_of.Goals as goal

pub returns : goal.returns
unfolding body_of
returns c = rw (c.min.ensures, c.from.ensures) (take_min _ _)
