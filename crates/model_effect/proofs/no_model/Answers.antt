-- `model_effect::no_model` meets its contract.
use Rattle.model_effect.proofs.no_model.Goals as goal

pub returns : goal.returns
returns c = rw (c.no_segment.ensures, c.no_start.ensures)
