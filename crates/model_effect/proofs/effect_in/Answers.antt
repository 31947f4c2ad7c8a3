-- `model_effect::effect_in` meets its contract: the statements, the events, then the closer on the variables after them.
use Rattle.model_effect.proofs.EffectLaws.{effect-held}
use Rattle.model_effect.proofs.effect_in.Goals as goal

pub returns : goal.returns
returns c = effect-held _ _ _ _ _ _ _ c.execute_all-variables.ensures c.listed-notified.ensures c.closed_at-thread.ensures
