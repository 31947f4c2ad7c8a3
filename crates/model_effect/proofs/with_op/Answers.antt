-- `model_effect::with_op` meets its contract: one event more, or none.
use Rattle.std.proofs.Common.{refl}
use Rattle.model_effect.proofs.VariantLaws.{with_op-other}
use Rattle.model_effect.proofs.with_op.Goals as goal

pub returns-in_default : goal.returns-in_default
returns-in_default c = with_op-other _ c.args.op c.in_default.not-Notify

pub returns : goal.returns
returns c = rw (c.in-Notify.is, c.from.ensures) refl
