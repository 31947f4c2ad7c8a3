-- `export_hold::model_kept` meets its contract, part by part.
use Rattle.export_hold.proofs.FillLaws.{model_held-made}
use Rattle.export_hold.proofs.model_kept.Goals as goal

pub returns : goal.returns
returns c = model_held-made _ _ _ _ c.from.ensures c.segments_held.ensures c.starts_held.ensures
