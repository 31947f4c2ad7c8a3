-- `export_state::variables_into` meets its contract: 64 values, if there is room.
use mathlib.Core.Path.{◌∙◌}
use native.Mathlib.Omega.{arith}
use Rattle.buffers.proofs.WriteLaws.{placed_in-short, placed_in-stored}
use Rattle.model_effect.proofs.LengthLaws.{variables_length}
use Rattle.export_state.proofs.variables_into.Goals as goal

pub returns-then-out-lt64 : goal.returns-then-out-lt64
returns-then-out-lt64 c = let size = variables_length c.args.values _ c.well_formed.0 in placed_in-short c.args.values.at c.args.out.now (omega arith)

pub returns : goal.returns
returns c = let size = variables_length c.args.values _ c.well_formed.0 in c.put.ensures ∙ placed_in-stored c.args.values.at c.args.out.now (omega arith)
