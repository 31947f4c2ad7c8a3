-- `export_state::log_into` meets its contract: the count, then the places.
use mathlib.Core.Path.{ap, ◌∙◌}
use native.Mathlib.Omega.{arith}
use lib.ListN.{length, length-set}
use lib.Seq.{length-sets}
use Rattle.buffers.proofs.WriteLaws.{placed_in-short}
use Rattle.export_state.specs.Numbers.{log_words}
use Rattle.export_state.proofs.IntoLaws.{log_words-length, log-stored}
use Rattle.early_log.proofs.LengthLaws.{log-length}
use Rattle.export_state.proofs.log_into.Goals as goal

pub returns-then-out-lt385 : goal.returns-then-out-lt385
returns-then-out-lt385 c = placed_in-short (log_words c.args.site) c.args.out.now (omega (arith, log_words-length c.args.site (log-length c.args.site _ c.well_formed.0)))

pub put_places-requires : goal.put_places-requires
put_places-requires c = (log-length c.args.site _ c.well_formed.0, simp length-set (omega arith))

pub shape_of-out : goal.shape_of-out
shape_of-out c = ap length c.put_places.ensures ∙ simp (length-sets, length-set)

pub returns : goal.returns
returns c =
    log-stored c.args.site c.args.out.now _ _ (log-length c.args.site _ c.well_formed.0) (omega arith) c.from.ensures c.put_places.ensures
