-- `writer_print::rewrite_text` meets its contract: accepted or refused.
use mathlib.Core.Path.{refl}
use Rattle.refusal.proofs.NumberLaws.{number_of-not_0}
use Rattle.writer_print.proofs.AgainLaws.{again-refused, again-saved, again-same}
use Rattle.writer_print.proofs.rewrite_text.Goals as goal

pub returns-in-Ok : goal.returns-in-Ok
returns-in-Ok c =
    let file = c.args.file.now in
    record { text = again-saved file _ c.in-Ok.ensures _ _ c.write.result c.written_length.result refl c.write.ensures.saves c.written_length.ensures; same = again-same file }

pub returns-in-Err : goal.returns-in-Err
returns-in-Err c =
    let file = c.args.file.now in
    record { text = rw (c.from.ensures, again-refused file _ c.in-Err.ensures (number_of-not_0 c.in-Err.r)) at c.refusal.ensures.writes; same = again-same file }
