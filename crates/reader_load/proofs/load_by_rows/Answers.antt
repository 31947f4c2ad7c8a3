-- `reader_load::load_by_rows` meets its contract.
use mathlib.Core.Path.{refl}
use lib.ListN.{length}
use Rattle.std.proofs.lemmas.Result.{err_from_is_err_and}
use Rattle.refusal.proofs.NumberLaws.{number_of-not_0}
use Rattle.reader_load.proofs.LoadLaws.{rows-refused, rows_short, rows-done}
use Rattle.reader_load.proofs.load_by_rows.Goals as goal

pub returns-in_err-said : goal.returns-in_err-said
returns-in_err-said c =
    let p = err_from_is_err_and c.from_residual.result c.from_residual.ensures.1 in
    rw (p.1, p.2) (rows-refused _ _ _ c.in_err-said.ensures (number_of-not_0 c.in_err-said.field-0.0))

pub returns-then-words-lt64 : goal.returns-then-words-lt64
returns-then-words-lt64 c = rows_short c.args.bytes.now (length c.args.words.now) _ c.in_ok-said.ensures refl c.if-words-lt64.true

pub returns : goal.returns
returns c = rows-done c.args.bytes.now (length c.args.words.now) _ c.in_ok-said.ensures refl c.if-words-lt64.false
