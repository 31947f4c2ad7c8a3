-- `tables_distance::distances` meets its contract: the number and, where there is none, the words.
use mathlib.Core.Path.{refl}
use Rattle.std.proofs.lemmas.Result.{err_from_is_err_and}
use Rattle.refusal.proofs.NumberLaws.{number_of-not_0}
use Rattle.tables.specs.Outcome.{distances_number, is_short}
use Rattle.tables.proofs.OutcomeLaws.{distances-stored}
use Rattle.tables_laws.proofs.WordLaws.{stored-holds}
use Rattle.tables_distance.proofs.RefusalLaws.{accepted-held, refused-buffer}
use Rattle.tables_distance.proofs.distances.Goals as goal

pub returns-in_err-refusal : goal.returns-in_err-refusal
unfolding distances_number is_short
returns-in_err-refusal c =
    let p = err_from_is_err_and c.from_residual.result c.from_residual.ensures.1 in
    rw (p.1, p.2)
    (record {
      number = c.in_err-refusal.ensures;
      buffer = refused-buffer _ _ _ c.in_err-refusal.ensures (number_of-not_0 c.in_err-refusal.field-0.0);
      least = λ z. absurd (number_of-not_0 c.in_err-refusal.field-0.0 z);
    })

pub fill-requires : goal.fill-requires
unfolding distances_number is_short
fill-requires c = accepted-held _ _ _ c.in_ok-refusal.ensures refl

pub returns : goal.returns
unfolding distances_number is_short
returns c =
    let x = c.args in
    let number = c.in_ok-refusal.ensures in
    let (fit, room) = accepted-held x.m x.words.now _ number refl in
    let made = c.fill.ensures in
    record {
      number = number;
      buffer = (distances-stored x.m x.words.now _ fit room made).1;
      least = λ z. rw made (stored-holds x.m fit x.words.now);
    }
