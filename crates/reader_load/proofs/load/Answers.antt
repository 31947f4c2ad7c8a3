-- `reader_load::load` meets its contract.
use mathlib.Core.Path.{refl}
use Rattle.std.proofs.lemmas.Result.{err_from_is_err_and}
use Rattle.refusal.proofs.NumberLaws.{number_of-not_0}
use Rattle.reader_load.proofs.LoadLaws.{load-refused, load-short, load-done}
use Rattle.reader_load.proofs.load.Goals as goal

pub returns-in_err-m : goal.returns-in_err-m
returns-in_err-m c =
    let p = err_from_is_err_and c.from_residual.result c.from_residual.ensures.1 in
    let (loaded, buffer) = load-refused c.args.bytes.now c.args.words.now _ c.in_err-m.ensures (number_of-not_0 c.in_err-m.field-0.0) in
    rw (p.1, p.2) (record { loaded = loaded; buffer = buffer })

pub returns-in_err-distances : goal.returns-in_err-distances
returns-in_err-distances c =
    let p = err_from_is_err_and c.from_residual-in_err-distances.result c.from_residual-in_err-distances.ensures.1 in
    let d = c.in_err-distances.ensures in
    let (loaded, buffer) = load-short c.args.bytes.now c.args.words.now _ c.in_ok-m.ensures refl _ _ d.number (number_of-not_0 c.in_err-distances.field-0.0) d.buffer in
    rw (p.1, p.2) (record { loaded = loaded; buffer = buffer })

pub returns : goal.returns
returns c =
    let d = c.in_ok-distances.ensures in
    let (loaded, buffer) = load-done c.args.bytes.now c.args.words.now _ c.in_ok-m.ensures refl 0 _ d.number refl d.buffer in
    record { loaded = loaded; buffer = buffer }
