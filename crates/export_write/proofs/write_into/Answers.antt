-- `export_write::write_into` meets its contract: no place, a number, no room, or the file and its length.
use mathlib.Core.Path.{refl}
use native.Mathlib.Omega.{arith}
use Rattle.refusal.proofs.NumberLaws.{number_of-not_0}
use Rattle.export_write.proofs.CallLaws.{files-no-place, files-number, files-short, files-written}
use Rattle.export_write.proofs.write_into.Goals as goal

pub returns-then-length-eq0 : goal.returns-then-length-eq0
returns-then-length-eq0 c =
    let s = c.args in
    files-no-place s.numbers.now s.out.now s.length.now c.if-length-eq0.true

pub returns-in-Err : goal.returns-in-Err
returns-in-Err c =
    let s = c.args in
    files-number s.numbers.now s.out.now s.length.now c.if-length-eq0.false _ (omega (arith, c.from-number.ensures, c.in-Err.ensures))
    (omega (arith, c.from-number.ensures, number_of-not_0 c.in-Err.r))

pub returns-then-refusal-eq0 : goal.returns-then-refusal-eq0
returns-then-refusal-eq0 c =
    let s = c.args in
    let m = c.model_held-m in
    let w = c.write-written in
    let r = c.written_number-refusal in
    files-written s.numbers.now s.out.now s.length.now c.if-length-eq0.false _ c.in_default.ensures refl m.result m.ensures _ w.result w.ensures.saves r.result r.ensures
    c.written_length.result c.written_length.ensures c.if-refusal-eq0.true

pub returns-else-refusal-eq0 : goal.returns-else-refusal-eq0
returns-else-refusal-eq0 c =
    let s = c.args in
    let m = c.model_held-m in
    let w = c.write-written in
    let r = c.written_number-refusal in
    files-short s.numbers.now s.out.now s.length.now c.if-length-eq0.false _ c.in_default.ensures refl m.result m.ensures _ w.result w.ensures.saves r.result r.ensures c.if-refusal-eq0.false
