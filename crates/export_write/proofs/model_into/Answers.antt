-- `export_write::model_into` meets its contract: refused, no room, or all the numbers.
use Prim.Native.Nat.{ℕ}
use mathlib.Core.Path.{refl, subst}
use native.Mathlib.Omega.{arith}
use Rattle.refusal.proofs.NumberLaws.{number_of-not_0}
use Rattle.export_write.specs.Call.{Models}
use Rattle.export_write.proofs.CallLaws.{models-refused, models-short, models-written}
use Rattle.export_write.proofs.model_into.Goals as goal

pub returns-in-Err : goal.returns-in-Err
returns-in-Err c =
    let s = c.args in
    subst (λ (n : ℕ). Models s.file.now s.numbers.now n s.numbers.now) (omega (arith, c.from-refused.ensures))
    (models-refused s.file.now s.numbers.now _ c.in-Err.ensures (number_of-not_0 c.in-Err.r))

pub returns-then-numbers_into-eq0 : goal.returns-then-numbers_into-eq0
returns-then-numbers_into-eq0 c =
    let n = c.numbers_into in
    models-short c.args.file.now c.args.numbers.now _ c.in-Ok.ensures _ n.result refl n.ensures c.if-numbers_into-eq0.true

pub returns : goal.returns
returns c =
    let n = c.numbers_into in
    models-written c.args.file.now c.args.numbers.now _ c.in-Ok.ensures _ n.result refl n.ensures c.if-numbers_into-eq0.false
