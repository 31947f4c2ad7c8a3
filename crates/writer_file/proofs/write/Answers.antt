-- `writer_file::write` meets its contract. The number first, then the room; what is written is read back.
use mathlib.Core.Path.{sym, ◌∙◌}
use native.Mathlib.Omega.{arith}
use Rattle.buffers.proofs.WrittenLaws.{saves-number, saves-short, saves-text}
use Rattle.model.specs.Rules.{model_fault}
use Rattle.writer.specs.File.{file_of}
use Rattle.writer_file.proofs.BackLaws.{saves-back}
use Rattle.refusal.proofs.NumberLaws.{number_of-not_0}
use Rattle.writer_file.proofs.write.Goals as goal

pub returns-in-Err : goal.returns-in-Err
returns-in-Err c =
    let s = saves-number c.args.out.now (file_of c.args.m) (model_fault c.args.m) _ (c.from.ensures ∙ c.in-Err.ensures) (λ z. number_of-not_0 c.in-Err.fault (sym c.from.ensures ∙ z)) in
    record { saves = s; back = (saves-back c.args.m _ c.well_formed.0 _ _ _ s).1 }

pub returns-then-out-size : goal.returns-then-out-size
returns-then-out-size c =
    let good = sym c.in_default.ensures in
    let s = saves-short c.args.out.now (file_of c.args.m) (model_fault c.args.m) good (omega (arith, c.size_of-size.ensures, c.if-out-size.true)) in
    let t = rw (← c.from-then-out-size.ensures) at s in record { saves = t; back = (saves-back c.args.m _ c.well_formed.0 _ _ _ t).1 }

pub returns : goal.returns
returns c =
    let good = sym c.in_default.ensures in
    let s = saves-text c.args.out.now (file_of c.args.m) (model_fault c.args.m) c.put_file.new.out _ good (omega (arith, c.size_of-size.ensures, c.if-out-size.false)) c.put_file.ensures in
    record { saves = s; back = (saves-back c.args.m _ c.well_formed.0 _ _ _ s).1 }
