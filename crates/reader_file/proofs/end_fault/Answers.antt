-- `reader_file::end_fault` meets its contract: 9, then 8.
use Prim.Native.Nat.{ℕ}
use mathlib.Core.Path.{sym, ap, ◌∙◌}
use lib.Dec.{leb}
use Rattle.std.proofs.lemmas.Result.{err_from_is_err_and}
use Rattle.refusal.proofs.NumberLaws.{number_of-not_0}
use Rattle.model.specs.Rules.{unless}
use Rattle.model_rules.proofs.FaultLaws.{fault-here, fault-later}
use Rattle.reader_file.specs.Parts.{end_fault}
use Rattle.reader_file.proofs.end_fault.Goals as goal

pub returns-in_err-unless : goal.returns-in_err-unless
unfolding end_fault
returns-in_err-unless c =
    let p = err_from_is_err_and c.from_residual.result c.from_residual.ensures.1 in
    rw (p.1, p.2) (fault-here _ _ _ c.in_err-unless.ensures (number_of-not_0 c.in_err-unless.field-0.0))

pub returns : goal.returns
unfolding end_fault
returns c = fault-later _ _ _ (sym c.in_ok-unless.ensures) (c.unless-2.ensures ∙ ap (λ (n : ℕ). unless (leb c.args.c.bound n) 8) c.from.ensures)
