-- `early_answer::decide_finish` meets its contract. 10, 19, or 0.
use mathlib.Core.Path.{ap, sym, ◌∙◌}
use native.Mathlib.Omega.{arith}
use lib.ListN.{get_or}
use Rattle.model.specs.Record.{no_thread, is_running}
use Rattle.early_answer.proofs.AnsweredLaws.{finish-thread, finish-other, finish-running}
use Rattle.early_answer.proofs.VariantLaws.{is_running-self, is_running-other}
use Rattle.early_answer.proofs.decide_finish.Goals as goal

pub returns-then-t-k : goal.returns-then-t-k
returns-then-t-k c = let x = c.args in finish-thread x.t x.threads.at x.k (omega arith)

pub returns-in_default : goal.returns-in_default
returns-in_default c =
    let x = c.args in
    let i = c.from-i in
    finish-other x.t x.threads.at x.k (omega arith) (ap (λ j. is_running (get_or x.threads.at j no_thread).state) (sym i.ensures) ∙ is_running-other (get_or x.threads.at i.result no_thread).state c.in_default.not-Running)

pub returns : goal.returns
returns c =
    let x = c.args in
    let i = c.from-i in
    finish-running x.t x.threads.at x.k (omega arith) (ap (λ j. is_running (get_or x.threads.at j no_thread).state) (sym i.ensures) ∙ is_running-self _ _ c.in-Running.is)
