-- `early_answer::decide_call` meets its contract. A finish, or a request and a grant.
use Prim.Native.Nat.{◌+◌}
use mathlib.Core.Path.{refl, ap, sym, ◌∙◌}
use Rattle.early.specs.Log.{log_of}
use Rattle.early.specs.Call.{finish_number}
use Rattle.early_ports.specs.Cross.{conflicts_on}
use Rattle.early_answer.specs.Answered.{number_on}
use Rattle.early_answer.proofs.AnsweredLaws.{number-finish, number-decided, places_same}
use Rattle.early_answer.proofs.decide_call.Goals as goal

pub returns-then-is_finish : goal.returns-then-is_finish
returns-then-is_finish c =
    let x = c.args in
    record {
      kept = refl;
      number = λ es l same ws shown.
          c.decide_finish.ensures
          ∙ (ap (finish_number x.desk.now.t x.threads.at) c.thread_of-k.ensures
          ∙ number-finish (x.desk.now.horizon.0 + 1) x.desk.now.n x.desk.now.t es (conflicts_on x.desk.now.marks x.desk.now.names.now x.desk.now.starts) ws x.desk.now.reach.now l (log_of x.site) x.threads.at
          x.call (sym c.is_finish.ensures ∙ c.if-is_finish.true));
    }

pub returns : goal.returns
returns c =
    let x = c.args in
    let d = c.decide in
    let conflicts = conflicts_on x.desk.now.marks x.desk.now.names.now x.desk.now.starts in
    record {
      kept = d.ensures.kept;
      number = λ es l same ws shown.
          d.ensures.number es l (places_same x.desk.now.t l x.threads.at es x.places _ _ (sym c.thread_of-k.ensures) same) ws shown
          ∙ (ap (number_on (x.desk.now.horizon.0 + 1) x.desk.now.n x.desk.now.t es conflicts ws x.desk.now.reach.now l (log_of x.site) x.threads.at) c.thread_of-k.ensures
          ∙ number-decided (x.desk.now.horizon.0 + 1) x.desk.now.n x.desk.now.t es conflicts ws x.desk.now.reach.now l (log_of x.site) x.threads.at
          x.call (sym c.is_finish.ensures ∙ c.if-is_finish.false));
    }
