-- `early_answer::decide` meets its contract. 10, 19 or 12, 13, or what comes after them.
use Prim.Native.Nat.{◌+◌}
use mathlib.Core.Path.{refl, ap, sym, ◌∙◌}
use native.Mathlib.Omega.{arith}
use lib.ListN.{get_or}
use Rattle.model.specs.Record.{no_thread, thread_at, cycle_of}
use Rattle.early.specs.Log.{places_with}
use Rattle.early_answer.specs.Answered.{number_on}
use Rattle.early_answer.proofs.AnsweredLaws.{number-thread, number-unready, number-late, number-ready}
use Rattle.early_answer.proofs.decide.Goals as goal

pub returns-then-desk-k : goal.returns-then-desk-k
unfolding number_on
returns-then-desk-k c =
    let x = c.args in
    record { kept = refl; number = λ es l same ws shown. number-thread _ _ _ _ x.desk.now.t (x.desk.now.horizon.0 + 1) x.threads.at x.k.0 (omega arith) }

pub returns-in_default : goal.returns-in_default
unfolding number_on
returns-in_default c =
    let x = c.args in
    let i = c.from-i in
    record {
      kept = refl;
      number = λ es l same ws shown.
          c.unready.ensures
          ∙ number-unready _ _ _ _ x.desk.now.t (x.desk.now.horizon.0 + 1) x.threads.at x.k.0 (omega arith) _ (ap (λ j. (get_or x.threads.at j no_thread).state) (sym i.ensures)) c.in_default.not-Ready;
    }

pub returns-then-desk-c : goal.returns-then-desk-c
unfolding number_on
returns-then-desk-c c =
    let x = c.args in
    record {
      kept = refl;
      number = λ es l same ws shown.
          number-late _ _ _ _ x.desk.now.t (x.desk.now.horizon.0 + 1) x.threads.at x.k.0 (omega arith) _ (ap (λ j. (get_or x.threads.at j no_thread).state) (sym c.from-i.ensures) ∙ c.in-Ready.is) (omega arith);
    }

pub returns : goal.returns
unfolding number_on thread_at
returns c =
    let x = c.args in
    let d = c.decide_ready in
    let ready = ap (λ j. (get_or x.threads.at j no_thread).state) (sym c.from-i.ensures) ∙ c.in-Ready.is in
    record {
      kept = d.ensures.kept;
      number = λ es l same ws shown.
          d.ensures.number es l (same (omega arith) ∙ ap (λ s. places_with l (cycle_of s) es) ready) ws shown
          ∙ number-ready _ _ _ _ x.desk.now.t (x.desk.now.horizon.0 + 1) x.threads.at x.k.0 (omega arith) _ ready (omega arith);
    }
