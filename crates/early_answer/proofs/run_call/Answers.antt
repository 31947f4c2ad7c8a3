-- `early_answer::run_call` meets its contract.
use native.Mathlib.Omega.{arith}
use Rattle.early_answer.proofs.AnsweredLaws.{run_room, run-made}
use Rattle.early_answer.proofs.run_call.Goals as goal

pub finish-requires : goal.finish-requires
finish-requires c =
    let start = c in
    let x = start.args in
    let i = c.from-i in
    let d = c.cycle_of-c in
    let ran = c.ran_by-ran in
    record {
      t_bound = omega arith;
      thread_lt_t = omega arith;
      ran_bound = run_room x.finishes x.reach.now x.t x.g x.site x.threads.at x.held.now x.k.0 i.result d.result ran.result i.ensures d.ensures ran.ensures.effect start.requires.g_bound;
    }

pub returns : goal.returns
returns c =
    let x = c.args in
    let i = c.from-i in
    let d = c.cycle_of-c in
    let ran = c.ran_by-ran in
    record { held = c.empty.ensures; left = run-made x.finishes x.reach.now x.t x.g x.site x.threads.at x.held.now x.k.0 i.result d.result ran.result i.ensures d.ensures ran.ensures.effect c.finish.result c.finish.ensures }
