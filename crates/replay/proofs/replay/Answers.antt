-- `replay::replay` meets its contract: a refused file, or its model's replay.
use mathlib.Core.Path.{refl}
use Rattle.refusal.proofs.NumberLaws.{number_of-not_0}
use Rattle.replay.proofs.ReplayLaws.{replay-refused, replay-accepted}
use Rattle.replay.proofs.replay.Goals as goal

pub returns-in-Err : goal.returns-in-Err
returns-in-Err c =
    let a = c.args in
    let x = replay-refused a.file.now a.words.now a.held.now a.calls.now a.answers.now _ c.in-Err.ensures (number_of-not_0 c.in-Err.r) c.refused.result c.refused.ensures in
    record { outcome = x.0; tables = x.1.0; holds = x.1.1.0; written = x.1.1.1.0; keeps = x.1.1.1.1 }

pub returns-in-Ok : goal.returns-in-Ok
returns-in-Ok c =
    let o = c.replay_on in
    let e = o.ensures in
    let a = c.args in
    let x = replay-accepted a.file.now a.words.now a.held.now a.calls.now a.answers.now _ c.in-Ok.ensures refl o.result _ _ _ (e.outcome, (e.tables, (e.holds, (e.written, e.keeps)))) in
    record { outcome = x.0; tables = x.1.0; holds = x.1.1.0; written = x.1.1.1.0; keeps = x.1.1.1.1 }
