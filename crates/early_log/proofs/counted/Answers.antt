-- `early_log::counted` meets its contract. The invariant: what is counted for the first threads is noted, and there were places for it.
use Rattle.std.proofs.Common.{◌∙◌, ap, sym, refl, ◌<◌, arith, length-take}
use Rattle.std.proofs.lemmas.List.{get_or-take}
use Rattle.model.specs.declared.Thread.{Thread}
use Rattle.model.specs.Record.{no_thread, thread_at}
use Rattle.early.specs.Log.{log_of}
use Rattle.model_effect.proofs.LengthLaws.{segments-length, threads-length}
use Rattle.early_log.proofs.LengthLaws.{log-length}
use Rattle.early_log.proofs.HeldLaws.{log_of-length}
use Rattle.early_log.proofs.RunningLaws.{listed_here, is_running-other, counted_start, counted-idle, counted-more, counted-full, counted-done}
use Rattle.early_log.proofs.counted.Goals as goal

pub loop-x-init : goal.loop-x-init
loop-x-init c =
    let x = c.args in
    (counted_start x.m x.threads.at (log_of x.site), omega (arith, log_of-length x.site (log-length x.site _ c.well_formed.1.0)))

pub loop-x-preserved-in_default : goal.loop-x-preserved-in_default
unfolding thread_at
loop-x-preserved-in_default c =
    let x = c.args in
    let l = c.loop-x in
    let below : l.x-index < c.from-n.result = omega (arith, length-take c.from-n.result x.threads.at) in
    let here = get_or-take c.from-n.result x.threads.at l.x-index no_thread below in
    (counted-idle x.m x.threads.at (log_of x.site) l.s l.x-index l.invariant.0 (is_running-other (thread_at x.threads.at l.x-index).state (λ d e. c.in_default.not-Running d (ap (λ (t : Thread). t.state) here ∙ e))), l.invariant.1)

pub bounds-m-j : goal.bounds-m-j
unfolding thread_at
bounds-m-j c =
    let x = c.args in
    let l = c.loop-x in
    let below : l.x-index < c.from-n.result = omega (arith, length-take c.from-n.result x.threads.at) in
    let here = get_or-take c.from-n.result x.threads.at l.x-index no_thread below in
    omega (arith, ap (λ (t : Thread). t.segment) here, c.requires.1 l.x-index (omega arith))

pub returns-then-places_with-gt128-clause-full_value : goal.returns-then-places_with-gt128-clause-full_value
unfolding thread_at
returns-then-places_with-gt128-clause-full_value c =
    let x = c.args in
    let l = c.loop-x in
    let ts = x.threads.at in
    let k = l.x-index in
    let below : k < c.from-n.result = omega (arith, length-take c.from-n.result ts) in
    let here = get_or-take c.from-n.result ts k no_thread below in
    let few = c.requires.1 k (omega arith) in
    let segment = c.from-j.ensures ∙ ap (λ (t : Thread). t.segment) here in
    let runs = ap (λ (t : Thread). t.state) (sym here) ∙ c.in-Running.is in
    let listed = listed_here x.m k (thread_at ts k).segment c.from-j.result _ c.listed-listed.result (segments-length x.m _ c.well_formed.0) few segment refl c.listed-listed.ensures in
    counted-full x.m ts (log_of x.site) l.s k l.invariant.0 _ _ runs listed (omega arith) (omega arith)

pub loop-x-preserved : goal.loop-x-preserved
unfolding thread_at
loop-x-preserved c =
    let x = c.args in
    let l = c.loop-x in
    let ts = x.threads.at in
    let k = l.x-index in
    let below : k < c.from-n.result = omega (arith, length-take c.from-n.result ts) in
    let here = get_or-take c.from-n.result ts k no_thread below in
    let few = c.requires.1 k (omega arith) in
    let segment = c.from-j.ensures ∙ ap (λ (t : Thread). t.segment) here in
    let runs = ap (λ (t : Thread). t.state) (sym here) ∙ c.in-Running.is in
    let listed = listed_here x.m k (thread_at ts k).segment c.from-j.result _ c.listed-listed.result (segments-length x.m _ c.well_formed.0) few segment refl c.listed-listed.ensures in
    counted-more x.m ts (log_of x.site) l.s k l.invariant.0 _ _ runs listed c.note-s.result c.note-s.ensures (omega arith)

pub returns-clause-full_value : goal.returns-clause-full_value
returns-clause-full_value c =
    let x = c.args in
    let l = c.loop-x in
    (counted-done x.m x.threads.at (log_of x.site) l.s l.x-index l.invariant.0 (omega (arith, length-take c.from-n.result x.threads.at, threads-length x.threads _ c.well_formed.1.1.0)) l.invariant.1).0

pub returns-clause-site_value : goal.returns-clause-site_value
returns-clause-site_value c =
    let x = c.args in
    let l = c.loop-x in
    (counted-done x.m x.threads.at (log_of x.site) l.s l.x-index l.invariant.0 (omega (arith, length-take c.from-n.result x.threads.at, threads-length x.threads _ c.well_formed.1.1.0)) l.invariant.1).1
