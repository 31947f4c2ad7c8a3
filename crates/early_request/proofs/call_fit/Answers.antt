-- `early_request::call_fit` meets its contract: what was made once, then the answer.
use mathlib.Core.Path.{refl, ap, ◌∙◌}
use mathlib.Core.Bool.{cond}
use native.Mathlib.Omega.{arith}
use lib.Dec.{ltb}
use lib.ListN.{replicate, length-replicate}
use Rattle.model.specs.Record.{thread_at}
use Rattle.model_effect.proofs.LengthLaws.{segments-length}
use Rattle.early_limits.proofs.PlaceLaws.{reach_in-all}
use Rattle.early_row.specs.Lent.{is_by_steps, lent_of}
use Rattle.early_answer.specs.Shown.{table_by}
use Rattle.early_answer.proofs.ShownLaws.{shows-fit}
use Rattle.early_request.proofs.FitAnswerLaws.{fit-threads-few, fit-segments-few, fit-places, fit-segment-few, room-fit, call-fit}
use Rattle.early_request.proofs.call_fit.Goals as goal

pub segment_of-s-requires : goal.segment_of-s-requires
segment_of-s-requires c =
    let start = c in
    let x = start.args in
    let (unfit, known, enough) = start.requires in
    let ws = table_by (is_by_steps x.from) x.m (lent_of x.from) in
    fit-threads-few x.m x.marks ws x.site x.threads.at x.call unfit

pub offset_bounds-m-s : goal.offset_bounds-m-s
offset_bounds-m-s c =
    let start = c in
    let x = start.args in
    let (unfit, known, enough) = start.requires in
    let ws = table_by (is_by_steps x.from) x.m (lent_of x.from) in
    let p = c.segment_of-s.ensures ∙ ap (λ i. cond (ltb i x.m.t) (thread_at x.threads.at i).segment 0) c.thread_of.ensures in
    omega (arith, p, fit-segment-few x.m x.marks ws x.site x.threads.at x.call unfit)

pub bounds-m-s : goal.bounds-m-s
bounds-m-s c =
    let start = c in
    let x = start.args in
    let (unfit, known, enough) = start.requires in
    let ws = table_by (is_by_steps x.from) x.m (lent_of x.from) in
    let p = c.segment_of-s.ensures ∙ ap (λ i. cond (ltb i x.m.t) (thread_at x.threads.at i).segment 0) c.thread_of.ensures in
    omega (arith, p, fit-segment-few x.m x.marks ws x.site x.threads.at x.call unfit)

pub counted_site-counted-requires : goal.counted_site-counted-requires
counted_site-counted-requires c =
    let start = c in
    let x = start.args in
    let (unfit, known, enough) = start.requires in
    let ws = table_by (is_by_steps x.from) x.m (lent_of x.from) in
    (fit-threads-few x.m x.marks ws x.site x.threads.at x.call unfit, fit-segments-few x.m x.marks ws x.site x.threads.at x.call unfit, fit-places x.m x.marks ws x.site x.threads.at x.call unfit)

pub called-requires : goal.called-requires
called-requires c =
    let start = c in
    let x = start.args in
    let (unfit, known, enough) = start.requires in
    let ws = table_by (is_by_steps x.from) x.m (lent_of x.from) in
    let p = c.segment_of-s.ensures ∙ ap (λ i. cond (ltb i x.m.t) (thread_at x.threads.at i).segment 0) c.thread_of.ensures in (
      fit-threads-few x.m x.marks ws x.site x.threads.at x.call unfit,
      (ws, shows-fit x.m ws x.site x.threads.at (is_by_steps x.from) (lent_of x.from) _ unfit (rw c.fill_reach.ensures.kept known)),
      enough,
      room-fit x.m x.marks ws x.site x.threads.at x.call unfit _ _ p (segments-length x.m _ start.well_formed.0) refl _ c.counted_site-counted.ensures,
    )

pub shape_of-room : goal.shape_of-room
shape_of-room c = c.called.ensures.kept ∙ c.fill_reach.ensures.kept

pub returns : goal.returns
returns c =
    let start = c in
    let x = start.args in
    let (unfit, known, enough) = start.requires in
    let ws = table_by (is_by_steps x.from) x.m (lent_of x.from) in
    let p = c.segment_of-s.ensures ∙ ap (λ i. cond (ltb i x.m.t) (thread_at x.threads.at i).segment 0) c.thread_of.ensures in
    let r = c.fill_reach in
    let a = c.called in
    let reach = r.ensures.reach ws known ∙ reach_in-all x.m ws (replicate 2048 0) (simp length-replicate) in
    let shown = shows-fit x.m ws x.site x.threads.at (is_by_steps x.from) (lent_of x.from) _ unfit (rw r.ensures.kept known) in
    let (held, left) =
    call-fit x.m x.marks ws x.site x.threads.at x.call unfit _ _ p (segments-length x.m _ start.well_formed.0) refl _ c.counted_site-counted.ensures _ _ c.fill_names.ensures reach x.held.now in
    record { kept = a.ensures.kept ∙ r.ensures.kept; held = a.ensures.held ws shown ∙ held; left = a.ensures.left ws shown ∙ left }
