-- `early_list::answer_all` meets its contract. The invariant: the calls from i on are still to come.
use mathlib.Core.Path.{refl, ◌∙◌}
use native.Mathlib.Omega.{arith}
use lib.ListN.{length}
use Rattle.model_effect.proofs.LengthLaws.{segments-length}
use Rattle.early_row.specs.Lent.{is_by_steps, lent_of}
use Rattle.early_answer.specs.Shown.{table_by}
use Rattle.early_answer.proofs.ShownLaws.{shows-fit}
use Rattle.early_request.proofs.FitAnswerLaws.{fit-threads-few, fit-segments-few, fit-segment-few, fit-places, room-fit, call-fit, enough-fit}
use Rattle.early_list.proofs.GoingLaws.{grants_in-≤, segment-at, going_start, going_more, going_done}
use Rattle.early_list.proofs.answer_all.Goals as goal

pub loop-i-init : goal.loop-i-init
loop-i-init c =
    let start = c in
    let x = start.args in
    let ws = table_by (is_by_steps x.from) x.m (lent_of x.from) in
    (refl, going_start x.m x.marks ws x.site x.threads.at x.held.now x.calls.now x.answers.now (record { state = start.requires.0; enough = start.requires.1 }))

pub segment_of-j-requires : goal.segment_of-j-requires
segment_of-j-requires c =
    let start = c in
    let x = start.args in
    let ws = table_by (is_by_steps x.from) x.m (lent_of x.from) in
    let here = c.loop-i in
    let call = c.call_at-call.result in
    fit-threads-few x.m x.marks ws here.s here.ts.at call here.invariant.1.fit.state

pub offset_bounds-m-j : goal.offset_bounds-m-j
offset_bounds-m-j c =
    let start = c in
    let x = start.args in
    let ws = table_by (is_by_steps x.from) x.m (lent_of x.from) in
    let here = c.loop-i in
    let call = c.call_at-call.result in
    omega (arith, segment-at x.m.t here.ts.at _ _ _ c.thread_of.ensures c.segment_of-j.ensures, fit-segment-few x.m x.marks ws here.s here.ts.at call here.invariant.1.fit.state)

pub bounds-m-j : goal.bounds-m-j
bounds-m-j c =
    let start = c in
    let x = start.args in
    let ws = table_by (is_by_steps x.from) x.m (lent_of x.from) in
    let here = c.loop-i in
    let call = c.call_at-call.result in
    omega (arith, segment-at x.m.t here.ts.at _ _ _ c.thread_of.ensures c.segment_of-j.ensures, fit-segment-few x.m x.marks ws here.s here.ts.at call here.invariant.1.fit.state)

pub counted_site-counted-requires : goal.counted_site-counted-requires
counted_site-counted-requires c =
    let start = c in
    let x = start.args in
    let ws = table_by (is_by_steps x.from) x.m (lent_of x.from) in
    let here = c.loop-i in
    let call = c.call_at-call.result in
    (fit-threads-few x.m x.marks ws here.s here.ts.at call here.invariant.1.fit.state, fit-segments-few x.m x.marks ws here.s here.ts.at call here.invariant.1.fit.state, fit-places x.m x.marks ws here.s here.ts.at call here.invariant.1.fit.state)

pub called-a-requires : goal.called-a-requires
called-a-requires c =
    let start = c in
    let x = start.args in
    let ws = table_by (is_by_steps x.from) x.m (lent_of x.from) in
    let here = c.loop-i in
    let call = c.call_at-call.result in
    let j = c.segment_of-j in
    let there = segment-at x.m.t here.ts.at _ _ _ c.thread_of.ensures j.ensures in (
      fit-threads-few x.m x.marks ws here.s here.ts.at call here.invariant.1.fit.state,
      (ws, shows-fit x.m ws here.s here.ts.at (is_by_steps x.from) (lent_of x.from) (length here.room) here.invariant.1.fit.state (rw here.invariant.0 start.requires.2.2)),
      enough-fit x.m here.held call here.invariant.1.fit.enough,
      room-fit x.m x.marks ws here.s here.ts.at call here.invariant.1.fit.state j.result _ there (segments-length x.m _ start.well_formed.0) refl c.counted_site-counted.result c.counted_site-counted.ensures,
    )

pub overflow_mul-i : goal.overflow_mul-i
overflow_mul-i c = omega (arith, c.loop-i-test.true, c.loop-i.invariant.1.size, c.requires.2.3, c.well_formed.1.1.1.1.1.1.1.1.1.1.0.0)

pub put_answer-requires : goal.put_answer-requires
put_answer-requires c = omega (arith, c.loop-i-test.true, c.loop-i.invariant.1.size, c.requires.2.3)

pub overflow_add-granted : goal.overflow_add-granted
overflow_add-granted c = omega (arith, grants_in-≤ c.called-a.result.answer c.grants_in-granted.ensures, c.loop-i-test.true, c.loop-i.invariant.1.few, c.well_formed.1.1.1.1.1.1.1.1.1.0.0)

pub loop-i-preserved : goal.loop-i-preserved
loop-i-preserved c =
    let start = c in
    let x = start.args in
    let ws = table_by (is_by_steps x.from) x.m (lent_of x.from) in
    let here = c.loop-i in
    let call = c.call_at-call.result in
    let j = c.segment_of-j in
    let counted = c.counted_site-counted in
    let a = c.called-a in
    let known = shows-fit x.m ws here.s here.ts.at (is_by_steps x.from) (lent_of x.from) (length here.room) here.invariant.1.fit.state (rw here.invariant.0 start.requires.2.2) in
    let there = segment-at x.m.t here.ts.at _ _ _ c.thread_of.ensures j.ensures in
    let fits = call-fit x.m x.marks ws here.s here.ts.at call here.invariant.1.fit.state j.result _ there (segments-length x.m _ start.well_formed.0) refl counted.result counted.ensures _ _ start.requires.2.0 start.requires.2.1 here.held in (
      a.ensures.kept ∙ here.invariant.0,
      going_more x.m x.marks ws x.site x.threads.at x.held.now x.calls.now x.answers.now here.answers here.s here.ts.at here.held here.granted here.i here.invariant.1 call a.result _ _ _
          c.loop-i-test.true c.call_at-call.ensures (a.ensures.left ws known ∙ fits.1) (a.ensures.held ws known ∙ fits.0)
          c.put_answer.ensures c.grants_in-granted.ensures,
    )

pub shape_of-room : goal.shape_of-room
shape_of-room c = c.loop-i.invariant.0

pub shape_of-held : goal.shape_of-held
shape_of-held c = c.loop-i.invariant.1.many

pub shape_of-answers : goal.shape_of-answers
shape_of-answers c = c.loop-i.invariant.1.size

pub returns : goal.returns
returns c =
    let start = c in
    let x = start.args in
    let ws = table_by (is_by_steps x.from) x.m (lent_of x.from) in
    let here = c.loop-i in
    let done = going_done x.m x.marks ws x.site x.threads.at x.held.now x.calls.now x.answers.now here.answers here.s here.ts.at here.held here.granted here.i here.invariant.1 here.ts refl (omega arith) in
    record { kept = here.invariant.0; left = done.0; held = done.1; written = done.2 }
