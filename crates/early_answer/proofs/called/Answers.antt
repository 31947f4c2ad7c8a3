-- `early_answer::called` meets its contract. Decided, then refused, begun or run.
use Prim.Native.Nat.{ℕ, ◌+◌}
use mathlib.Core.Path.{◌≡◌, ap, sym, ◌∙◌}
use mathlib.Core.List.{List}
use native.Mathlib.Omega.{arith}
use lib.ListN.{length, take}
use Rattle.refusal.specs.Number.{number_told}
use Rattle.refusal.proofs.NumberLaws.{number_of-not_0, number_told-err}
use Rattle.early.specs.Log.{log_of}
use Rattle.early.specs.Request.{refused_with}
use Rattle.early_ports.specs.Cross.{ports_in, segment_with, conflicts_on}
use Rattle.early_ports.proofs.MapLaws.{segment_with-listed}
use Rattle.early_row.specs.Lent.{is_by_steps, lent_of}
use Rattle.early_answer.specs.After.{after_of}
use Rattle.early_answer.specs.Answered.{thread_of, call_number_on, run_on}
use Rattle.early_answer.specs.Shown.{Shows}
use Rattle.early_answer.proofs.AnsweredLaws.{called-refused, called-begun, called-run, called-room, own-segment, places_same, room-same}
use Rattle.early_answer.proofs.VariantLaws.{told-none}
use Rattle.early_answer.proofs.called.Goals.{After-decide_call-decided}
use Rattle.early_answer.proofs.called.Goals as goal

-- its number, by the places that the segment's pairs take with the log and what is counted
told : (d : After-decide_call-decided) → let x = d.args in
    (ws : List ℕ) → Shows x.desk.now.n x.desk.now.t ws (is_by_steps x.desk.now.from) (lent_of x.desk.now.from) (length x.room.now) x.threads.at →
    number_told d.decide_call-decided.result ≡ call_number_on (x.desk.now.horizon.0 + 1) x.desk.now.n x.desk.now.t (take d.listed.result.n d.listed.result.at) (conflicts_on x.desk.now.marks x.desk.now.names.now x.desk.now.starts) ws x.desk.now.reach.now (log_of x.counted) (log_of x.site) x.threads.at x.call
told d = let x = d.args in
    d.decide_call-decided.ensures.number _ (log_of x.counted) (places_same x.desk.now.t (log_of x.counted) x.threads.at _ _ _ _ d.thread_of-k.ensures d.places_of-places.ensures)

pub returns-in-Err : goal.returns-in-Err
returns-in-Err c =
    let x = c.args in
    let (after, left) = called-refused (x.desk.now.horizon.0 + 1) x.desk.now.n x.desk.now.t (segment_with (ports_in x.desk.now.starts (thread_of x.call)) x.g) x.g (conflicts_on x.desk.now.marks x.desk.now.names.now x.desk.now.starts) x.desk.now.reach.now x.counted x.site
    x.threads.at x.held.now x.call (number_told c.decide_call-decided.result) c.listed.result c.listed.ensures (segment_with-listed _ x.g) _ (told (goal.at.returns-in-Err c).After-decide_call-decided) (λ e. number_of-not_0 c.in-Err.r (sym (number_told-err _ _ c.in-Err.is) ∙ e)) c.refused.result (c.refused.ensures ∙ ap (λ n. after_of (refused_with n x.site x.threads.at)) (c.from.ensures ∙ sym (number_told-err _ _ c.in-Err.is))) in
    record { kept = c.decide_call-decided.ensures.kept; held = after; left = left }

-- the distances that the caller names tell that the thread is one of them
pub start-requires : goal.start-requires
start-requires c =
    let x = c.args in
    let (few, some, enough, room) = c.requires in
    let (ws, shown) = some in
    let (below, _) = called-room (x.desk.now.horizon.0 + 1) x.desk.now.n x.desk.now.t (segment_with (ports_in x.desk.now.starts (thread_of x.call)) x.g) x.g (conflicts_on x.desk.now.marks x.desk.now.names.now x.desk.now.starts) x.desk.now.reach.now x.counted x.site
    x.threads.at x.held.now x.call (number_told c.decide_call-decided.result) c.listed.result c.listed.ensures (segment_with-listed _ x.g) _ (told (goal.at.start-requires c).After-decide_call-decided) (told-none _ c.in_default.not-Err) ws shown room in
    let same = c.thread_of-k.ensures in
    let size = enough.granted (sym c.is_grant.ensures ∙ c.if-is_grant.true) in
    (omega (arith, few, below, same), omega (arith, below, same, size))

pub returns-then-is_grant : goal.returns-then-is_grant
returns-then-is_grant c =
    let x = c.args in
    let k = c.thread_of-k in
    let a = c.start in
    let (after, left) = called-begun (x.desk.now.horizon.0 + 1) x.desk.now.n x.desk.now.t (segment_with (ports_in x.desk.now.starts (thread_of x.call)) x.g) x.g (conflicts_on x.desk.now.marks x.desk.now.names.now x.desk.now.starts) x.desk.now.reach.now x.counted x.site
    x.threads.at x.held.now x.call (number_told c.decide_call-decided.result) c.listed.result c.listed.ensures (segment_with-listed _ x.g) _ (told (goal.at.returns-then-is_grant c).After-decide_call-decided) (told-none _ c.in_default.not-Err) k.result k.ensures _ a.result (sym c.is_grant.ensures ∙ c.if-is_grant.true) a.ensures.held a.ensures.left in
    record { kept = c.decide_call-decided.ensures.kept; held = after; left = left }

pub run_call-requires : goal.run_call-requires
run_call-requires c =
    let x = c.args in
    let (few, some, enough, room) = c.requires in
    let (ws, shown) = some in
    let (below, fits) = called-room (x.desk.now.horizon.0 + 1) x.desk.now.n x.desk.now.t (segment_with (ports_in x.desk.now.starts (thread_of x.call)) x.g) x.g (conflicts_on x.desk.now.marks x.desk.now.names.now x.desk.now.starts) x.desk.now.reach.now x.counted x.site
    x.threads.at x.held.now x.call (number_told c.decide_call-decided.result) c.listed.result c.listed.ensures (segment_with-listed _ x.g) _ (told (goal.at.run_call-requires c).After-decide_call-decided) (told-none _ c.in_default.not-Err) ws shown room in
    let same = c.thread_of-k.ensures in
    let own = own-segment x.desk.now.starts (thread_of x.call) x.g _ _ _ (c.from-2.ensures ∙ same) c.ports_of-ports.ensures c.segment_for-own.ensures in
    record {
      t_bound = few;
      k_lt_t = omega (arith, below, same);
      k_in_bounds = λ e. omega (arith, below, same, enough.finished (sym c.is_finish.ensures ∙ e));
      g_bound = room-same (log_of x.site) x.threads.at _ _ _ _ own same fits;
    }

pub returns : goal.returns
returns c =
    let x = c.args in
    let k = c.thread_of-k in
    let b = c.is_finish in
    let a = c.run_call in
    let own = own-segment x.desk.now.starts (thread_of x.call) x.g _ _ _ (c.from-2.ensures ∙ k.ensures) c.ports_of-ports.ensures c.segment_for-own.ensures in
    let (after, left) = called-run (x.desk.now.horizon.0 + 1) x.desk.now.n x.desk.now.t (segment_with (ports_in x.desk.now.starts (thread_of x.call)) x.g) x.g (conflicts_on x.desk.now.marks x.desk.now.names.now x.desk.now.starts) x.desk.now.reach.now x.counted x.site
    x.threads.at x.held.now x.call (number_told c.decide_call-decided.result) c.listed.result c.listed.ensures (segment_with-listed _ x.g) _ (told (goal.at.returns c).After-decide_call-decided) (told-none _ c.in_default.not-Err) k.result k.ensures _ a.result b.result b.ensures (sym c.is_grant.ensures ∙ c.if-is_grant.false) a.ensures.held
    (a.ensures.left ∙ ap (λ h. after_of (run_on b.result x.desk.now.reach.now x.desk.now.t h x.site x.threads.at x.held.now k.result)) own) in
    record { kept = c.decide_call-decided.ensures.kept; held = after; left = left }
