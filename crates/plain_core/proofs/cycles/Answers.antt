-- `plain_core::cycles` meets its contract. The invariant: the locals, with the segments that stand in the rows, are a place of the model's run where a cycle begins, from which the whole run is
use Prim.Native.Nat.{ℕ, ◌<◌}
use mathlib.Core.Path.{◌≡◌, refl, sym, ◌∙◌, subst}
use mathlib.Core.List.{List}
use native.Mathlib.Nat.{mod-eq_of_lt}
use native.Mathlib.Omega.{arith}
use lib.ListN.{get_or, replicate}
use Rattle.model.specs.declared.Model.{Model}
use Rattle.model_rules.proofs.RuleLaws.{model_fault-horizon, model_fault-counts, model_fault-first}
use Rattle.plain_words.specs.Pack.{IsCodeFor}
use Rattle.plain_words.specs.Ports.{words_for}
use Rattle.plain_words.specs.Rows.{Kept, InRows, segments_by}
use Rattle.plain_words.proofs.MapLaws.{words_for-kept}
use Rattle.plain_words.proofs.PackLaws.{is_code_for-by}
use Rattle.plain_words.proofs.RowLaws.{plain-kept, plain-all, segment_by-row, segments_by-at, segments_by-length, rowed-none, rows-first}
use Rattle.plain_state.specs.Words.{limit_of}
use Rattle.plain_state.specs.Turn.{Locals, locals, turns_to}
use Rattle.plain_state.proofs.LoopLaws.{loop-start, falls-later}
use Rattle.plain_state.proofs.EndLaws.{due-idle, begins-start}
use Rattle.plain_state.proofs.TurnLaws.{Runs, Cycled, cycle-small, cycle-room, cycle-out, cycle-in, cycle-ends, cycle-ahead, cycle-rest, cycle-next, cycle-later, cycle-begun}
use Rattle.plain_state.proofs.RowLaws.{in_segments, cycle-mapped, cycle-placed}
use Rattle.plain_core.proofs.cycles.Goals.{After-prepare, After-run_cycle-n}
use Rattle.plain_core.proofs.cycles.Goals as goal

-- the words once a cycle is prepared, and the segments that the threads hold
abbrev code : After-prepare → List ℕ
code p = p.prepare.new.code

abbrev held : After-prepare → List ℕ
held p = p.prepare.new.held

-- the locals there, with the segments that stand in the rows
abbrev stood : After-prepare → Locals
stood p = let l = p.loop-code in locals l.v l.state (segments_by p.prepare.new.held p.prepare.new.rows) l.told l.ranges l.n

-- the words stay
kept : (p : After-prepare) → Kept p.pack-code.result (code p)
kept p i h = p.prepare.ensures.kept i h ∙ p.loop-code.invariant.1.1.1.0 i h

-- the cycle that begins at a turn of the loop, for every model whose words these are
begun-of : (p : After-prepare) (m : Model) → Runs m p.from-t.result (limit_of p.args.m) (words_for p.pack-code.result) p.first_rows-rows.result →
    Cycled m p.args.budget (words_for (code p)) p.loop-code.due.key (stood p) p.from-t.result p.loop-code.due.from p.loop-code.due.to
begun-of p m r =
    let few = (model_fault-counts m r.fit).threads in
    record {
      fit = r.fit;
      code = λ k h. subst (IsCodeFor m k) (sym (words_for-kept p.pack-code.result (code p) (kept p) k (omega arith))) (r.code k h);
      threads = r.threads;
      loop = rw p.prepare.ensures.same (p.loop-code.invariant.1.1.1.1 m r);
      begins = p.loop-code.invariant.0;
    }

-- and for the model that runs
runs : (p : After-prepare) → Runs p.args.m p.from-t.result (limit_of p.args.m) (words_for p.pack-code.result) p.first_rows-rows.result
runs p =
    let m = p.args.m in
    let fit = p.requires in
    let counts = model_fault-counts m fit in
    let few = counts.threads in
    record {
      fit = fit;
      code = λ k h. is_code_for-by m _ p.pack-code.ensures.held p.pack-code.ensures.ports k (omega arith);
      threads = p.from-t.ensures;
      limit = refl;
      first = λ k h. p.first_rows-rows.ensures.first k (omega arith) ∙ mod-eq_of_lt (omega (arith, model_fault-first m fit k h, counts.segments));
    }

begun-here : (p : After-prepare) → Cycled p.args.m p.args.budget (words_for (code p)) p.loop-code.due.key (stood p) p.from-t.result p.loop-code.due.from p.loop-code.due.to
begun-here p = begun-of p p.args.m (runs p)

-- the cycle has run
abbrev left : After-run_cycle-n → Locals
left c = let out = c.run_cycle-n.new in locals out.v out.state out.rows out.told out.ranges c.run_cycle-n.result

ran : (c : After-run_cycle-n) → let l = c.loop-code in
    in_segments c.prepare.new.held (left c) ≡ turns_to (words_for c.prepare.new.code) l.due.key c.args.budget l.due.to (locals l.v l.state (segments_by c.prepare.new.held c.prepare.new.rows) l.told l.ranges l.n)
ran c = let few = (model_fault-counts c.args.m c.requires).threads in
    let l = c.loop-code in
    let done = c.prepare.ensures in
    cycle-mapped c.prepare.new.code c.prepare.new.held done.rowed l.due.key c.args.budget (locals l.v l.state c.prepare.new.rows l.told l.ranges l.n) done.placed l.due.from l.due.to (omega (arith, l.invariant.0.threads.inside)) (due-idle _ _ _ _ _ l.invariant.0.threads) done.plain (left c) c.run_cycle-n.ensures

placed : (c : After-run_cycle-n) → InRows c.prepare.new.held (left c).segments
placed c = let few = (model_fault-counts c.args.m c.requires).threads in
    let l = c.loop-code in
    let done = c.prepare.ensures in
    cycle-placed c.prepare.new.code c.prepare.new.held done.rowed l.due.key c.args.budget (locals l.v l.state c.prepare.new.rows l.told l.ranges l.n) done.placed l.due.from l.due.to (omega (arith, l.invariant.0.threads.inside)) (due-idle _ _ _ _ _ l.invariant.0.threads) done.plain (left c) c.run_cycle-n.ensures

pub overflow_add-limit : goal.overflow_add-limit
overflow_add-limit c = omega (arith, (model_fault-horizon c.args.m c.requires).1)

pub overflow_mul-limit : goal.overflow_mul-limit
overflow_mul-limit c = omega (arith, (model_fault-horizon c.args.m c.requires).1)

pub due_of-due-requires : goal.due_of-due-requires
due_of-due-requires c = let few = (model_fault-counts c.args.m c.requires).threads in
    record { from_le_to = omega arith; to_le_t = omega arith; t_bound = omega arith; by_index = λ k h l. (omega arith, h) }

pub loop-code-init : goal.loop-code-init
loop-code-init c =
    let few = (model_fault-counts c.args.m c.requires).threads in
    let now = c.due_of-due.ensures.cycle in
    let due = c.due_of-due.ensures.threads in
    let pack = c.pack-code.ensures in
    let rows = c.first_rows-rows.ensures in
    let small : (k : ℕ) → k < 32 → get_or c.first_rows-rows.result k 0 < 64 = λ k h. let e = rows.first k h in omega arith in
    let none : List ℕ = replicate 32 255 in (
      begins-start _ _ _ _ _ (omega arith) c.no_ranges-ranges.ensures (rw now due),
      (
        rowed-none _ pack.held.size pack.marks,
        (
          rows-first none _ rows.places small,
          (
            λ i h. refl,
            λ m r. rw now (loop-start m r.fit c.args.budget _ _ (segments_by-length none c.first_rows-rows.result) (λ k h. let few = (model_fault-counts m r.fit).threads in segments_by-at none c.first_rows-rows.result k (omega arith) ∙ (sym (segment_by-row _ _ (small k (omega arith))) ∙ r.first k h))),
          ),
        ),
      ),
    )

pub prepare-requires : goal.prepare-requires
prepare-requires c =
    let few = (model_fault-counts c.args.m c.requires).threads in
    let begins = c.loop-code.invariant.0.threads in
    let rest = c.loop-code.invariant.1 in
    let marked = c.any_marked-marked.ensures in
    record { from_le_to = (begins.order, omega (arith, begins.inside)); plain = (λ e r. plain-kept c.pack-code.result c.loop-code.code rest.1.1.0 r (plain-all c.pack-code.result (sym marked ∙ e) r)); rowed = rest.0; in_rows = rest.1.0 }

pub run_cycle-n-requires : goal.run_cycle-n-requires
run_cycle-n-requires c = let p = (goal.at.run_cycle-n-requires c).After-prepare in
    let few = (model_fault-counts c.args.m c.requires).threads in
    let begins = c.loop-code.invariant.0.threads in
    record { from_le_to = begins.order; to_bound = omega (arith, begins.inside); key_bound = cycle-small (begun-here p); by_index = due-idle _ _ _ _ _ begins }

pub is_out-requires : goal.is_out-requires
is_out-requires c = let few = (model_fault-counts c.args.m c.requires).threads in omega arith

pub result-requires : goal.result-requires
result-requires c = let few = (model_fault-counts c.args.m c.requires).threads in omega arith

pub returns-then-is_out : goal.returns-then-is_out
returns-then-is_out c = let p = (goal.at.returns-then-is_out c).After-prepare in
    let done = (goal.at.returns-then-is_out c).After-run_cycle-n in
    c.result.ensures ∙ cycle-out (begun-here p) (ran done) (sym c.is_out.ensures ∙ c.if-is_out.true)

pub end_cycle-due-requires : goal.end_cycle-due-requires
end_cycle-due-requires c = let p = (goal.at.end_cycle-due-requires c).After-prepare in
    let done = (goal.at.end_cycle-due-requires c).After-run_cycle-n in
    let few = (model_fault-counts c.args.m c.requires).threads in
    let here = begun-here p in
    let out = sym c.is_out.ensures ∙ c.if-is_out.false in
    let over = cycle-in here (ran done) out in
    record { t_bound = omega arith; key_bound = cycle-small here; state_len = over.words_size; ends = cycle-ends here (ran done); by_index = cycle-ahead here (ran done) out }

pub result-requires-then-limit-due : goal.result-requires-then-limit-due
result-requires-then-limit-due c = let few = (model_fault-counts c.args.m c.requires).threads in omega arith

pub returns-then-limit-due : goal.returns-then-limit-due
returns-then-limit-due c = let p = (goal.at.returns-then-limit-due c).After-prepare in
    let done = (goal.at.returns-then-limit-due c).After-run_cycle-n in
    let end = c.end_cycle-due.ensures in
    c.result-then-limit-due.ensures ∙ cycle-rest (begun-here p) (ran done) (sym c.is_out.ensures ∙ c.if-is_out.false) _ end.places _ end.least end.words c.if-limit-due.true

pub loop-code-smaller : goal.loop-code-smaller
loop-code-smaller c = let p = (goal.at.loop-code-smaller c).After-prepare in
    let done = (goal.at.loop-code-smaller c).After-run_cycle-n in
    let here = begun-here p in
    let end = c.end_cycle-due.ensures in
    falls-later _ _ _ (cycle-later here (ran done) (sym c.is_out.ensures ∙ c.if-is_out.false) _ end.places _ end.least end.words c.if-limit-due.false) (cycle-room here)

pub loop-code-preserved : goal.loop-code-preserved
loop-code-preserved c = let p = (goal.at.loop-code-preserved c).After-prepare in
    let done = (goal.at.loop-code-preserved c).After-run_cycle-n in
    let end = c.end_cycle-due.ensures in
    let out = sym c.is_out.ensures ∙ c.if-is_out.false in (
      cycle-next (begun-here p) (ran done) out _ end.places _ end.least end.words _ _ end.threads,
      (
        c.prepare.ensures.rowed,
        (
          placed done,
          (
            kept p,
            λ m r. cycle-begun (begun-of p m r) (ran done) out _ end.places _ end.least end.words _ (omega (arith, r.limit, c.if-limit-due.false)),
          ),
        ),
      ),
    )
