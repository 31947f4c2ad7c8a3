-- `replay::replay_on` meets its contract: what is lent is too short, no table, the whole list.
use Prim.Native.Nat.{◌*◌}
use mathlib.Core.Path.{◌≡◌, refl, sym, ◌∙◌}
use lib.ListN.{take}
use lib.Seq.{length-take-le}
use Rattle.refusal.proofs.NumberLaws.{number_of-not_0}
use Rattle.replay.proofs.ReplayLaws.{unfit-lent, on-short, on-refused, own_room, on-done}
use Rattle.replay.proofs.replay_on.Goals as goal

pub returns-then-is_unfit_lent : goal.returns-then-is_unfit_lent
returns-then-is_unfit_lent c =
    let a = c.args in
    let x = on-short a.m a.words.now a.held.now a.calls.now a.answers.now (unfit-lent a.m a.held.now a.calls.now a.answers.now ∙ sym c.is_unfit_lent.ensures ∙ c.if-is_unfit_lent.true) c.refused.result c.refused.ensures in
    record { outcome = x.0; tables = x.1.0; holds = x.1.1.0; written = x.1.1.1.0; keeps = x.1.1.1.1 }

pub returns-in-Err : goal.returns-in-Err
returns-in-Err c =
    let a = c.args in
    let x = on-refused a.m a.words.now a.held.now a.calls.now a.answers.now (unfit-lent a.m a.held.now a.calls.now a.answers.now ∙ sym c.is_unfit_lent.ensures ∙ c.if-is_unfit_lent.false) _ _ c.in-Err.ensures.number c.in-Err.ensures.buffer (number_of-not_0 c.in-Err.r) c.refused-in-Err.result c.refused-in-Err.ensures in
    record { outcome = x.0; tables = x.1.0; holds = x.1.1.0; written = x.1.1.1.0; keeps = x.1.1.1.1 }

pub slice_bounds-calls-end : goal.slice_bounds-calls-end
slice_bounds-calls-end c =
    let a = c.args in
    own_room a.m a.words.now a.held.now a.calls.now a.answers.now (unfit-lent a.m a.held.now a.calls.now a.answers.now ∙ sym c.is_unfit_lent.ensures ∙ c.if-is_unfit_lent.false) _ _ c.in_default.ensures.number c.in_default.ensures.buffer refl c.from-n.result c.from-n.ensures

pub slice_bounds-calls-end-2 : goal.slice_bounds-calls-end-2
slice_bounds-calls-end-2 c =
    let a = c.args in
    sym (length-take-le _ _ (own_room a.m a.words.now a.held.now a.calls.now a.answers.now (unfit-lent a.m a.held.now a.calls.now a.answers.now ∙ sym c.is_unfit_lent.ensures ∙ c.if-is_unfit_lent.false) _ _ c.in_default.ensures.number c.in_default.ensures.buffer refl c.from-n.result c.from-n.ensures))

pub returns : goal.returns
returns c =
    let a = c.args in
    let own : take (c.from-n.result * c.from-n.result) c.distances.new.words ≡ take (a.m.n * a.m.n) c.distances.new.words = rw c.from-n.ensures refl in
    let x = on-done a.m a.words.now a.held.now a.calls.now a.answers.now (unfit-lent a.m a.held.now a.calls.now a.answers.now ∙ sym c.is_unfit_lent.ensures ∙ c.if-is_unfit_lent.false) _ c.distances.new.words c.in_default.ensures.number c.in_default.ensures.buffer refl
    c.conflict_marks-marks.result c.fresh-fresh.result (take (c.from-n.result * c.from-n.result) c.distances.new.words) c.conflict_marks-marks.ensures c.fresh-fresh.ensures own c.calls-left.result _ _ c.calls-left.ensures.left c.calls-left.ensures.held c.calls-left.ensures.written in
    record { outcome = x.0; tables = x.1.0; holds = x.1.1.0; written = x.1.1.1.0; keeps = x.1.1.1.1 }
