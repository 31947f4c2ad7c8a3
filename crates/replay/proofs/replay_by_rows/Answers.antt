-- `replay::replay_by_rows` meets its contract: what is lent is too short, an unfit model, too few words, the whole list.
use mathlib.Core.Path.{sym, ◌∙◌}
use lib.ListN.{length}
use Rattle.early_laws.proofs.ByRowsLaws.{free-same}
use Rattle.replay.proofs.ReplayLaws.{unfit-lent, rows_short, rows-unfit, rows-below, rows-done}
use Rattle.replay.proofs.replay_by_rows.Goals as goal

pub returns-then-is_unfit_lent : goal.returns-then-is_unfit_lent
returns-then-is_unfit_lent c =
    let a = c.args in
    let x = rows_short a.m (length a.row.now) a.held.now a.calls.now a.answers.now (unfit-lent a.m a.held.now a.calls.now a.answers.now ∙ sym c.is_unfit_lent.ensures ∙ c.if-is_unfit_lent.true) c.refused.result c.refused.ensures in
    record { free = free-same a.row.now; outcome = x.0; holds = x.1.0; written = x.1.1.0; keeps = x.1.1.1 }

pub returns-then-fresh-ne0 : goal.returns-then-fresh-ne0
returns-then-fresh-ne0 c =
    let a = c.args in
    let f = c.fresh-fresh in
    let x = rows-unfit a.m (length a.row.now) a.held.now a.calls.now a.answers.now (unfit-lent a.m a.held.now a.calls.now a.answers.now ∙ sym c.is_unfit_lent.ensures ∙ c.if-is_unfit_lent.false) f.result f.ensures c.if-fresh-ne0.true c.refused-then-fresh-ne0.result c.refused-then-fresh-ne0.ensures in
    record { free = free-same a.row.now; outcome = x.0; holds = x.1.0; written = x.1.1.0; keeps = x.1.1.1 }

pub returns-then-row-lt64 : goal.returns-then-row-lt64
returns-then-row-lt64 c =
    let a = c.args in
    let f = c.fresh-fresh in
    let x = rows-below a.m (length a.row.now) a.held.now a.calls.now a.answers.now (unfit-lent a.m a.held.now a.calls.now a.answers.now ∙ sym c.is_unfit_lent.ensures ∙ c.if-is_unfit_lent.false) f.result f.ensures c.if-fresh-ne0.false c.if-row-lt64.true c.refused-then-row-lt64.result c.refused-then-row-lt64.ensures in
    record { free = free-same a.row.now; outcome = x.0; holds = x.1.0; written = x.1.1.0; keeps = x.1.1.1 }

pub returns : goal.returns
returns c =
    let q = c.calls_by_rows-after in
    let m = c.conflict_marks-marks in
    let f = c.fresh-fresh in
    let a = c.args in
    let x = rows-done a.m (length a.row.now) a.held.now a.calls.now a.answers.now (unfit-lent a.m a.held.now a.calls.now a.answers.now ∙ sym c.is_unfit_lent.ensures ∙ c.if-is_unfit_lent.false) f.result f.ensures c.if-fresh-ne0.false c.if-row-lt64.false
    m.result m.ensures q.result _ _ q.ensures.left q.ensures.held q.ensures.written in
    record { free = q.ensures.free; outcome = x.0; holds = x.1.0; written = x.1.1.0; keeps = x.1.1.1 }
