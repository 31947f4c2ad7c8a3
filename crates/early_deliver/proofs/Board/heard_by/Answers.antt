-- `early_deliver::Board::heard_by` meets its contract. Not waiting, nothing logged, a smaller forecast, heard.
use mathlib.Core.Path.{ap, sym, ◌∙◌}
use native.Mathlib.Omega.{arith}
use Rattle.model.specs.Record.{view_of}
use Rattle.early_deliver.specs.Awake.{log_on}
use Rattle.early_deliver.proofs.VariantLaws.{awaited_by-other}
use Rattle.early_deliver.proofs.SweepLaws.{heard_by-other, heard_by-none, heard_by-sooner, heard_by-now}
use Rattle.early_deliver.proofs.Board.heard_by.Goals as goal

pub returns-in_default : goal.returns-in_default
returns-in_default c =
    let x = c.args in
    let b = x.self.now in
    heard_by-other b.reach.now b.t (log_on b.rows.now) x.o.now.segments x.o.now.limits.at x.s (awaited_by-other x.s c.in_default.not-Waiting)

pub returns-in_default-least_in : goal.returns-in_default-least_in
returns-in_default-least_in c =
    let x = c.args in
    let b = x.self.now in
    heard_by-none b.reach.now b.t (log_on b.rows.now) x.o.now.segments x.o.now.limits.at x.s _ _ (ap view_of c.in-Waiting.is) (sym c.least_in.ensures ∙ c.in_default-least_in.is)

pub returns-then-soonest-limit_of : goal.returns-then-soonest-limit_of
returns-then-soonest-limit_of c =
    let x = c.args in
    let b = x.self.now in
    heard_by-sooner b.reach.now b.t (log_on b.rows.now) x.o.now.segments x.o.now.limits.at x.s _ _ (ap view_of c.in-Waiting.is) _ (sym c.least_in.ensures ∙ c.in-At.is) (omega arith)

pub returns : goal.returns
returns c =
    let x = c.args in
    let b = x.self.now in
    heard_by-now b.reach.now b.t (log_on b.rows.now) x.o.now.segments x.o.now.limits.at x.s _ _ (ap view_of c.in-Waiting.is) _ (sym c.least_in.ensures ∙ c.in-At.is) (omega arith)
