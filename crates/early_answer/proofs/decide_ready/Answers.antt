-- `early_answer::decide_ready` meets its contract. 14, 15, or 0.
use mathlib.Core.Path.{sym, ◌∙◌}
use Rattle.early.specs.Log.{log_of}
use Rattle.early_ports.specs.Cross.{conflicts_on}
use Rattle.early_answer.proofs.AnsweredLaws.{same-hazard, ready-hazard, ready-full, ready-free}
use Rattle.early_answer.proofs.ShownLaws.{shows-within}
use Rattle.early_answer.proofs.decide_ready.Goals as goal

pub returns-then-hazard : goal.returns-then-hazard
returns-then-hazard c =
    let s = c in
    let x = s.args in
    let o = c.outlook_of-o in
    let h = c.hazard in
    record {
      kept = h.ensures.kept;
      number = λ es l same ws shown.
          let seen = same-hazard x.desk.now.n x.desk.now.t (conflicts_on x.desk.now.marks x.desk.now.names.now x.desk.now.starts) ws x.desk.now.reach.now (log_of x.site) x.threads.at x.at.thread.0 x.at.cycle s.requires _ _ o.ensures in
          let told = h.ensures.hazard ws shown.known (shows-within x.desk.now.n x.desk.now.t x.desk.now.reach.now (log_of x.site) x.threads.at _ _ s.requires o.ensures shown.within) in
          ready-hazard _ _ _ _ _ (sym seen ∙ (sym told ∙ c.if-hazard.true));
    }

pub returns-then-is_full : goal.returns-then-is_full
returns-then-is_full c =
    let s = c in
    let x = s.args in
    let o = c.outlook_of-o in
    let h = c.hazard in
    record {
      kept = h.ensures.kept;
      number = λ es l same ws shown.
          let seen = same-hazard x.desk.now.n x.desk.now.t (conflicts_on x.desk.now.marks x.desk.now.names.now x.desk.now.starts) ws x.desk.now.reach.now (log_of x.site) x.threads.at x.at.thread.0 x.at.cycle s.requires _ _ o.ensures in
          let told = h.ensures.hazard ws shown.known (shows-within x.desk.now.n x.desk.now.t x.desk.now.reach.now (log_of x.site) x.threads.at _ _ s.requires o.ensures shown.within) in
          ready-full _ _ _ _ _ (sym seen ∙ (sym told ∙ c.if-hazard.false)) (rw (← same) (sym c.is_full.ensures ∙ c.if-is_full.true));
    }

pub returns : goal.returns
returns c =
    let s = c in
    let x = s.args in
    let o = c.outlook_of-o in
    let h = c.hazard in
    record {
      kept = h.ensures.kept;
      number = λ es l same ws shown.
          let seen = same-hazard x.desk.now.n x.desk.now.t (conflicts_on x.desk.now.marks x.desk.now.names.now x.desk.now.starts) ws x.desk.now.reach.now (log_of x.site) x.threads.at x.at.thread.0 x.at.cycle s.requires _ _ o.ensures in
          let told = h.ensures.hazard ws shown.known (shows-within x.desk.now.n x.desk.now.t x.desk.now.reach.now (log_of x.site) x.threads.at _ _ s.requires o.ensures shown.within) in
          ready-free _ _ _ _ _ (sym seen ∙ (sym told ∙ c.if-hazard.false)) (rw (← same) (sym c.is_full.ensures ∙ c.if-is_full.false));
    }
