-- `early_lent::call_of` meets its contract: too few records, or the call on them.
use mathlib.Core.Path.{ap, ◌∙◌}
use lib.ListN.{length}
use Rattle.early.specs.Call.{Called, call_of}
use Rattle.early_laws.proofs.CallLaws.{call_of-held-length}
use Rattle.early_lent.proofs.MovedLaws.{lent-short, lent-enough, held-short, held-enough}
use Rattle.early_lent.proofs.call_of.Goals as goal

-- fewer than the threads: what is held stays
pub returns-then-lent-needed : goal.returns-then-lent-needed
returns-then-lent-needed c =
    let a = c.args in
    let r : Called = call_of a.m a.marks a.words.now a.site a.before.at a.held.now a.call in
    record { left = lent-short a.m a.site a.before a.lent r.left c.if-lent-needed.true; held = held-short a.m a.site a.before a.lent a.held.now r c.if-lent-needed.true }

pub shape_of-held : goal.shape_of-held
shape_of-held c = ap length c.call-after.ensures.held ∙ call_of-held-length _ _ _ _ _ _ _

-- the call on the records
pub returns : goal.returns
returns c =
    let a = c.args in
    let r : Called = call_of a.m a.marks a.words.now a.site a.before.at a.held.now a.call in
    let enough = c.if-lent-needed.false in
    record { left = lent-enough a.m a.site a.before a.lent r.left _ enough c.call-after.ensures.left; held = held-enough a.m a.site a.before a.lent a.held.now r _ enough c.call-after.ensures.held }
