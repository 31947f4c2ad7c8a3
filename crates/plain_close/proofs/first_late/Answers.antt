-- `plain_close::first_late` meets its contract.
use Rattle.std.proofs.Common.{get_or, sym, ◌∙◌}
use Rattle.plain_state.proofs.DueLaws.{is_late-not, none_more}
use Rattle.plain_close.proofs.first_late.Goals as goal

pub loop-k-preserved : goal.loop-k-preserved
loop-k-preserved c = let a = c.args in
    let here = c.loop-k in
    none_more a.state.now a.from here.k here.invariant (is_late-not (get_or a.state.now here.k 0) (sym c.is_late.ensures ∙ c.if-is_late.false))
