-- `early_lent::call_by_rows` meets its contract: the records are moved out of the slice before the core is asked, and into it after.
use mathlib.Core.Path.{refl}
use lib.ListN.{length}
use Rattle.early.specs.Call.{call_by_rows}
use Rattle.early_lent.proofs.MovedLaws.{moved_all}
use Rattle.early_lent.proofs.RowsLaws.{call_by_rows-moves}
use Rattle.early_lent.proofs.call_by_rows.Goals as goal

pub returns : goal.returns
returns c =
    let x = c.args in
    let many = length x.row.now in
    let (asked, back, held) =
    moved_all x.m x.site x.held.now (λ ts. call_by_rows x.m x.marks many x.site ts x.held.now x.call) (call_by_rows-moves x.m x.marks many x.site x.held.now x.call) x.threads.now _ _ _ _ _ _ _
    c.moved-n.ensures c.no_threads.ensures (c.load-before.ensures, refl) c.call_of_rows-done.ensures.left c.call_of_rows-done.ensures.held c.store.ensures in
    (asked, back, held, c.call_of_rows-done.ensures.free)
