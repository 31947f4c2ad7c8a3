-- `early_lent::request_by_rows` meets its contract: the records are moved out of the slice before the core is asked, and into it after.
use mathlib.Core.Path.{refl}
use mathlib.Core.List.{[]}
use lib.ListN.{length}
use Rattle.early.specs.ByRows.{request_by_rows}
use Rattle.early_lent.proofs.MovedLaws.{holding_none, moved_all}
use Rattle.early_lent.proofs.RowsLaws.{request_by_rows-moves}
use Rattle.early_lent.proofs.request_by_rows.Goals as goal

pub returns : goal.returns
returns c =
    let x = c.args in
    let many = length x.row.now in
    let (asked, back, held) =
    moved_all x.m x.site [] (λ ts. holding_none (request_by_rows x.m x.marks many x.site ts x.k.0)) (request_by_rows-moves x.m x.marks many x.site x.k.0) x.threads.now _ _ _ _ _ _ _
    c.moved-count.ensures c.no_threads.ensures (c.load-before.ensures, refl) c.request_of_rows-done.ensures.left refl c.store.ensures in
    (asked, back, c.request_of_rows-done.ensures.free)
