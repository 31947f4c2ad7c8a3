-- `early_lent::request` meets its contract: the records are moved out of the slice before the core is asked, and into it after.
use mathlib.Core.Path.{refl}
use mathlib.Core.List.{[]}
use Rattle.early.specs.Request.{request_of}
use Rattle.early_laws.proofs.RequestLaws.{request_of-answers}
use Rattle.early_lent.proofs.MovedLaws.{holding_none, moved_all, request_of-moves}
use Rattle.early_lent.proofs.request.Goals as goal

pub returns : goal.returns
returns c =
    let x = c.args in
    let (asked, back, held) =
    moved_all x.m x.site [] (λ ts. holding_none (request_of x.m x.marks x.words.now x.site ts x.k.0)) (request_of-moves x.m x.marks x.words.now x.site x.k.0) x.threads.now _ _ _ _ _ _ _
    c.moved-n.ensures c.no_threads.ensures (c.load-before.ensures, refl) c.request_of-done.ensures refl c.store.ensures in
    (asked, back, rw asked (request_of-answers x.m x.marks x.words.now x.site x.threads.now x.k.0))
