-- `early_lent::call` meets its contract: the records are moved out of the slice before the core is asked, and into it after.
use mathlib.Core.Path.{refl}
use Rattle.early.specs.Call.{call_of}
use Rattle.early_lent.proofs.MovedLaws.{moved_all, call_of-moves}
use Rattle.early_lent.proofs.call.Goals as goal

pub returns : goal.returns
returns c =
    let x = c.args in
    moved_all x.m x.site x.held.now (λ ts. call_of x.m x.marks x.words.now x.site ts x.held.now x.call) (call_of-moves x.m x.marks x.words.now x.site x.held.now x.call) x.threads.now _ _ _ _ _ _ _
    c.moved-n.ensures c.no_threads.ensures (c.load-before.ensures, refl) c.call_of-done.ensures.left c.call_of-done.ensures.held c.store.ensures
