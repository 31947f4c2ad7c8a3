-- `export_hold::ports_held` meets its contract: port i is number p + i.
use borrow.Author.Rules.{rules}
use Rattle.base.proofs.IndexLaws.{tabulate-is}
use Rattle.export_hold.proofs.ports_held.Goals as goal

pub returns : goal.returns
returns c =
    let made = c.from_fn.ensures.items in
    tabulate-is 0 _ 8 _ made.long (λ i l. let (p, q, k) = made.at i 0 l in search rules)
