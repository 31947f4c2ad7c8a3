-- `export_state::variables_from` meets its contract: each value by its number.
use mathlib.Core.Path.{◌≡◌}
use lib.ListN.{get_or}
use borrow.Author.Rules.{rules}
use Rattle.base.specs.Index.{tabulate}
use Rattle.export_state.specs.Numbers.{variables_from}
use Rattle.export_state.proofs.FromLaws.{from_fn-is}
use Rattle.export_state.proofs.variables_from.Goals as goal

pub returns : goal.returns
unfolding variables_from
returns c =
    let e : c.from_fn.result ≡ tabulate 64 0 (λ i. get_or c.args.values.now i 0) =
    from_fn-is _ _ (λ i. get_or c.args.values.now i 0) (λ i y q k. search rules) _ 0 64 c.from_fn.ensures.items in
    rw e
