-- `export_state::places_from` meets its contract: each place by its number.
use borrow.Author.Rules.{rules}
use Rattle.early.specs.Log.{pair_of}
use Rattle.clock.specs.Cycle.{cycle_at}
use Rattle.export_state.specs.Numbers.{place_from}
use Rattle.export_state.proofs.FromLaws.{from_fn-is}
use Rattle.export_state.proofs.places_from.Goals as goal

pub returns : goal.returns
returns c = from_fn-is _ _ (place_from c.args.log.now) (λ i y q k. search rules) _ (pair_of 0 (cycle_at 0 0)) 128 c.from_fn.ensures.items
