-- `export_state::threads_from` meets its contract: each record by its number.
use borrow.Author.Rules.{rules}
use mathlib.Core.Bool.{cond}
use lib.Dec.{ltb}
use Rattle.model.specs.Record.{no_thread}
use Rattle.export_state.specs.Numbers.{thread_from, held_threads}
use Rattle.export_state.proofs.FromLaws.{from_fn-is}
use Rattle.export_state.proofs.threads_from.Goals as goal

pub returns : goal.returns
unfolding held_threads
returns c = from_fn-is _ _ (λ k. cond (ltb k c.args.t) (thread_from c.args.records.now k) no_thread) (λ i y q k. search rules) _ (no_thread) 40 c.from_fn.ensures.items
