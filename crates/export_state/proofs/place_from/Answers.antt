-- `export_state::place_from` meets its contract: below the count, or past it.
use Rattle.export_state.proofs.FromLaws.{place_from-below, place_from-past}
use Rattle.export_state.proofs.place_from.Goals as goal

pub returns-then-i-word_at : goal.returns-then-i-word_at
returns-then-i-word_at c = let x = c.args in place_from-below x.log.now x.i _ c.word_at.ensures _ c.if-i-word_at.true c.pair_at.ensures

pub returns : goal.returns
returns c = let x = c.args in place_from-past x.log.now x.i _ c.word_at.ensures c.if-i-word_at.false
