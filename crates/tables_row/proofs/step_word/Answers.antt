-- `tables_row::step_word` meets its contract.
use borrow.Author.Rules.{rules}
use Rattle.tables_row.specs.Row.{step_word}
use Rattle.tables_row.proofs.step_word.Goals as goal

pub returns : goal.returns
unfolding step_word
returns c = search rules
