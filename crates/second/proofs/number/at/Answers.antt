-- `second::number::at` meets its contract.
use Rattle.std.proofs.Common.{rules}
use Rattle.second.specs.Desk.{place_of, word_at}
use Rattle.second.proofs.number.at.Goals as goal

pub returns : goal.returns
unfolding word_at place_of
returns c = search rules
