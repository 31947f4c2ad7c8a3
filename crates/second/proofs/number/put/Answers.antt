-- `second::number::put` meets its contract.
use Rattle.std.proofs.Common.{rules}
use Rattle.second.specs.Desk.{place_of, with_word}
use Rattle.second.proofs.number.put.Goals as goal

pub returns : goal.returns
unfolding with_word place_of
returns c = search rules
