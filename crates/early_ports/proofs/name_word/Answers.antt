-- `early_ports::name_word` meets its contract: variables below 2, ports from 2 on.
use native.Mathlib.Omega.{arith}
use borrow.Author.Tests.{lt-ltb, le-ltb}
use Rattle.early_ports.specs.Names.{name_word}
use Rattle.early_ports.proofs.name_word.Goals as goal

pub returns-then-q-lt2 : goal.returns-then-q-lt2
unfolding name_word
returns-then-q-lt2 c = rw (lt-ltb c.args.q 2 (omega arith)) c.names_of.ensures

pub returns-else-q-lt2 : goal.returns-else-q-lt2
unfolding name_word
returns-else-q-lt2 c = rw (le-ltb c.args.q 2 (omega arith)) c.names_of-else-q-lt2.ensures
