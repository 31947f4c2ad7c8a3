-- `plain_pack::few` meets its contract.
use Rattle.std.proofs.Common.{◌∙◌, arith}
use Rattle.plain_words.specs.Pack.{few}
use Rattle.plain_pack.proofs.few.Goals as goal

pub returns-clause-word : goal.returns-clause-word
unfolding few
returns-clause-word c = c.from.ensures ∙ (c.min.ensures ∙ grind arith)
