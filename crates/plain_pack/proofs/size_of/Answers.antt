-- `plain_pack::size_of` meets its contract.
use mathlib.Core.Path.{refl}
use Rattle.plain_words.specs.Unpack.{size_by}
use Rattle.plain_pack.proofs.size_of.Goals as goal

pub returns : goal.returns
unfolding size_by
returns c = refl
