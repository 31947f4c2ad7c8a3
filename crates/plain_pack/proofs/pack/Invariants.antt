-- `plain_pack::pack` meets its contract. The invariant: the first s segments are packed.
use Rattle.plain_words.specs.Pack.{IsCode}
use Rattle.plain_pack.proofs.pack.Given as goal

abbrev pub invariant-loop-s : goal.invariant-loop-s
invariant-loop-s l = IsCode l.fn.m l.s l.code
