-- `early_ports::footprint_of` meets its contract: nothing past the segments.
use native.Mathlib.Omega.{arith}
use Rattle.early_ports.proofs.CrossLaws.{footprint_of-past, footprint_of-made}
use Rattle.early_ports.proofs.footprint_of.Goals as goal

pub returns-then-s-ge64 : goal.returns-then-s-ge64
returns-then-s-ge64 c = footprint_of-past _ _ _ (omega arith)

pub returns : goal.returns
returns c =
    footprint_of-made _ _ _ _ _ _ _ _ _ (omega arith)
    c.word_at.ensures c.map_bits-ported.ensures
    c.word_at-2.ensures c.map_bits-written.ensures c.word_at-3.ensures c.word_at-4.ensures
