-- A name that opens every definition of this crate and those below, for closed examples.
-- Assumes nothing.

unfoldable pub computed : Unit {0}
unfolding Rattle.base.proofs.Computed.computed Rattle.masks.specs.Mask.bit_at Rattle.masks.specs.Mask.bit_of Rattle.masks.specs.Mask.with_bit Rattle.masks.specs.Mask.mask_of
computed = tt
