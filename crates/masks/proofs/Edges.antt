-- Bits at, below and above the first and the last: closed examples.
-- Assumes nothing.
use Prim.Native.Nat.{◌-◌, ◌^◌}
use mathlib.Core.Path.{◌≡◌, refl}
use mathlib.Core.Bool.{true, false}
use lib.Dec.{eqb, ltb}
use Rattle.masks.specs.Mask.{bit_at, bit_of, with_bit, mask_of}
use Rattle.masks.proofs.Computed.{computed}

-- bits 0 and 63 of a word, and 64, which no word has
pub bit_at-edges :
    (bit_at 1 0 ≡ true) ×
    (bit_at 1 1 ≡ false) ×
    (bit_at 2 0 ≡ false) ×
    (bit_at 2 1 ≡ true) ×
    (bit_at (2 ^ 63) 62 ≡ false) ×
    (bit_at (2 ^ 63) 63 ≡ true) ×
    (bit_at (2 ^ 63 - 1) 63 ≡ false) ×
    (bit_at (2 ^ 64 - 1) 63 ≡ true) ×
    (bit_at (2 ^ 64 - 1) 64 ≡ false) ×
    (bit_at 0 0 ≡ false)
unfolding computed
bit_at-edges = (refl, refl, refl, refl, refl, refl, refl, refl, refl, refl)

pub bit_of-edges :
    (bit_of 0 ≡ 1) ×
    (bit_of 63 ≡ 9223372036854775808) ×
    (bit_of 64 ≡ 0)
unfolding computed
bit_of-edges = (refl, refl, refl)

-- a bit that is set already, one that is not, and 64
pub with_bit-edges :
    (with_bit 0 0 ≡ 1) ×
    (with_bit 4 0 ≡ 5) ×
    (with_bit 5 0 ≡ 5) ×
    (with_bit 5 63 ≡ 9223372036854775813) ×
    (with_bit 5 64 ≡ 5)
unfolding computed
with_bit-edges = (refl, refl, refl, refl, refl)

-- the last number below n, not n itself
pub mask_of-edges :
    (mask_of (λ i. ltb 0 i) 4 ≡ 14) ×
    (mask_of (λ i. eqb i 3) 3 ≡ 0) ×
    (mask_of (λ i. true) 0 ≡ 0)
unfolding computed
mask_of-edges = (refl, refl, refl)
