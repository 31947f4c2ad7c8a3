-- A set of numbers below 64 as the bits of a word.
use Rattle.std.specs.Prelude.{ℕ, zero, suc, ◌/◌, ◌%◌, ◌^◌, Bool, cond, ltb, eqb}
use Rattle.std.specs.Int.Bits.{bit_or}

-- bit i of a word
unfoldable pub bit_at : ℕ → ℕ → Bool
bit_at w i = eqb (w / 2 ^ i % 2) 1

-- bit i alone; none from 64 on
unfoldable pub bit_of : ℕ → ℕ
bit_of i = cond (ltb i 64) (2 ^ i) 0

-- w with bit i set
unfoldable pub with_bit : ℕ → ℕ → ℕ
with_bit w i = bit_or w (bit_of i)

-- the numbers below n at which f holds
unfoldable pub mask_of : (ℕ → Bool) → ℕ → ℕ
mask_of f zero = 0
mask_of f (suc n) = cond (f n) (with_bit (mask_of f n) n) (mask_of f n)
