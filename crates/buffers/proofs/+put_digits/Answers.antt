-- `buffers::put_digits` meets its contract. One digit, or the digits of n / 10 and one more.
use native.Mathlib.Omega.{arith}
use Rattle.buffers.proofs.PutLaws.{puts_then}
use Rattle.buffers.proofs.DigitsLaws.{digits_of-one, digits_of-more}
use Rattle.buffers.proofs.+put_digits.Goals as goal

pub returns-then-n-lt10 : goal.returns-then-n-lt10
returns-then-n-lt10 t c = rw (digits_of-one c.args.n (omega arith)) (rw c.digit.ensures at c.put_byte.ensures)

pub returns : goal.returns
returns t c =
    rw (digits_of-more c.args.n (omega arith))
    (puts_then c.put_digits-to.ensures (rw c.digit-2.ensures at c.put_byte-2.ensures))
