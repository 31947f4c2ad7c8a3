-- `buffers::put_number` meets its contract. A space, then the digits: at most 20, since n is below 10 ^ 20.
use native.Mathlib.Omega.{arith}
use Rattle.buffers.proofs.PutLaws.{puts_then}
use Rattle.buffers.proofs.DigitsLaws.{digits_of-length}
use Rattle.buffers.proofs.put_number.Goals as goal

pub returns : goal.returns
returns c =
    let p = puts_then c.put_byte-a.ensures c.put_digits.ensures in
    (p, omega (arith, p.few, digits_of-length 19 c.args.n (omega arith)))
