-- `second::draw::pick` meets its contract.
use Rattle.std.proofs.Common.{◌/◌, mod-lt, arith}
use Rattle.second.proofs.draw.pick.Goals as goal

pub returns-else-n-eq0 : goal.returns-else-n-eq0
returns-else-n-eq0 c =
    let n = c.args.n in
    omega (arith, mod-lt (c.mixed.result / 16) {m = n} (omega arith))
