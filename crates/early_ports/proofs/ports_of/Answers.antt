-- `early_ports::ports_of` meets its contract: no port past the threads.
use mathlib.Core.Path.{◌≡◌, ap, sym}
use native.Mathlib.Omega.{arith}
use lib.ListN.{length, get_or-eq_default}
use Rattle.base.proofs.ListLaws.{get_d_any}
use Rattle.model.specs.declared.Start.{Start}
use Rattle.model.specs.Values.{no_start}
use Rattle.early_ports.specs.Cross.{ports_in}
use Rattle.early_ports.proofs.ports_of.Goals as goal

pub returns-then-k-lt32 : goal.returns-then-k-lt32
unfolding ports_in
returns-then-k-lt32 c =
    let starts = c.args.starts in
    let size : length starts ≡ 32 = c.well_formed.0.1.0.1 in
    ap (λ (x : Start). x.ports) (get_d_any starts c.args.k _ no_start (omega arith))

pub returns-else-k-lt32 : goal.returns-else-k-lt32
unfolding ports_in
returns-else-k-lt32 c =
    let starts = c.args.starts in
    let size : length starts ≡ 32 = c.well_formed.0.1.0.1 in
    sym (ap (λ (x : Start). x.ports) (get_or-eq_default starts no_start {n = c.args.k} (omega arith)))
