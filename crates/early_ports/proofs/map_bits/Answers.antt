-- `early_ports::map_bits` meets its contract: no port, or port by port.
use Prim.Native.Nat.{ℕ}
use mathlib.Core.Path.{ap, ◌∙◌}
use mathlib.Core.Bool.{cond}
use Rattle.masks.specs.Mask.{with_bit}
use Rattle.early_ports.proofs.CrossLaws.{map_bits-none, map_bits-more, map_bits-unset}
use Rattle.early_ports.proofs.map_bits.Goals as goal

pub returns-then-w-eq0 : goal.returns-then-w-eq0
returns-then-w-eq0 c = map_bits-unset _ _ c.if-w-eq0.true

pub loop-p-init : goal.loop-p-init
loop-p-init c = map_bits-none _ _

pub loop-p-preserved : goal.loop-p-preserved
loop-p-preserved c =
    let l = c.loop-p in
    map_bits-more _ _ l.p _ _ _ l.invariant c.has.ensures (c.with_if-out.ensures ∙ ap (λ (i : ℕ). cond c.has.result (with_bit l.out i) l.out) c.from.ensures)
