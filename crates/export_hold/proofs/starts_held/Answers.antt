-- `export_hold::starts_held` meets its contract. The invariant: the first k threads stand in their places.
use mathlib.Core.Path.{refl}
use native.Mathlib.Omega.{arith}
use Rattle.model.specs.Values.{no_start}
use Rattle.export_hold.proofs.HeldLaws.{held_start, held-port}
use Rattle.export_hold.proofs.FillLaws.{filled_to-none, filled_to-more, start_held, start_held-made}
use Rattle.export_hold.proofs.starts_held.Goals as goal

pub loop-k-init : goal.loop-k-init
loop-k-init c = rw c.no_start-starts.ensures (filled_to-none 32 no_start _)

pub overflow_cast-starts : goal.overflow_cast-starts
overflow_cast-starts c =
    omega (arith, held_start c.args.xs.now c.requires.2 c.args.n c.loop-k.k c.requires.3 (omega (arith, c.requires.4, c.loop-k-test)))

pub ports_held-requires : goal.ports_held-requires
ports_held-requires c = (
  omega (arith, c.requires.0, c.loop-k-test),
  λ i h. held-port c.args.xs.now c.requires.2 c.args.n c.loop-k.k i c.requires.3 (omega (arith, c.requires.4, c.loop-k-test)) h,
)

pub loop-k-preserved : goal.loop-k-preserved
loop-k-preserved c =
    let l = c.loop-k in
    filled_to-more 32 no_start (start_held c.args.xs.now c.args.n) l.k l.starts _ (omega (arith, c.requires.1, c.loop-k-test)) l.invariant
    (start_held-made c.args.xs.now c.args.n l.k _ _ refl c.ports_held.ensures)
