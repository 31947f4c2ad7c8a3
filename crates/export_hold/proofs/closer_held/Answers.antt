-- `export_hold::closer_held` meets its contract, kind by kind.
use mathlib.Core.Logic.{inl, inr}
use native.Mathlib.Omega.{arith}
use Rattle.export_hold.proofs.HeldLaws.{held_next, held-event}
use Rattle.export_hold.proofs.closer_held.Goals as goal

pub next_held-requires : goal.next_held-requires
next_held-requires c =
    let h = held_next c.args.xs.now c.requires.1 c.args.i c.requires.2 (inl c.in-1.is) in
    (c.requires.0, h.0, h.1, h.2)

pub overflow_cast-result : goal.overflow_cast-result
overflow_cast-result c = omega (arith, held-event c.args.xs.now c.requires.1 c.args.i c.requires.2 c.in-2.is)

pub next_held-requires-in-2 : goal.next_held-requires-in-2
next_held-requires-in-2 c =
    let h = held_next c.args.xs.now c.requires.1 c.args.i c.requires.2 (inr c.in-2.is) in
    (c.requires.0, h.0, h.1, h.2)
