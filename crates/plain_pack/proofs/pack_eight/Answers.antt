-- `plain_pack::pack_eight` meets its contract. The invariant: the first p ports are stored.
use Prim.Native.Nat.{ℕ}
use mathlib.Core.Path.{refl}
use native.Mathlib.Omega.{arith}
use lib.ListN.{get_or, length-set}
use Rattle.plain_words.specs.Pack.{IsPort}
use Rattle.plain_words.proofs.PackLaws.{part_none, part-more, part-before, part-behind}
use Rattle.plain_pack.proofs.pack_eight.Goals as goal

pub loop-p-init : goal.loop-p-init
loop-p-init c = (c.requires.code_len, (part_none (λ (i x : ℕ). IsPort (get_or c.args.from i 0) x) c.args.code.now c.args.base, ((λ i h. refl), λ i h. refl)))

pub loop-p-preserved : goal.loop-p-preserved
loop-p-preserved c = let here = c.loop-p in
    let start = c in
    let a = start.args in
    let size = here.invariant.0 in
    let room = start.requires.base_bound in
    (simp length-set size, (part-more (λ (i x : ℕ). IsPort (get_or a.from i 0) x) here.code a.base here.p _ (omega arith) (record { word = c.from.ensures; range = omega arith }) here.invariant.1.0, (part-before here.code a.code.now a.base here.p _ here.invariant.1.1.0, part-behind here.code a.code.now a.base here.p _ 2432 (omega arith) here.invariant.1.1.1)))

pub returns : goal.returns
returns c = record { places = c.loop-p.invariant.0; here = (λ j h. c.loop-p.invariant.1.0 j (omega arith)); before = c.loop-p.invariant.1.1.0; rest = c.loop-p.invariant.1.1.1 }
