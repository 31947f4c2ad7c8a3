-- `plain_pack::pack_statements` meets its contract.
use Prim.Native.Nat.{ℕ}
use mathlib.Core.Path.{refl}
use native.Mathlib.Omega.{arith}
use lib.ListN.{get_or, length-set}
use Rattle.model.specs.Values.{no_statement}
use Rattle.plain_words.specs.Pack.{Held}
use Rattle.plain_words.proofs.PackLaws.{part_none, part-more, part-before, part-behind}
use Rattle.plain_pack.proofs.pack_statements.Goals as goal

pub loop-j-init : goal.loop-j-init
loop-j-init c = (c.requires.code_len, (part_none (λ (i x : ℕ). Held (get_or c.args.statements.now i no_statement).op x) c.args.code.now c.args.base, ((λ i h. refl), λ i h. refl)))

pub loop-j-preserved : goal.loop-j-preserved
loop-j-preserved c = let here = c.loop-j in
    let start = c in
    let a = start.args in
    let size = here.invariant.0 in
    let room = start.requires.base_bound in
    let (before, rest) = here.invariant.1.1 in
    (simp length-set size, (part-more (λ (i x : ℕ). Held (get_or a.statements.now i no_statement).op x) here.code a.base here.j _ (omega arith) c.pack_op.ensures here.invariant.1.0, (part-before here.code a.code.now a.base here.j _ before, part-behind here.code a.code.now a.base here.j _ 2432 (omega arith) rest)))

pub returns : goal.returns
returns c = record { places = c.loop-j.invariant.0; size = omega arith; here = (λ j h. c.loop-j.invariant.1.0 j (omega arith)); before = c.loop-j.invariant.1.1.0; rest = c.loop-j.invariant.1.1.1 }
