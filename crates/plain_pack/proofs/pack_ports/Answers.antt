-- `plain_pack::pack_ports` meets its contract. The invariant: the ports of the first k threads are stored.
use mathlib.Core.Path.{refl, ◌∙◌}
use native.Mathlib.Omega.{arith}
use Rattle.model_effect.proofs.LengthLaws.{starts-length}
use Rattle.plain_words.proofs.PackLaws.{ports-more}
use Rattle.plain_pack.proofs.pack_ports.Goals as goal

pub loop-k-init : goal.loop-k-init
loop-k-init c = (c.requires, (λ i p h l. absurd (omega arith), (λ i h. refl, λ i h. refl)))

pub pack_eight-requires : goal.pack_eight-requires
pack_eight-requires c = record { base_bound = omega arith; code_len = c.loop-k.invariant.0 }

pub loop-k-preserved : goal.loop-k-preserved
loop-k-preserved c = let start = c in
    let m = start.args.m in
    let here = c.loop-k in
    let done = c.pack_eight.ensures in
    (done.places, (ports-more m here.code c.pack_eight.new.code here.k _ (omega (arith, starts-length m _ start.well_formed.0)) here.invariant.1.0 done.here done.before, (λ i h. done.before i (omega arith) ∙ here.invariant.1.1.0 i h, λ i h. done.rest i h ∙ here.invariant.1.1.1 i h)))

pub returns : goal.returns
returns c = let inv = c.loop-k.invariant in record { places = inv.0; here = λ k p h l. inv.1.0 k p (omega arith) l; before = inv.1.1.0; rest = inv.1.1.1 }
