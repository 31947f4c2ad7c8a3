-- `plain_pack::pack` meets its contract. The invariant: the first s segments are packed.
use mathlib.Core.Path.{◌≡◌}
use native.Mathlib.Omega.{arith}
use lib.ListN.{length-set}
use Rattle.model_effect.proofs.LengthLaws.{segments-length}
use Rattle.plain_words.specs.Pack.{IsCode}
use Rattle.plain_words.proofs.PackLaws.{segment-read, is_code-none, is_code-more, is_code-marks, is_code-kept, is_code-code_of}
use Rattle.plain_pack.proofs.pack.Goals as goal

pub loop-s-init : goal.loop-s-init
loop-s-init c = is_code-none c.args.m

pub pack_statements-requires : goal.pack_statements-requires
pack_statements-requires c = record { base_bound = omega arith; code_len = simp length-set c.loop-s.invariant.size }

pub marked_end-requires : goal.marked_end-requires
marked_end-requires c = record { base_bound = omega arith; end_bound = c.pack_end-end.ensures.range; end_bound_2 = c.pack_end-end.ensures.statements }

pub loop-s-preserved : goal.loop-s-preserved
loop-s-preserved c = let start = c in
    let m = start.args.m in
    let here = c.loop-s in
    let stored = c.pack_statements in
    let done = stored.ensures in
    let read = segment-read m here.s (omega (arith, segments-length m _ start.well_formed.0)) in
    is_code-more m here.code stored.new.code here.s (omega arith) here.invariant _ read _ _ _ c.pack_end-end.ensures.word c.pack_choice.ensures c.marked_end.ensures done.before done.places done.rest done.size done.here

pub pack_ports-requires : goal.pack_ports-requires
pack_ports-requires c = c.loop-s.invariant.size

pub returns : goal.returns
returns c =
    let here = c.loop-s in
    let m = c.args.m in
    let done = c.pack_ports.ensures in
    let e : here.s ≡ 64 = omega arith in
    let first : IsCode m 64 here.code = rw (← e) here.invariant in
    let is = is_code-kept m here.code c.pack_ports.new.code first done.places done.before done.rest in record { words = is_code-code_of m _ is done.here; held = is; ports = done.here; marks = is_code-marks m _ is }
