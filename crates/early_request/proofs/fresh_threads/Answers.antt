-- `early_request::fresh_threads` meets its contract. The invariant: the first k records are started.
use mathlib.Core.Path.{◌≡◌, ap, ◌∙◌}
use native.Mathlib.Omega.{arith}
use Rattle.std.proofs.lemmas.List.{length-take, get_or-take}
use Rattle.model.specs.declared.Threads.{Threads}
use Rattle.model_reach.proofs.ReadLaws.{starts-length}
use Rattle.model_rules.proofs.FaultLaws.{start_at-read}
use Rattle.early_request.proofs.FreshLaws.{started_none, started-more, started-all}
use Rattle.early_request.proofs.fresh_threads.Goals as goal

pub loop-k-init : goal.loop-k-init
loop-k-init c = started_none c.args.m _ (ap (λ (x : Threads). x.at) c.no_threads-ts.ensures)

pub loop-k-preserved : goal.loop-k-preserved
loop-k-preserved c =
    let m = c.args.m in
    let l = c.loop-k in
    let n = c.from-n.result in
    let many = starts-length m _ c.well_formed.0 in
    let size = length-take n m.starts in
    started-more m l.ts.at l.k _ (omega arith) (get_or-take n m.starts l.k _ (omega arith) ∙ start_at-read m l.k _ (omega arith)) l.invariant

pub returns : goal.returns
returns c =
    let m = c.args.m in
    let many = starts-length m _ c.well_formed.0 in
    let size = length-take c.from-n.result m.starts in
    let end : c.loop-k.k ≡ m.t = omega (arith, c.from-n.ensures, c.requires) in
    started-all m _ c.loop-k.k end c.requires c.loop-k.invariant
