-- `plain_core::threads_of` meets its contract.
use mathlib.Core.Path.{◌≡◌, ap, ◌∙◌}
use native.Mathlib.Omega.{arith}
use Rattle.model.specs.declared.Threads.{Threads}
use Rattle.plain_state.proofs.FillLaws.{threads_to-none, threads_to-set}
use Rattle.plain_core.proofs.threads_of.Goals as goal

pub loop-k-init : goal.loop-k-init
loop-k-init c = ap (λ (x : Threads). x.at) c.no_threads-ts.ensures ∙ threads_to-none c.args.state.now c.args.segments.now

pub loop-k-preserved : goal.loop-k-preserved
loop-k-preserved c = let here = c in
    let a = here.args in
    threads_to-set a.state.now a.segments.now _ here.loop-k.k _ (omega arith) here.loop-k.invariant c.state_of.ensures

pub returns : goal.returns
returns c = let e : c.loop-k.k ≡ c.args.t = omega arith in rw (← e) c.loop-k.invariant
