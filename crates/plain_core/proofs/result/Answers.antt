-- `plain_core::result` meets its contract.
use Prim.Native.Nat.{ℕ}
use mathlib.Core.Path.{ap, ◌∙◌}
use mathlib.Core.List.{List}
use Rattle.model.specs.declared.Thread.{Thread}
use Rattle.plain_state.specs.Words.{answer, threads_to}
use Rattle.plain_core.proofs.result.Goals as goal

pub returns : goal.returns
returns c = let a = c.args in
    let segments = c.segments_by-segments.ensures in
    ap (λ (ts : List Thread). answer a.v ts a.n a.spent) (c.threads_of-threads.ensures ∙ ap (λ (ss : List ℕ). threads_to a.state.now ss a.t) segments)
