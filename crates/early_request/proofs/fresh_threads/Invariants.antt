-- `early_request::fresh_threads` meets its contract. The invariant: the first k records are started.
use mathlib.Core.Path.{◌≡◌}
use Rattle.early_request.proofs.FreshLaws.{started_to}
use Rattle.early_request.proofs.fresh_threads.Given as goal

abbrev pub invariant-loop-k : goal.invariant-loop-k
invariant-loop-k l = l.ts.at ≡ started_to l.fn.m l.k
