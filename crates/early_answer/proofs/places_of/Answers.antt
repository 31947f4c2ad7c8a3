-- `early_answer::places_of` meets its contract.
use mathlib.Core.Path.{ap, ◌∙◌}
use native.Mathlib.Omega.{arith}
use lib.ListN.{get_or, take}
use Rattle.model.specs.Record.{no_thread, thread_at, cycle_of}
use Rattle.early.specs.Log.{log_of, places_with}
use Rattle.early_answer.proofs.places_of.Goals as goal

pub returns-then-t-k : goal.returns-then-t-k
returns-then-t-k c h = absurd (omega arith)

pub returns : goal.returns
unfolding thread_at
returns c h = let x = c.args in
    c.places_with.ensures
    ∙ ap (λ y. places_with (log_of x.counted) y (take x.listed.n x.listed.at))
    (c.cycle_of-c.ensures ∙ ap (λ j. cycle_of (get_or x.threads.at j no_thread).state) c.from-i.ensures)
