-- `export_hold::starts_held` meets its contract. The invariant: the first k threads stand in their places.
use mathlib.Core.Path.{◌≡◌}
use Rattle.model.specs.Values.{no_start}
use Rattle.export_hold.proofs.FillLaws.{filled_to, start_held}
use Rattle.export_hold.proofs.starts_held.Given as goal

abbrev pub invariant-loop-k : goal.invariant-loop-k
invariant-loop-k l = l.starts ≡ filled_to 32 no_start (start_held l.xs l.n) l.k
