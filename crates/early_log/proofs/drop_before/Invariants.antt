-- `early_log::drop_before` meets its contract. The invariant: what stays of the first places, then nothing.
use Prim.Native.Nat.{◌≤◌}
use mathlib.Core.Path.{◌≡◌}
use lib.ListN.{length, take}
use Rattle.early.specs.Log.{drop_before}
use Rattle.early_log.proofs.PlaceLaws.{padded}
use Rattle.early_log.proofs.drop_before.Given as goal

abbrev pub invariant-loop-x : goal.invariant-loop-x
invariant-loop-x l =
    let stays = drop_before l.floor (take l.x-index l.x-items) in
    (l.count ≤ l.x-index) × (l.count ≡ length stays) × (l.log ≡ padded stays)
