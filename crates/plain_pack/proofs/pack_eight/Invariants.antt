-- `plain_pack::pack_eight` meets its contract. The invariant: the first p ports are stored.
use Prim.Native.Nat.{ℕ, ◌+◌, ◌≤◌, ◌<◌}
use mathlib.Core.Path.{◌≡◌}
use lib.ListN.{length, get_or}
use Rattle.plain_words.specs.Pack.{IsPort}
use Rattle.plain_pack.proofs.pack_eight.Given as goal

abbrev pub invariant-loop-p : goal.invariant-loop-p
invariant-loop-p l = (length l.code ≡ 4384) × (((i : ℕ) → i < l.p → IsPort (get_or l.fn.from i 0) (get_or l.code (l.base + i) 0)) × (((i : ℕ) → i < l.base → get_or l.code i 0 ≡ get_or l.initial.code i 0) × ((i : ℕ) → 2432 ≤ i → get_or l.code i 0 ≡ get_or l.initial.code i 0)))
