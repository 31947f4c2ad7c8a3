-- `plain_pack::pack_ports` meets its contract. The invariant: the ports of the first k threads are stored.
use Prim.Native.Nat.{ℕ, ◌+◌, ◌*◌, ◌≤◌, ◌<◌}
use mathlib.Core.Path.{◌≡◌}
use lib.ListN.{length, get_or}
use Rattle.model.specs.Port.{port_of}
use Rattle.model.specs.Values.{ports_at}
use Rattle.plain_words.specs.Pack.{IsPort}
use Rattle.plain_pack.proofs.pack_ports.Given as goal

abbrev pub invariant-loop-k : goal.invariant-loop-k
invariant-loop-k l = (length l.code ≡ 4384) × (((i p : ℕ) → i < l.k → p < 8 → IsPort (port_of (ports_at l.fn.m i) p) (get_or l.code (2176 + 8 * i + p) 0)) × (((i : ℕ) → i < 2176 → get_or l.code i 0 ≡ get_or l.initial.code i 0) × ((i : ℕ) → 2432 ≤ i → get_or l.code i 0 ≡ get_or l.initial.code i 0)))
