-- `plain_pack::pack_statements` meets its contract.
use Prim.Native.Nat.{ℕ, ◌+◌, ◌≤◌, ◌<◌}
use mathlib.Core.Path.{◌≡◌}
use lib.ListN.{length, get_or}
use Rattle.model.specs.Values.{no_statement}
use Rattle.plain_words.specs.Pack.{Held}
use Rattle.plain_pack.proofs.pack_statements.Given as goal

abbrev pub invariant-loop-j : goal.invariant-loop-j
invariant-loop-j l = (length l.code ≡ 4384) × (((i : ℕ) → i < l.j → Held (get_or l.statements i no_statement).op (get_or l.code (l.base + i) 0)) × (((i : ℕ) → i < l.base → get_or l.code i 0 ≡ get_or l.initial.code i 0) × ((i : ℕ) → 2432 ≤ i → get_or l.code i 0 ≡ get_or l.initial.code i 0)))
