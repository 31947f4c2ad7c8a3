-- `plain_close::wake` meets its contract. The invariant: the words looked at are woken, the others kept, and the least of the woken is known.
use Rattle.std.proofs.Common.{◌≡◌, ℕ, ◌≤◌, ◌<◌, length, get_or}
use Rattle.plain_state.specs.Words.{wake_word}
use Rattle.plain_state.specs.Due.{IsLeast}
use Rattle.plain_close.proofs.wake.Given as goal

abbrev pub invariant-loop-k : goal.invariant-loop-k
invariant-loop-k l =
    record {
      size : length l.state ≡ 32;
      least : IsLeast l.state l.from l.k 18446744073709551615 l.least;
      woken : (i : ℕ) → i < l.k → (l.from ≤ i → get_or l.state i 0 ≡ wake_word l.told l.key (get_or l.initial.state i 0)) × (i < l.from → get_or l.state i 0 ≡ get_or l.initial.state i 0);
      rest : (i : ℕ) → l.k ≤ i → get_or l.state i 0 ≡ get_or l.initial.state i 0;
    }
