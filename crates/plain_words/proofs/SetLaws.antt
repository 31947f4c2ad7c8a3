-- A list with one entry set: what holds of the entry at k.
use Prim.Native.Nat.{ℕ, ◌<◌}
use mathlib.Core.Path.{◌≡◌}
use mathlib.Core.List.{List}
use native.Mathlib.Decide.{ℕ_discrete}
use lib.ListN.{length, get_or, set}
use lib.Seq.{get_or-set_same, get_or-set_other}

pub set-case : {A : Type 0} (xs : List A) (i k : ℕ) (x d : A) → i < length xs → (Q : A → Type 0) → (k ≡ i → Q x) → ((k ≡ i → ⊥) → Q (get_or xs k d)) → Q (get_or (set xs i x) k d)
set-case xs i k x d h Q f g = go (ℕ_discrete k i)
  where
    go : Dec (k ≡ i) → Q (get_or (set xs i x) k d)
    go (yes e) = rw (e, get_or-set_same xs i x d h) (f e)
    go (no e) = rw (get_or-set_other xs i k x d e) (g e)
