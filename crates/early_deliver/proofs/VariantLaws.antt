-- The `else` of the `let .. else` on a waiting thread, from the variants that it leaves.
use Prim.Native.Nat.{ℕ}
use mathlib.Core.Path.{◌≡◌, refl}
use Rattle.clock.specs.declared.Cycle.{Cycle}
use Rattle.model.specs.declared.State.{State}
use Rattle.model.specs.declared.State.TheVariants.{Ended, Overrun, Ready, Waiting, Running}
use Rattle.model.specs.Record.{nothing, awaited_by}

-- a state that does not wait
pub awaited_by-other : (s : State) → ((e : ℕ) (x : Cycle) → s ≡ Waiting e x → ⊥) → awaited_by s ≡ nothing
awaited_by-other (Ended c) h = refl
awaited_by-other (Overrun c) h = refl
awaited_by-other (Ready c) h = refl
awaited_by-other (Waiting e c) h = absurd (h e c refl)
awaited_by-other (Running c) h = refl
