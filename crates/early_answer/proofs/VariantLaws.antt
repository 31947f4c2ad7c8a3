-- What the variants of a state, or of an answer, that a `match` or a `let .. else` leaves say of it.
use mathlib.Core.Path.{◌≡◌, refl}
use mathlib.Core.Bool.{true, false}
use Rattle.std.specs.Prelude.{Result, Ok, Err}
use Rattle.refusal.specs.declared.Refusal.{Refusal}
use Rattle.refusal.specs.Number.{number_told}
use Rattle.clock.specs.declared.Cycle.{Cycle}
use Rattle.model.specs.declared.State.{State}
use Rattle.model.specs.declared.State.TheVariants.{Ended, Overrun, Ready, Waiting, Running}
use Rattle.model.specs.Record.{is_running}

-- a state that is running, and any other
pub is_running-self : (s : State) (c : Cycle) → s ≡ Running c → is_running s ≡ true
is_running-self s c e = rw e refl

pub is_running-other : (s : State) → ((x : Cycle) → s ≡ Running x → ⊥) → is_running s ≡ false
is_running-other (Ended c) o = refl
is_running-other (Overrun c) o = refl
is_running-other (Ready c) o = refl
is_running-other (Waiting e c) o = refl
is_running-other (Running c) o = absurd (o c refl)

-- an answer that is no refusal
pub told-none : (a : Result (Unit {0}) Refusal) → ((r : Refusal) → a ≡ Err r → ⊥) → number_told a ≡ 0
told-none (Ok x) o = refl
told-none (Err r) o = absurd (o r refl)
