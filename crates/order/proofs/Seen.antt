-- A running thread, read as a ready one: that is what it is to everything but its own calls (document 02, slip 7: it "counts as live at its
-- cycle").
--     seen, seen-view, seen-cycle     the record so read: the same segment, the same view, the same cycle
--     seen_self     of a thread that is not running it is the record itself
--     begun_at, seen-begun     a ready thread becomes running
--     Unbegun, running-ready     nothing is running; the view of what is
-- Assumes nothing.
use Prim.Native.Nat.{ℕ, ◌<◌}
use mathlib.Core.Path.{◌≡◌, refl, subst}
use mathlib.Core.Bool.{true, false}
use mathlib.Core.List.{List}
use native.Mathlib.Omega.{arith}
use lib.Dec.{T}
use Rattle.clock.specs.declared.Cycle.{Cycle}
use Rattle.model.specs.declared.Model.{Model}
use Rattle.model.specs.declared.State.{State}
use Rattle.model.specs.declared.State.TheVariants.{Ended, Overrun, Ready, Waiting, Running}
use Rattle.model.specs.declared.Thread.{Thread}
use Rattle.model.specs.Record as view
use Rattle.model.specs.Record.{thread_at, cycle_of, is_running, view_of}
use Rattle.plain_laws.proofs.RecordLaws.{thread-path, ready_cycle→ready, running-cycle}

unfoldable pub seen_state : State → State
seen_state (Ended c) = Ended c
seen_state (Overrun c) = Overrun c
seen_state (Ready c) = Ready c
seen_state (Waiting e c) = Waiting e c
seen_state (Running c) = Ready c

abbrev pub seen : Thread → Thread
seen t = record { segment = t.segment; state = seen_state t.state }

seen_state-view : (s : State) → view_of (seen_state s) ≡ view_of s
unfolding seen_state
seen_state-view (Ended c) = refl
seen_state-view (Overrun c) = refl
seen_state-view (Ready c) = refl
seen_state-view (Waiting e c) = refl
seen_state-view (Running c) = refl

seen_state-cycle : (s : State) → cycle_of (seen_state s) ≡ cycle_of s
unfolding seen_state
seen_state-cycle (Ended c) = refl
seen_state-cycle (Overrun c) = refl
seen_state-cycle (Ready c) = refl
seen_state-cycle (Waiting e c) = refl
seen_state-cycle (Running c) = refl

seen_state-running : (s : State) (c : Cycle) → view_of s ≡ view.ready c → seen_state (Running (cycle_of s)) ≡ seen_state s
unfolding seen_state
seen_state-running (Ended d) c e = absurd (let z : ◌≡◌ {A = ℕ} 0 1 = cc in omega arith)
seen_state-running (Overrun d) c e = absurd (let z : ◌≡◌ {A = ℕ} 0 1 = cc in omega arith)
seen_state-running (Ready d) c e = refl
seen_state-running (Waiting f d) c e = absurd (let z : ◌≡◌ {A = ℕ} 0 1 = cc in omega arith)
seen_state-running (Running d) c e = refl

seen_state-self : (s : State) → is_running s ≡ false → seen_state s ≡ s
unfolding seen_state
seen_state-self (Ended c) e = refl
seen_state-self (Overrun c) e = refl
seen_state-self (Ready c) e = refl
seen_state-self (Waiting f c) e = refl
seen_state-self (Running c) e = absurd (subst T e tt)

pub seen-view : (t : Thread) → view_of (seen t).state ≡ view_of t.state
seen-view t = seen_state-view t.state

pub seen-cycle : (t : Thread) → cycle_of (seen t).state ≡ cycle_of t.state
seen-cycle t = seen_state-cycle t.state

pub seen_self : (t : Thread) → is_running t.state ≡ false → seen t ≡ t
seen_self t e = thread-path refl (seen_state-self t.state e)

-- a ready thread that becomes running at its cycle is seen as before
abbrev pub begun_at : Thread → Thread
begun_at t = record { segment = t.segment; state = Running (cycle_of t.state) }

pub seen-begun : (t : Thread) (c : Cycle) → view_of t.state ≡ view.ready c → seen (begun_at t) ≡ seen t
seen-begun t c e = thread-path refl (seen_state-running t.state c e)

-- nothing is running
abbrev pub Unbegun : Model → List Thread → Type 0
Unbegun m ts = (k : ℕ) → k < m.t → is_running (thread_at ts k).state ≡ false

pub running-ready : (s : State) → is_running s ≡ true → view_of s ≡ view.ready (cycle_of s)
running-ready s e = ready_cycle→ready (view_of s) (cycle_of s) (running-cycle s e)
