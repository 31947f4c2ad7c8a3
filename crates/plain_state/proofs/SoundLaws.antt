-- What the words use of a place of the plain run of a model that keeps the file rules, from the laws of plain_laws.
--     Ranged     every state is in a word's range, and past a model's threads the records are zero
--     Sound, sound-at     segments in the model and no port lacking, deltas in range, and the threads that were looked at ahead of the cycle that runs
use Prim.Native.Nat.{ℕ, ◌<◌, ◌≤◌}
use mathlib.Core.Path.{◌≡◌, refl, subst}
use mathlib.Core.Bool.{false}
use native.Mathlib.Omega.{arith}
use lib.Dec.{T}
use lib.ListN.{length}
use mathlib.Core.List.{List}
use Rattle.clock.specs.declared.Cycle.{Cycle}
use Rattle.clock.specs.Order.{Before}
use Rattle.model.specs.declared.Model.{Model}
use Rattle.model.specs.declared.State.{State}
use Rattle.model.specs.declared.State.TheVariants.{Ended, Overrun, Ready, Waiting, Running}
use Rattle.model.specs.declared.Thread.{Thread}
use Rattle.model.specs.Limits.{record_time, is_up_to_horizon}
use Rattle.model.specs.Record as view
use Rattle.model.specs.Record.{no_thread, thread_at, view_of, cycle_of, is_running}
use Rattle.model.specs.Reach.{lacks_from}
use Rattle.model.specs.Rules.{model_fault}
use Rattle.model_rules.proofs.RuleLaws.{model_fault-counts}
use Rattle.plain.specs.Start.{Place}
use Rattle.plain.specs.Step.{place_at}
use Rattle.plain_laws.proofs.StepLaws.{woken_at}
use Rattle.plain_laws.proofs.StartLaws.{shape}
use Rattle.plain_laws.proofs.SteadyLaws.{woken-later, steady}
use Rattle.plain_laws.proofs.RangeLaws.{in-range, now_before, record-time, threads-length}
use Rattle.plain_laws.proofs.KeepLaws.{model_fault-keeps}
use Rattle.plain_state.proofs.WordLaws.{InRange}

pub record Ranged (t : ℕ) (ts : List Thread) : Type 0 where
  pub range : (k : ℕ) → k < t → InRange (thread_at ts k).state
  pub rest : (k : ℕ) → t ≤ k → thread_at ts k ≡ no_thread

pub record Sound (m : Model) (p : Place) : Type 0 where
  pub size : length p.threads ≡ 32
  pub turn : p.turn ≤ m.t
  pub time : T (is_up_to_horizon m p.now)
  pub delta : p.now.delta.0 ≤ 1023
  pub segment : (k : ℕ) → k < m.t → (thread_at p.threads k).segment < m.n
  pub lacks : (k : ℕ) → k < m.t → lacks_from m k (thread_at p.threads k).segment ≡ false
  pub ahead : (k : ℕ) (c : Cycle) → k < p.turn → view_of (thread_at p.threads k).state ≡ view.ready c → Before p.now c
  pub later : m.t ≤ p.turn → (k : ℕ) (c : Cycle) → view_of (thread_at (woken_at p) k).state ≡ view.ready c → Before p.now c
  pub ranged : Ranged m.t p.threads

state-range : (s : State) → is_running s ≡ false → (cycle_of s).time.0 < record_time → (cycle_of s).delta.0 ≤ 1023 → ((e : ℕ) (c : Cycle) → view_of s ≡ view.waits e c → e < 32) → InRange s
state-range (Ended c) u t d w = record { key = omega arith; delta = d }
state-range (Overrun c) u t d w = record { key = omega arith; delta = d }
state-range (Ready c) u t d w = record { key = omega arith; delta = d }
state-range (Waiting e c) u t d w = (w e c refl, record { key = omega arith; delta = d })
state-range (Running c) u t d w = absurd (subst T u tt)

pub sound-at : (m : Model) → model_fault m ≡ 0 → (i : ℕ) → Sound m (place_at m i)
sound-at m fit i =
    let kept = model_fault-keeps m fit in
    let few = (model_fault-counts m fit).events in
    let fits = (in-range m kept i).fits in
    record {
      size = threads-length m kept i;
      turn = (shape m i).turns;
      time = now_before m kept i;
      delta = (in-range m kept i).now_delta;
      segment = λ k h. (fits k h).segment;
      lacks = λ k h. (fits k h).lacks;
      ahead = (steady m i).looked;
      later = woken-later m (place_at m i) (shape m i) (steady m i);
      ranged = record {
        range = λ k h. state-range (thread_at (place_at m i).threads k).state (fits k h).unbegun (record-time m kept i k h) (fits k h).delta (λ e c w. omega (arith, (fits k h).event e c w));
        rest = (shape m i).past;
      };
    }
