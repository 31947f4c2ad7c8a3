-- A model that keeps the file rules stays in range: segments below N, events below E, times below 2,000,000,000, deltas to 1,023,
-- no way to a port that the thread leaves unused, none running, and the cycle that runs now is not later than the horizon. What a run uses of the rules is gathered in Keeps.
--     Keeps     what a model that keeps the rules promises of a run
--     InRange, in-range     at every place
--     now_before, record-time, ready-time     the times of records, as numbers
--     threads-length, variables_length     32 records and 64 variables
use Prim.Native.Nat.{ℕ, zero, suc, ◌+◌, ◌<◌, ◌≤◌}
use mathlib.Core.Path.{◌≡◌, refl, sym, ◌∙◌, subst}
use mathlib.Core.Logic.{◌⊎◌, inl, inr}
use mathlib.Core.Bool.{false}
use mathlib.Core.List.{List}
use native.Mathlib.Omega.{arith}
use lib.Dec.{T}
use lib.ListN.{length}
use Rattle.clock.specs.declared.Cycle.{Cycle}
use Rattle.clock.specs.declared.Wait.TheVariants as wait
use Rattle.clock.specs.Wait.{last_delta, wait_ends}
use Rattle.model.specs.declared.Model.{Model}
use Rattle.model.specs.declared.Thread.{Thread}
use Rattle.model.specs.Limits.{end_time, largest_time, record_time, is_up_to_horizon}
use Rattle.model.specs.Values.{start_at}
use Rattle.model.specs.Record as view
use Rattle.model.specs.Record.{cycle_of, is_running, view_of}
use Rattle.model.specs.Effect.{effect_of}
use Rattle.model.specs.Footprint.{has}
use Rattle.model.specs.Reach.{lacks_from}
use Rattle.plain.specs.Start.{Place, started, start_of}
use Rattle.plain.specs.Step.{stepped, place_at}
use Rattle.plain_laws.proofs.RecordLaws.{ready-cycle, state_after-not-waits, state_after-unbegun, effect_of-unbegun, horizon→<, <→horizon, has-append, has-none, heard-time, heard-delta}
use Rattle.plain_laws.proofs.WakeLaws.{floor_of-attained}
use Rattle.plain_laws.proofs.StepLaws.{record_of, state_of, woken_at, effect_at, Sees, sees, sees_ran, sees_passed, sees_begun, sees_rested, stepped-threads-length}
use Rattle.plain_laws.proofs.StartLaws.{start_of-record, start_of-now, start_of-notified, start_of-length, shape}
use Rattle.plain_laws.proofs.HappenLaws.{Happens, idle, runs, hears, happens}

pub record Keeps (m : Model) : Type 0 where
  pub horizon_most : m.horizon.0 ≤ largest_time
  pub thread_some : 1 ≤ m.t
  pub thread_most : m.t ≤ 32
  pub first : (k : ℕ) → k < m.t → (start_at m k).first < m.n
  pub first_lacks : (k : ℕ) → k < m.t → lacks_from m k (start_at m k).first ≡ false
  -- a thread k that runs segment s at cycle c
  pub next : (k s : ℕ) (c : Cycle) (v : List ℕ) → s < m.n → (effect_of m k s c v).thread.segment < m.n
  pub next_lacks : (k s : ℕ) (c : Cycle) (v : List ℕ) → s < m.n → lacks_from m k s ≡ false → lacks_from m k (effect_of m k s c v).thread.segment ≡ false
  pub event : (k s : ℕ) (c : Cycle) (v : List ℕ) (e : ℕ) (d : Cycle) → s < m.n → view_of (effect_of m k s c v).thread.state ≡ view.waits e d → e < m.e
  pub notifies : (k s : ℕ) (c : Cycle) (v : List ℕ) (e : ℕ) → s < m.n → T (has (effect_of m k s c v).notified e) → e < m.e
  pub time : (k s : ℕ) (c : Cycle) (v : List ℕ) → s < m.n → (cycle_of (effect_of m k s c v).thread.state).time.0 ≤ c.time.0 + largest_time
  pub delta : (k s : ℕ) (c : Cycle) (v : List ℕ) → c.delta.0 ≤ last_delta → (cycle_of (effect_of m k s c v).thread.state).delta.0 ≤ last_delta
  pub sized : (k s : ℕ) (c : Cycle) (v : List ℕ) → length (effect_of m k s c v).variables ≡ length v

-- the record of thread k, in range
pub record Fits (m : Model) (k : ℕ) (t : Thread) : Type 0 where
  pub segment : t.segment < m.n
  pub lacks : lacks_from m k t.segment ≡ false
  pub event : (e : ℕ) (c : Cycle) → view_of t.state ≡ view.waits e c → e < m.e
  pub time : (cycle_of t.state).time.0 < end_time m + largest_time
  pub delta : (cycle_of t.state).delta.0 ≤ last_delta
  pub unbegun : is_running t.state ≡ false

pub record InRange (m : Model) (p : Place) : Type 0 where
  pub fits : (k : ℕ) → k < m.t → Fits m k (record_of p k)
  pub now_time : p.now.time.0 < end_time m
  pub now_delta : p.now.delta.0 ≤ last_delta
  pub notified : (e : ℕ) → T (has p.notified e) → e < m.e

module _ (m : Model) (kept : Keeps m) where
  range-start : InRange m (start_of m)
  unfolding started
  range-start = record { fits = fits; now_time = rw (start_of-now m) (omega arith); now_delta = rw (start_of-now m) (omega arith); notified = λ e t. absurd (has-none e (rw (start_of-notified m) at t)) }
    where
      fits : (k : ℕ) → k < m.t → Fits m k (record_of (start_of m) k)
      fits k h =
          subst (Fits m k) (sym (start_of-record m k h))
          (record { segment = kept.first k h; lacks = kept.first_lacks k h; event = λ e c w. absurd (let z : ◌≡◌ {A = ℕ} 0 1 = cc in omega arith); time = omega arith; delta = omega arith; unbegun = refl })

  fits-step : (p : Place) → m.t ≤ length p.threads → InRange m p → (k : ℕ) → k < m.t → Fits m k (record_of (stepped m p) k)
  fits-step p enough g k h = go (happens m p k enough)
    where
      old : Fits m k (record_of p k)
      old = g.fits k h

      go : Happens m p k → Fits m k (record_of (stepped m p) k)
      go (idle s r n i) = subst (Fits m k) (sym s) old
      go (runs r d s i) =
          subst (Fits m k) (sym s)
          (record {
            segment = kept.next k (record_of p k).segment p.now p.variables old.segment;
            lacks = kept.next_lacks k (record_of p k).segment p.now p.variables old.segment old.lacks;
            event = λ e c w. kept.event k (record_of p k).segment p.now p.variables e c old.segment w;
            time = omega (arith, kept.time k (record_of p k).segment p.now p.variables old.segment, g.now_time);
            delta = kept.delta k (record_of p k).segment p.now p.variables g.now_delta;
            unbegun = effect_of-unbegun m k (record_of p k).segment p.now p.variables;
          })
      go (hears v n s i) =
          subst (Fits m k) (sym s)
          (record {
            segment = old.segment;
            lacks = old.lacks;
            event = λ e c w. absurd (state_after-not-waits (wait_ends wait.Event p.now) e c w);
            time = omega (arith, heard-time p.now, g.now_time);
            delta = heard-delta p.now g.now_delta;
            unbegun = state_after-unbegun (wait_ends wait.Event p.now);
          })

  range-step : (p : Place) → m.t ≤ length p.threads → InRange m p → InRange m (stepped m p)
  range-step p enough g = go (sees m p)
    where
      fits : (k : ℕ) → k < m.t → Fits m k (record_of (stepped m p) k)
      fits = fits-step p enough g

      go : Sees m p → InRange m (stepped m p)
      go (sees_ran q h r s) = record { fits = fits; now_time = rw s g.now_time; now_delta = rw s g.now_delta; notified = λ e t. told e (has-append p.notified (effect_at m p).notified e (rw s at t)) }
        where
          told : (e : ℕ) → T (has p.notified e) ⊎ T (has (effect_at m p).notified e) → e < m.e
          told e (inl t) = g.notified e t
          told e (inr t) = kept.notifies p.turn (record_of p p.turn).segment p.now p.variables e (g.fits p.turn h).segment t
      go (sees_passed q h r s) = record { fits = fits; now_time = rw s g.now_time; now_delta = rw s g.now_delta; notified = λ e t. g.notified e (rw s at t) }
      go (sees_begun q h f e b s) =
          let (k, l, r) = floor_of-attained m (woken_at p) f e in
          record { fits = fits; now_time = rw s (horizon→< m f b); now_delta = rw s (begins k l (rw s r)); notified = λ v t. absurd (has-none v (rw s at t)) }
        where
          begins : (k : ℕ) → k < m.t → view_of (state_of (stepped m p) k) ≡ view.ready f → f.delta.0 ≤ last_delta
          begins k l r = rw (ready-cycle (state_of (stepped m p) k) f r) at (fits k l).delta
      go (sees_rested q h l s) = record { fits = fits; now_time = rw s g.now_time; now_delta = rw s g.now_delta; notified = λ v t. absurd (has-none v (rw s at t)) }

  pub in-range : (i : ℕ) → InRange m (place_at m i)
  unfolding place_at
  in-range zero = range-start
  in-range (suc i) = range-step (place_at m i) (shape m i).enough (in-range i)

  -- the cycle that runs now is not later than the horizon
  pub now_before : (i : ℕ) → T (is_up_to_horizon m (place_at m i).now)
  now_before i = <→horizon m (place_at m i).now (in-range i).now_time

  -- no record is out of range
  pub record-time : (i k : ℕ) → k < m.t → (cycle_of (state_of (place_at m i) k)).time.0 < record_time
  record-time i k h = omega (arith, ((in-range i).fits k h).time, kept.horizon_most)

  pub ready-time : (i k : ℕ) (c : Cycle) → k < m.t → view_of (state_of (place_at m i) k) ≡ view.ready c → c.time.0 < end_time m + largest_time
  ready-time i k c h r = rw (ready-cycle (state_of (place_at m i) k) c r) at ((in-range i).fits k h).time

  pub threads-length : (i : ℕ) → length (place_at m i).threads ≡ 32
  unfolding place_at
  threads-length zero = start_of-length m kept.thread_most
  threads-length (suc i) = stepped-threads-length m (place_at m i) ∙ threads-length i

  variables-step : (p : Place) → length (stepped m p).variables ≡ length p.variables
  variables-step p = go (sees m p)
    where
      go : Sees m p → length (stepped m p).variables ≡ length p.variables
      go (sees_ran q h r s) = rw s (kept.sized p.turn (record_of p p.turn).segment p.now p.variables)
      go (sees_passed q h r s) = rw s refl
      go (sees_begun q h c f b s) = rw s refl
      go (sees_rested q h l s) = rw s refl

  pub variables_length : (i : ℕ) → length (place_at m i).variables ≡ 64
  unfolding place_at start_of
  variables_length zero = refl
  variables_length (suc i) = variables-step (place_at m i) ∙ variables_length i
