-- Every model without a fault keeps what a run uses of the file rules.
--     effect_of-waits-on, effect_of-time, effect_of-delta, effect_of-notifies     what a thread does in a segment, by its closer and its statements
--     effect_of-lacks     nor does it lead to a port that the thread leaves unused
--     model_fault-keeps     the record Keeps, from the rules
use Prim.Native.Nat.{ℕ, ◌+◌, ◌<◌, ◌≤◌}
use mathlib.Core.Path.{◌≡◌, refl, ap, sym, ◌∙◌, subst}
use mathlib.Core.Logic.{◌⊎◌, inl, inr}
use mathlib.Core.Bool.{false}
use mathlib.Core.List.{List}
use native.Mathlib.Omega.{arith}
use lib.Dec.{T}
use Rattle.clock.specs.declared.Cycle.{Cycle}
use Rattle.clock.specs.declared.Wait.TheVariants as wait
use Rattle.clock.specs.Wait.{last_delta, wait_ends}
use Rattle.model.specs.declared.Next.{Next}
use Rattle.model.specs.declared.Closer.{Closer}
use Rattle.model.specs.declared.Closer.TheVariants.{End, Time, Event}
use Rattle.model.specs.declared.Model.{Model}
use Rattle.model.specs.declared.Thread.{Thread}
use Rattle.model.specs.Limits.{largest_time}
use Rattle.model.specs.Port.{map_segment}
use Rattle.model.specs.Values.{segment_at, ports_at, segment_for}
use Rattle.model.specs.Record as view
use Rattle.model.specs.Record.{cycle_of, view_of}
use Rattle.model.specs.Effect.{closed_at, effect_of}
use Rattle.model.specs.Footprint.{has, notifies_in}
use Rattle.model.specs.Reach.{steps_to, lacks_from}
use Rattle.model.specs.Rules.{model_fault}
use Rattle.model_effect.proofs.EffectLaws.{delay_of, closed_at-cycle}
use Rattle.model_effect.proofs.FrameLaws.{effect_of-begins, effect_of-length}
use Rattle.model_effect.proofs.PortLaws.{closer-steps}
use Rattle.model_reach.proofs.ReachLaws.{lacks_from-step}
use Rattle.model_rules.proofs.RuleLaws.{closed_at-segment, model_fault-horizon, model_fault-counts, segment_for-delay, segment_for-event, segment_for-next, model_fault-first, model_fault-lacks, model_fault-notifies}
use Rattle.plain_laws.proofs.RecordLaws.{append-has, closed_at-next, state_after-not-waits, state_after-delta, effect_of-thread}
use Rattle.plain_laws.proofs.RangeLaws.{Keeps}

closed_at-waits-on : (s : ℕ) (g : Closer) (c d : Cycle) (v : List ℕ) (e : ℕ) → view_of (closed_at s g c v).state ≡ view.waits e d → (x : Next) × (g ≡ Event e x)
unfolding closed_at
closed_at-waits-on s End c d v w e = absurd (let z : ◌≡◌ {A = ℕ} 0 1 = cc in omega arith)
closed_at-waits-on s (Time k x) c d v w e = absurd (state_after-not-waits (wait_ends (wait.Time k) c) w d e)
closed_at-waits-on s (Event u x) c d v w e = let f : u ≡ w = cc in (x, rw f refl)

closed_at-delta : (s : ℕ) (g : Closer) (c : Cycle) (v : List ℕ) → c.delta.0 ≤ last_delta → (cycle_of (closed_at s g c v).state).delta.0 ≤ last_delta
unfolding closed_at
closed_at-delta s End c v h = h
closed_at-delta s (Time k x) c v h = state_after-delta (wait.Time k) c h
closed_at-delta s (Event w x) c v h = h

module _ (m : Model) (k s : ℕ) (c : Cycle) (v : List ℕ) where
  -- its closer names the event that it waits on
  pub effect_of-waits-on : (e : ℕ) (d : Cycle) → view_of (effect_of m k s c v).thread.state ≡ view.waits e d → (x : Next) × ((segment_for m k s).closer ≡ Event e x)
  effect_of-waits-on e d f =
      closed_at-waits-on s (segment_for m k s).closer c d (effect_of m k s c v).variables e (ap (λ (t : Thread). view_of t.state) (sym (effect_of-thread m k s c v)) ∙ f)

  pub effect_of-time : (cycle_of (effect_of m k s c v).thread.state).time.0 ≤ c.time.0 + delay_of (segment_for m k s).closer
  effect_of-time = rw (effect_of-thread m k s c v) (closed_at-cycle s (segment_for m k s).closer c (effect_of m k s c v).variables)

  pub effect_of-delta : c.delta.0 ≤ last_delta → (cycle_of (effect_of m k s c v).thread.state).delta.0 ≤ last_delta
  effect_of-delta h = rw (effect_of-thread m k s c v) (closed_at-delta s (segment_for m k s).closer c (effect_of m k s c v).variables h)

  -- what it notifies is listed
  pub effect_of-notifies : (e : ℕ) → T (has (effect_of m k s c v).notified e) → T (notifies_in m k s e)
  unfolding notifies_in
  effect_of-notifies e t =
      let (rest, p) = effect_of-begins m k s c v in
      rw p (append-has (effect_of m k s c v).notified rest e (inl t))

  -- the next segment is this one, or a step of the graph
  pub effect_of-lacks : (effect_of m k s c v).thread.segment < m.n → lacks_from m k s ≡ false → lacks_from m k (effect_of m k s c v).thread.segment ≡ false
  unfolding segment_for map_segment
  effect_of-lacks h none =
      go (subst (λ (t : Thread). (t.segment ≡ s) ⊎ T (steps_to (segment_for m k s).closer t.segment)) (sym (effect_of-thread m k s c v))
      (closed_at-next s (segment_for m k s).closer c (effect_of m k s c v).variables))
    where
      next : ℕ
      next = (effect_of m k s c v).thread.segment

      go : (next ≡ s) ⊎ T (steps_to (segment_for m k s).closer next) → lacks_from m k next ≡ false
      go (inl e) = rw e none
      go (inr t) = lacks_from-step m k s next h (rw (closer-steps (ports_at m k) (segment_at m s).closer next) at t) none

-- every model that keeps the file rules
pub model_fault-keeps : (m : Model) → model_fault m ≡ 0 → Keeps m
model_fault-keeps m fit =
    record {
      horizon_most = (model_fault-horizon m fit).1;
      thread_some = (model_fault-counts m fit).some_thread;
      thread_most = (model_fault-counts m fit).threads;
      first = λ k h. model_fault-first m fit k h;
      first_lacks = λ k h. model_fault-lacks m fit k h;
      next = next;
      next_lacks = λ k s c v h none. effect_of-lacks m k s c v (next k s c v h) none;
      event = event;
      notifies = λ k s c v e h t. model_fault-notifies m fit k s h e (effect_of-notifies m k s c v e t);
      time = time;
      delta = λ k s c v h. effect_of-delta m k s c v h;
      sized = λ k s c v. effect_of-length m k s c v;
    }
  where
    next : (k s : ℕ) (c : Cycle) (v : List ℕ) → s < m.n → (effect_of m k s c v).thread.segment < m.n
    next k s c v h =
        rw (effect_of-thread m k s c v)
        (closed_at-segment m.n s (segment_for m k s).closer c (effect_of m k s c v).variables h (segment_for-next m fit k s h))

    event : (k s : ℕ) (c : Cycle) (v : List ℕ) (e : ℕ) (d : Cycle) → s < m.n → view_of (effect_of m k s c v).thread.state ≡ view.waits e d → e < m.e
    event k s c v e d h w = let (x, q) = effect_of-waits-on m k s c v e d w in segment_for-event m fit k s h e x q

    time : (k s : ℕ) (c : Cycle) (v : List ℕ) → s < m.n → (cycle_of (effect_of m k s c v).thread.state).time.0 ≤ c.time.0 + largest_time
    time k s c v h = omega (arith, effect_of-time m k s c v, segment_for-delay m fit k s h)
