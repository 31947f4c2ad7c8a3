-- The crew and the first limits of thread records, as the code fills them; the floor.
use Prim.Native.Nat.{ℕ, ◌+◌, ◌<◌}
use mathlib.Core.Path.{◌≡◌, refl}
use mathlib.Core.List.{List}
use native.Mathlib.Numerals.{add-one}
use lib.ListN.{get_or, set, replicate}
use Rattle.clock.specs.declared.Bound.{Bound}
use Rattle.clock.specs.declared.Bound.TheVariants.{Never}
use Rattle.clock.specs.Advance.{least, least_below}
use Rattle.model.specs.declared.Thread.{Thread}
use Rattle.model.specs.Record.{no_thread, thread_at, ready_cycle, awaited_by}
use Rattle.tables.specs.Word.{all_ones}
use Rattle.plain.specs.Wake.{floor_below}
use Rattle.early.specs.declared.Notification.{Notification}
use Rattle.early_limits.specs.Ahead.{event_awaited, since_awaited, segments_of, events_of, since_of, crew_of}
use Rattle.early_deliver.specs.Awake.{first_limit, first_limits}
use Rattle.early_deliver.proofs.FillLaws.{fill_none, fill_more}

module _ (ts : List Thread) where
  -- the first k places of each array are filled
  pub record CrewTo (segments events since : List ℕ) (k : ℕ) : Type 0 where
    pub segment : segments ≡ segments_of k ts
    pub event : events ≡ events_of k ts
    pub began : since ≡ since_of k ts

  pub crew-none : CrewTo (replicate 32 0) (replicate 32 255) (replicate 32 0) 0
  unfolding segments_of events_of since_of
  crew-none =
      record {
        segment = fill_none (λ k. (thread_at ts k).segment) 0;
        event = fill_none (λ k. event_awaited (awaited_by (thread_at ts k).state)) 255;
        began = fill_none (λ k. since_awaited (awaited_by (thread_at ts k).state)) 0;
      }

  pub crew-more : (segments events since : List ℕ) (k e c : ℕ) (x : Thread) → k < 32 → CrewTo segments events since k → x ≡ get_or ts k no_thread
      → e ≡ event_awaited (awaited_by x.state) → c ≡ since_awaited (awaited_by x.state) → CrewTo (set segments k x.segment) (set events k e) (set since k c) (k + 1)
  unfolding segments_of events_of since_of thread_at
  crew-more segments events since k e c x h to here f g =
      record {
        segment = rw (to.segment, here) (fill_more (λ i. (thread_at ts i).segment) 0 k h);
        event = rw (to.event, f, here) (fill_more (λ i. event_awaited (awaited_by (thread_at ts i).state)) 255 k h);
        began = rw (to.began, g, here) (fill_more (λ i. since_awaited (awaited_by (thread_at ts i).state)) 0 k h);
      }

  pub crew-all : (segments events since : List ℕ) (k t : ℕ) → k ≡ t → CrewTo segments events since k → record { segments = segments; events = events; since = since } ≡ crew_of t ts
  unfolding crew_of
  crew-all segments events since k t h to = rw (to.segment, to.event, to.began, h) refl

  pub limits-none : (l : List Notification) → replicate 32 18446744073709551615 ≡ first_limits 0 l ts
  unfolding first_limits
  limits-none l = fill_none (λ k. first_limit l (thread_at ts k).state) all_ones

  pub limits-more : (l : List Notification) (xs : List ℕ) (k x : ℕ) → k < 32 → xs ≡ first_limits k l ts → x ≡ first_limit l (get_or ts k no_thread).state → set xs k x ≡ first_limits (k + 1) l ts
  unfolding first_limits thread_at
  limits-more l xs k x h e f = rw (e, f) (fill_more (λ i. first_limit l (thread_at ts i).state) all_ones k h)

  pub floor-none : Never ≡ floor_below 0 ts
  unfolding floor_below least_below
  floor-none = refl

  pub floor-more : (b : Bound) (k : ℕ) → b ≡ floor_below k ts → least b (ready_cycle (get_or ts k no_thread).state) ≡ floor_below (k + 1) ts
  unfolding floor_below least_below thread_at
  floor-more b k e = rw (add-one, e) refl
