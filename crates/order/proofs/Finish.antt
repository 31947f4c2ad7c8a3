-- A finish does what a granted request of its thread would do now. Where the values that are held agree with the state's on all that the segment uses, its
-- effect on them is its effect on the state's: the same notifications, the same record, the same values in what it writes; and what it does not
-- write the finish leaves as it is.
-- Takes as given what a thread does in a segment (Footprints).
use Prim.Native.Nat.{ℕ}
use mathlib.Core.Path.{◌≡◌, refl, sym}
use mathlib.Core.Bool.{cond}
use mathlib.Core.List.{List}
use lib.Dec.{T}
use lib.ListN.{length, get_or}
use Rattle.base.proofs.BoolLaws.{cond-case, T→false}
use Rattle.base.proofs.IndexLaws.{tabulate-is}
use Rattle.clock.specs.declared.Cycle.{Cycle}
use Rattle.model.specs.declared.Model.{Model}
use Rattle.model.specs.declared.Thread.{Thread}
use Rattle.model.specs.Record.{thread_at, cycle_of}
use Rattle.model.specs.Effect.{effect_of}
use Rattle.model.specs.Footprint.{writes_in, uses_in}
use Rattle.model_effect.proofs.FrameLaws.{Agree, Alike}
use Rattle.early.specs.declared.Site.{Site}
use Rattle.early.specs.declared.Answer.TheVariants.{Granted}
use Rattle.early.specs.Deliver.{settled_items}
use Rattle.early.specs.Grant.{effect_at, log_after, closed_threads, threads_after, site_after}
use Rattle.early.specs.Call.{held_at, stored_over, effect_held, finished_from}
use Rattle.order.proofs.KitLaws.{Footprints}

module _ (m : Model) (fp : Footprints m) (k s : ℕ) (c : Cycle) (v w : List ℕ) (agree : Agree (λ i. T (uses_in m k s i)) w v) where
  alike : Alike (λ i. T (uses_in m k s i)) (effect_of m k s c w) (effect_of m k s c v)
  alike = fp.local k s c w v agree

  -- stored over the variables v, its effect on w is its effect on v
  stored_same : stored_over m k s v (effect_of m k s c w).variables ≡ (effect_of m k s c v).variables
  unfolding stored_over
  stored_same =
      sym (tabulate-is 0 (effect_of m k s c v).variables (length v) (λ i. cond (writes_in m k s i) (get_or (effect_of m k s c w).variables i 0) (get_or v i 0)) (fp.sized k s c v) (λ i below. at i))
    where
      at : (i : ℕ) → get_or (effect_of m k s c v).variables i 0 ≡ cond (writes_in m k s i) (get_or (effect_of m k s c w).variables i 0) (get_or v i 0)
      at i =
          cond-case (λ (n : ℕ). get_or (effect_of m k s c v).variables i 0 ≡ n) (writes_in m k s i)
          (λ t. sym (alike.variables_agree.same i (fp.writes_uses k s i t)))
          (λ t. fp.frame k s c v i (T→false (writes_in m k s i) t))

module _ (m : Model) (fp : Footprints m) (ws : List ℕ) (site : Site) (ts : List Thread) (held : List ℕ) (k : ℕ)
    (agree : Agree (λ i. T (uses_in m k (thread_at ts k).segment i)) (held_at held k) site.variables.at) where
  abbrev now : Cycle
  now = cycle_of (thread_at ts k).state

  effect-same : effect_held m site ts held k ≡ effect_at m site ts k now
  unfolding effect_held effect_at
  effect-same =
      let s = (thread_at ts k).segment in
      let v = site.variables.at in
      λ i. record {
        variables = stored_same m fp k s now v (held_at held k) agree i;
        notified = (alike m fp k s now v (held_at held k) agree).same_notified i;
        thread = (alike m fp k s now v (held_at held k) agree).same_thread i;
      }

  -- what it leaves: the state and the records as after a granted request; its segment is in the history since the grant
  pub finished-same : finished_from m ws site ts held k
      ≡ record {
        answer = Granted (thread_at ts k).segment now;
        site = site_after m ws site ts k now;
        threads = threads_after m ws site ts k now;
        items = λ j. settled_items m ws (log_after m site ts k now) (closed_threads m site ts k now) j;
      }
  unfolding finished_from site_after threads_after log_after closed_threads
  finished-same = rw effect-same refl
