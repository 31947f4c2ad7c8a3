-- What a grant leaves, part by part: the log with the new pairs, dropped before the floor; the variables of the segment's effect; the record
-- of the thread that ran, and every other as the deliveries leave it. And when a log is too full for one.
use Prim.Native.Nat.{ℕ, ◌<◌, ◌≤◌}
use mathlib.Core.Path.{◌≡◌, refl, ap, sym, ◌∙◌, subst}
use mathlib.Core.Logic.{inl}
use mathlib.Core.Bool.{false, ◌&&◌, ◌||◌}
use mathlib.Core.List.{List, ◌∷◌}
use lib.Dec.{T, ltb, nltb→le}
use lib.ListN.{length, length-set}
use borrow.Author.Tests.{le-ltb, eq-eqb, ne_eqb}
use Rattle.base.proofs.BoolLaws.{T→true, T→false, false→T, not-or→both}
use Rattle.clock.specs.declared.Cycle.{Cycle}
use Rattle.clock.specs.declared.Bound.TheVariants.{At}
use Rattle.clock.specs.Advance.{is_bound_before}
use Rattle.clock.specs.Order.{◌≼◌}
use Rattle.clock.proofs.LeastLaws.{≼→not-is_bound_before}
use Rattle.model.specs.declared.Model.{Model}
use Rattle.model.specs.declared.Thread.{Thread}
use Rattle.model.specs.Record.{thread_at, nothing, awaited_by}
use Rattle.model.specs.Footprint.{has, listed_in}
use Rattle.model_effect.proofs.FrameLaws.{effect_of-begins}
use Rattle.plain.specs.Wake.{floor_of}
use Rattle.plain.specs.History.{ran}
use Rattle.plain_laws.proofs.RecordLaws.{thread_at-set, thread_at-other, append-has}
use Rattle.early.specs.declared.Site.{Site}
use Rattle.early.specs.Log.{places, log_of, drop_before, counted_places}
use Rattle.early.specs.Deliver.{settled_items}
use Rattle.early.specs.Grant.{effect_at, log_after, closed_threads, threads_after, site_after, items_after}
use Rattle.early.specs.Request.{early_places, is_full}
use Rattle.early_laws.proofs.LogLaws.{log_of-site_of, site_of-variables}
use Rattle.early_laws.proofs.CountedLaws.{places_with-counted}
use Rattle.early_laws.proofs.NumberLaws.{is_full_by-none}
use Rattle.early_laws.proofs.RestLaws.{Rest, settled-rest}
use Rattle.early_laws.proofs.SettleLaws.{settled-length, settled-segment, settled-kept}

module _ (m : Model) (site : Site) (ts : List Thread) (k : ℕ) (c : Cycle) where
  -- "its notifications are logged": in no more places than 15 counts, as the segment notifies a beginning of what it lists
  pub log_after-counted : length (log_after m site ts k c) ≤ counted_places m site ts k (thread_at ts k).segment c
  unfolding log_after effect_at counted_places
  log_after-counted =
      let (rest, p) = effect_of-begins m k (thread_at ts k).segment c site.variables.at in
      places_with-counted m ts (log_of site) c (effect_at m site ts k c).notified (listed_in m k (thread_at ts k).segment)
      (λ e t. subst (λ (es : List ℕ). T (has es e)) (sym p) (append-has (effect_at m site ts k c).notified rest e (inl t)))

  -- "its closer is applied at its cycle"

  pub closed_threads-self : k < length ts → thread_at (closed_threads m site ts k c) k ≡ (effect_at m site ts k c).thread
  unfolding closed_threads
  closed_threads-self h = thread_at-set ts k (effect_at m site ts k c).thread h

  pub closed_threads-other : (j : ℕ) → (j ≡ k → ⊥) → thread_at (closed_threads m site ts k c) j ≡ thread_at ts j
  unfolding closed_threads
  closed_threads-other j other = thread_at-other ts k j (effect_at m site ts k c).thread other

  pub closed_threads-length : length (closed_threads m site ts k c) ≡ length ts
  unfolding closed_threads
  closed_threads-length = length-set ts k (effect_at m site ts k c).thread

  -- 15, "cycle later than the floor and log plus new pairs above 96; or above 128 for any thread"

  pub is_full-none : is_full m site ts k c ≡ false → counted_places m site ts k (thread_at ts k).segment c ≤ places
  unfolding is_full
  is_full-none e = is_full_by-none (floor_of m ts) (counted_places m site ts k (thread_at ts k).segment c) c e

  pub is_full-early : is_full m site ts k c ≡ false → T (is_bound_before (floor_of m ts) (At c)) → counted_places m site ts k (thread_at ts k).segment c ≤ early_places
  unfolding is_full
  is_full-early e t =
      let n = counted_places m site ts k (thread_at ts k).segment c in
      let early = is_bound_before (floor_of m ts) (At c) && ltb early_places n in
      let p = (not-or→both early (ltb places n) (false→T (early || ltb places n) e)).0 in
      nltb→le early_places n (rw (T→true (is_bound_before (floor_of m ts) (At c)) t) at p)

  -- at the floor 96 does not count
  pub is_full-floor : At c ≼ floor_of m ts → counted_places m site ts k (thread_at ts k).segment c ≤ places → is_full m site ts k c ≡ false
  unfolding is_full
  is_full-floor h le =
      let n = counted_places m site ts k (thread_at ts k).segment c in
      rw
      (T→false (is_bound_before (floor_of m ts) (At c)) (≼→not-is_bound_before (floor_of m ts) (At c) h), le-ltb places n le)
      refl

  module _ (ws : List ℕ) where
    pub site_after-log : log_of (site_after m ws site ts k c) ≡ drop_before (floor_of m (threads_after m ws site ts k c)) (log_after m site ts k c)
    unfolding site_after
    site_after-log =
        log_of-site_of
        (effect_at m site ts k c).variables
        (drop_before (floor_of m (threads_after m ws site ts k c)) (log_after m site ts k c))

    pub site_after-variables : (site_after m ws site ts k c).variables.at ≡ (effect_at m site ts k c).variables
    unfolding site_after
    site_after-variables =
        site_of-variables
        (effect_at m site ts k c).variables
        (drop_before (floor_of m (threads_after m ws site ts k c)) (log_after m site ts k c))

    -- "until none hears anything"
    pub threads_after-rest : Rest m ws (log_after m site ts k c) (threads_after m ws site ts k c)
    unfolding threads_after
    threads_after-rest = settled-rest m ws (log_after m site ts k c) (closed_threads m site ts k c)

    pub threads_after-length : length (threads_after m ws site ts k c) ≡ length ts
    unfolding threads_after
    threads_after-length = settled-length m ws (log_after m site ts k c) (closed_threads m site ts k c) ∙ closed_threads-length

    -- a thread that did not run and does not wait keeps its record, and any its segment
    pub threads_after-kept : (j : ℕ) → (j ≡ k → ⊥) → awaited_by (thread_at ts j).state ≡ nothing → thread_at (threads_after m ws site ts k c) j ≡ thread_at ts j
    unfolding threads_after
    threads_after-kept j other w =
        let same = closed_threads-other j other in
        settled-kept m ws (log_after m site ts k c) (closed_threads m site ts k c) j (ap (λ (t : Thread). awaited_by t.state) same ∙ w) ∙ same

    pub threads_after-segment : (j : ℕ) → (thread_at (threads_after m ws site ts k c) j).segment ≡ (thread_at (closed_threads m site ts k c) j).segment
    unfolding threads_after
    threads_after-segment j = settled-segment m ws (log_after m site ts k c) (closed_threads m site ts k c) j

    -- "the segments are those granted to it and the events those delivered to it"

    pub items_after-self : items_after m ws site ts k c k ≡ ran (thread_at ts k).segment c ∷ settled_items m ws (log_after m site ts k c) (closed_threads m site ts k c) k
    unfolding items_after
    items_after-self = rw (eq-eqb k k refl) refl

    pub items_after-other : (j : ℕ) → (j ≡ k → ⊥) → items_after m ws site ts k c j ≡ settled_items m ws (log_after m site ts k c) (closed_threads m site ts k c) j
    unfolding items_after
    items_after-other j other = rw (ne_eqb j k other) refl
