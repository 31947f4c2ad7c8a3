-- From one state to the next by a request, and over a whole list: a fresh state is a cut, a refused request changes nothing, and after a
-- granted one the run, the deliveries and the drop leave a cut at its floor, with room in the log (`Stepped`).
-- Takes as given the facts of the plain run (PlainFacts) and the laws of the kit (KitLaws).
use Prim.Native.Nat.{ℕ, ◌<◌}
use mathlib.Core.Path.{◌≡◌, refl, ap, sym, ◌∙◌, subst, fun_ext}
use mathlib.Core.Bool.{Bool, true, false}
use mathlib.Core.List.Memᴰ
use mathlib.Core.List.{List, [], ◌++◌, append-nil}
use native.Mathlib.Omega.{arith}
use lib.Dec.{T}
use Rattle.base.proofs.BoolLaws.{true→T}
use Rattle.clock.specs.declared.Cycle.{Cycle}
use Rattle.model.specs.declared.Model.{Model}
use Rattle.model.specs.declared.Thread.{Thread}
use Rattle.model.specs.Limits.{is_up_to_horizon}
use Rattle.model.specs.Record as view
use Rattle.model.specs.Record.{thread_at, is_running, view_of}
use Rattle.model.specs.Footprint.{listed_in}
use Rattle.plain.specs.Start.{fresh_variables, start_of}
use Rattle.plain.specs.Step.{place_at}
use Rattle.plain.specs.Wake.{floor_of}
use Rattle.plain.specs.History.{Item, history_at}
use Rattle.plain_laws.proofs.RecordLaws.{ready_cycle→ready}
use Rattle.early.specs.declared.Site.{Site}
use Rattle.early.specs.Log.{log_of, with_pairs, counted_log, counted_places}
use Rattle.early.specs.Grant.{log_after, closed_threads, threads_after, site_after, items_after}
use Rattle.early.specs.Request.{Requested, granted_to, request_of, fresh_site, requests_of}
use Rattle.early_laws.proofs.LogLaws.{with_pairs-kept, with_pairs-new}
use Rattle.early_laws.proofs.OnceLaws.{none}
use Rattle.early_laws.proofs.CountedLaws.{with_running-none}
use Rattle.early_laws.proofs.GrantLaws.{is_full-none, is_full-early}
use Rattle.early_laws.proofs.RequestLaws.{Grantable, Asked, refused, granted, request_of-asked, requests_of-carries}
use Rattle.order.specs.Claim.{FreshBelow}
use Rattle.order.proofs.Seen.{seen, seen_self, Unbegun}
use Rattle.order.proofs.Places.{record_at}
use Rattle.order.proofs.PlainFacts.{PlainFacts, NextRun}
use Rattle.order.proofs.KitLaws.{KitLaws}
use Rattle.order.proofs.Invariant.{Safe}
use Rattle.order.proofs.GoodLaws.{good-fresh}
use Rattle.order.proofs.Grant.{next_place, clear-safe}
use Rattle.order.proofs.Floor.{floor-below}
use Rattle.order.proofs.Capacity.{roomy-short, roomy-pairs, Room}
use Rattle.order.proofs.Reached.{Reached, reached-cut, reached-room}
use Rattle.order.proofs.Stepped.{after-running, ran-reached}

pub reached-same : {m : Model} {site : Site} {ts : List Thread} {h h' : ℕ → List Item} → ((j : ℕ) → h j ≡ h' j) → Reached m site ts h
    → Reached m site ts h'
reached-same {m} {site} {ts} e r = subst (λ (a : ℕ → List Item). Reached m site ts a) (fun_ext e) r

module _ (m : Model) (pf : PlainFacts m) {marks : List (List Bool)} {ws : List ℕ} (kl : KitLaws m marks ws) where
  -- nothing is running in fresh records
  pub fresh-unbegun : (ts : List Thread) → FreshBelow m ts → Unbegun m ts
  unfolding place_at start_of
  fresh-unbegun ts fresh k below = ap (λ (t : Thread). is_running t.state) (fresh.fresh k below) ∙ pf.unbegun 0 k below

  -- "The fresh state, thread records included, is the plain run's start with an empty log"
  pub fresh-reached : (ts : List Thread) → FreshBelow m ts → Reached m fresh_site ts (λ j. [])
  unfolding fresh_site place_at start_of history_at
  fresh-reached ts fresh =
      record {
        variables = fresh_variables;
        log = [];
        site_is = refl;
        cut = λ k. 0;
        is_cut =
            record {
              size = fresh.enough;
              records = λ k below. ap seen (fresh.fresh k below) ∙ seen_self (record_at m 0 k) (pf.unbegun 0 k below);
              history = λ k below. refl;
              good = good-fresh m pf kl;
              low-ready = λ k c below r. floor-below m ts k c below r;
              low-logged = λ y i. absurd (Memᴰ.not-nil i);
              logged = λ q k e d s. absurd (omega (arith, d.passed));
              notified = λ y i. absurd (Memᴰ.not-nil i);
              once = none;
            };
        roomy = rw counted (roomy-short (floor_of m ts) [] (omega arith));
        short = rw counted (omega arith);
        soon = λ k below runs. absurd (subst T (sym runs ∙ fresh-unbegun ts fresh k below) tt);
      }
    where
      counted : counted_log m ts [] ≡ []
      counted = with_running-none m ts [] m.t (fresh-unbegun ts fresh)

  -- What a grant stands on: the thread's next place, which is safe as no hazard stands, and places in the log.
  module _ (site : Site) (ts : List Thread) (h : ℕ → List Item) (r : Reached m site ts h) (k : ℕ) (c : Cycle) (g : Grantable m marks ws site ts k c) where
    pub granted-ready : view_of (thread_at ts k).state ≡ view.ready c
    granted-ready = ready_cycle→ready (view_of (thread_at ts k).state) c g.ready

    pub granted-run : NextRun m (r.cut k) k c
    granted-run = next_place m pf kl (reached-cut r) k c g.thread granted-ready (true→T (is_up_to_horizon m c) g.in-time)

    pub granted-safe : Safe m r.cut granted-run.place k
    granted-safe = clear-safe m pf kl (reached-cut r) k c g.thread granted-ready granted-run g.no_hazard

    pub granted-room : Room (floor_of m ts) (counted_log m ts (log_of site)) c (listed_in m k (thread_at ts k).segment)
    unfolding counted_places
    granted-room =
        let counted = counted_log m ts (log_of site) in
        let es = listed_in m k (thread_at ts k).segment in
        record {
          log = with_pairs counted c es;
          kept = λ y i. with_pairs-kept counted c es i;
          listed = λ e t. with_pairs-new counted c es e t;
          roomy = roomy-pairs (floor_of m ts) counted c es (is_full-early m site ts k c g.room) (reached-room r);
          short = is_full-none m site ts k c g.room;
        }

    pub granted-reached : Reached m (site_after m ws site ts k c) (threads_after m ws site ts k c) (λ j. h j ++ items_after m ws site ts k c j)
    granted-reached = ran-reached m pf kl site ts h r.cut (reached-cut r) k c g.thread granted-ready granted-run granted-safe r.soon granted-room

  -- a request leads from a reached state to a reached state
  pub request-reached : (site : Site) (ts : List Thread) (h : ℕ → List Item) → Reached m site ts h → (k : ℕ)
      → let a = request_of m marks ws site ts k in Reached m a.site a.threads (λ j. h j ++ a.items j)
  unfolding granted_to site_after threads_after log_after closed_threads
  request-reached site ts h r k = go (request_of m marks ws site ts k) (request_of-asked m marks ws site ts k)
    where
      go : (a : Requested) → Asked m marks ws site ts k a → Reached m a.site a.threads (λ j. h j ++ a.items j)
      go a (refused n u f) = reached-same (λ j. sym (append-nil (h j))) r
      go a (granted c g) = granted-reached site ts h r k c g

  -- and so does a list of them
  pub list-reached : (ks : List ℕ) (site : Site) (ts : List Thread) (h : ℕ → List Item) → Reached m site ts h
      → let a = requests_of m marks ws site ts ks in Reached m a.site a.threads (λ j. h j ++ a.history j)
  list-reached ks site ts h r = requests_of-carries m marks ws (Reached m) (λ s us g k q. request-reached s us g q k) ks site ts h r

  -- a request leaves nothing running where nothing was
  pub request-unbegun : (site : Site) (ts : List Thread) (h : ℕ → List Item) → Reached m site ts h → Unbegun m ts → (k : ℕ) → Unbegun m (request_of m marks ws site ts k).threads
  unfolding granted_to threads_after log_after closed_threads
  request-unbegun site ts h r idle k = go (request_of m marks ws site ts k) (request_of-asked m marks ws site ts k)
    where
      go : (a : Requested) → Asked m marks ws site ts k a → Unbegun m a.threads
      go a (refused n u f) = idle
      go a (granted c g) = λ j below. by j below (is_running (thread_at (threads_after m ws site ts k c) j).state) refl
        where
          by : (j : ℕ) → j < m.t → (b : Bool) → is_running (thread_at (threads_after m ws site ts k c) j).state ≡ b → b ≡ false
          by j below false e = refl
          by j below true e =
              let (_, same) = after-running m ws site ts k c (omega (arith, g.thread, r.is_cut.size)) j e in
              sym e ∙ ap (λ (t : Thread). is_running t.state) same ∙ idle j below

  pub list-unbegun : (ks : List ℕ) (site : Site) (ts : List Thread) (h : ℕ → List Item) → Reached m site ts h → Unbegun m ts
      → Unbegun m (requests_of m marks ws site ts ks).threads
  list-unbegun ks site ts h r idle =
      (requests_of-carries m marks ws (λ s us g. Reached m s us g × Unbegun m us)
      (λ s us g k (q, rest). (request-reached s us g q k, request-unbegun s us g q rest k)) ks site ts h (r, idle)).1
