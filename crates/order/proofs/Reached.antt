-- What holds of every state that a list of calls can reach, of its records and the histories without what is running: it is a cut at its floor, its
-- log has room, counted with what is running, nothing is running past the horizon, and it is fit, so that no call answers 11.
-- Takes as given the facts of the plain run (PlainFacts) and the laws of the kit (KitLaws).
use Prim.Native.Nat.{ℕ, ◌≤◌, ◌<◌}
use mathlib.Core.Path.{◌≡◌, ap, sym, ◌∙◌, subst, subst₂}
use mathlib.Core.Logic.{◌⊎◌, inl, inr}
use mathlib.Core.Bool.{Bool, true, false}
use mathlib.Core.List.{List, Memᴰ}
use native.Mathlib.Omega.{arith}
use lib.Dec.{T}
use lib.ListN.{length}
use Rattle.clock.specs.declared.Cycle.{Cycle}
use Rattle.clock.specs.declared.Bound.{Bound}
use Rattle.clock.specs.declared.Bound.TheVariants.{At}
use Rattle.clock.specs.Order.{◌≼◌}
use Rattle.model.specs.declared.Model.{Model}
use Rattle.model.specs.declared.Thread.{Thread}
use Rattle.model.specs.Limits.{cut_time, record_time, is_up_to_horizon}
use Rattle.model.specs.Record.{thread_at, cycle_of, is_running}
use Rattle.model.specs.Footprint.{has, listed_in, notifies_in}
use Rattle.plain.specs.Step.{place_at}
use Rattle.plain.specs.Wake.{floor_of}
use Rattle.plain.specs.History.{Item}
use Rattle.early.specs.declared.Notification.{Notification}
use Rattle.early.specs.declared.Site.{Site}
use Rattle.early.specs.Log.{places, log_of, site_of, counted_log}
use Rattle.early.specs.Fit.{is_fit_cycle, is_fit_thread, is_unfit}
use Rattle.early_laws.proofs.LogLaws.{log_of-site_of, site_of-variables}
use Rattle.early_laws.proofs.OnceLaws.{once-length}
use Rattle.early_laws.proofs.CountedLaws.{with_running-kept, with_running-only}
use Rattle.early_laws.proofs.FitLaws.{FitCycle, FitPair, is_fit_cycle→, is_fit_thread→, →is_fit_thread, →is_unfit_threads, →is_unfit_places, →is_unfit, site_of-fit}
use Rattle.order.proofs.Seen.{seen-cycle, running-ready}
use Rattle.order.proofs.Places.{now_at, record_at, Says}
use Rattle.order.proofs.PlainFacts.{PlainFacts}
use Rattle.order.proofs.KitLaws.{KitLaws}
use Rattle.order.proofs.Invariant.{IsCut}
use Rattle.order.proofs.CutLaws.{cut-view, cut-segment}
use Rattle.order.proofs.Capacity.{Roomy}

-- nothing is running past the horizon
abbrev pub Soon : Model → List Thread → Type 0
Soon m ts = (k : ℕ) → k < m.t → is_running (thread_at ts k).state ≡ true → is_up_to_horizon m (cycle_of (thread_at ts k).state) ≡ true

-- a state with its records, and the histories of what has been run to its end
pub record Reached (m : Model) (site : Site) (ts : List Thread) (h : ℕ → List Item) : Type 0 where
  pub variables : List ℕ
  pub log : List Notification
  pub site_is : site ≡ site_of variables log
  pub cut : ℕ → ℕ
  pub is_cut : IsCut m variables log ts h cut (floor_of m ts)
  pub roomy : Roomy (floor_of m ts) (counted_log m ts log)
  pub short : length (counted_log m ts log) ≤ places
  pub soon : Soon m ts

pub reached-log : {m : Model} {site : Site} {ts : List Thread} {h : ℕ → List Item} (r : Reached m site ts h) → log_of site ≡ r.log
reached-log r = ap log_of r.site_is ∙ log_of-site_of r.variables r.log

pub reached-variables : {m : Model} {site : Site} {ts : List Thread} {h : ℕ → List Item} (r : Reached m site ts h)
    → site.variables.at ≡ r.variables
reached-variables r = ap (λ (s : Site). s.variables.at) r.site_is ∙ site_of-variables r.variables r.log

-- a cut of the state itself, and the room in its log
pub reached-cut : {m : Model} {site : Site} {ts : List Thread} {h : ℕ → List Item} (r : Reached m site ts h)
    → IsCut m site.variables.at (log_of site) ts h r.cut (floor_of m ts)
reached-cut {m} {site} {ts} {h} r =
    subst₂ (λ (x : List ℕ) (l : List Notification). IsCut m x l ts h r.cut (floor_of m ts)) (sym (reached-variables r)) (sym (reached-log r))
    r.is_cut

pub reached-room : {m : Model} {site : Site} {ts : List Thread} {h : ℕ → List Item} → Reached m site ts h → Roomy (floor_of m ts) (counted_log m ts (log_of site))
reached-room {m} {site} {ts} {h} r = subst (λ (l : List Notification). Roomy (floor_of m ts) (counted_log m ts l)) (sym (reached-log r)) r.roomy

pub reached-short : {m : Model} {site : Site} {ts : List Thread} {h : ℕ → List Item} → Reached m site ts h → length (counted_log m ts (log_of site)) ≤ places
reached-short {m} {site} {ts} {h} r = subst (λ (l : List Notification). length (counted_log m ts l) ≤ places) (sym (reached-log r)) r.short

module _ (m : Model) (pf : PlainFacts m) {marks : List (List Bool)} {ws : List ℕ} (kl : KitLaws m marks ws) where
  -- whatever a place notifies is an event of the model
  pub says-event : (q k e : ℕ) → Says m q k e → e < m.e
  says-event q k e s =
      kl.distances.listed_below k (record_at m q k).segment e (pf.segment_below q k s.runs.below)
      (kl.distances.listed k (record_at m q k).segment (now_at m q) (place_at m q).variables e s.notifies)

  module _ {x : List ℕ} {l : List Notification} {ts : List Thread} {h : ℕ → List Item} {cut : ℕ → ℕ} {low : Bound} (ic : IsCut m x l ts h cut low) where
    pub logged-event : (y : Notification) → Memᴰ y l → y.event < m.e
    logged-event y i = let (q, k, _, s, _) = ic.notified y i in says-event q k y.event s

    -- so is what a running thread lists; and nothing that is logged or counted is before the floor of the last drop
    pub counted-known : (y : Notification) → Memᴰ y (counted_log m ts l) → (y.event < m.e) × (low ≼ At y.cycle)
    unfolding notifies_in
    counted-known y i = go (with_running-only m ts l m.t i)
      where
        go : Memᴰ y l ⊎ ((j : ℕ) × (j < m.t) × (is_running (thread_at ts j).state ≡ true) × (y.cycle ≡ cycle_of (thread_at ts j).state) × T (has (listed_in m j (thread_at ts j).segment) y.event))
            → (y.event < m.e) × (low ≼ At y.cycle)
        go (inl j) = (logged-event y j, ic.low-logged y j)
        go (inr (j, below, runs, e, t)) = (
          kl.distances.listed_below j (thread_at ts j).segment y.event (rw (cut-segment ic j below) (pf.segment_below (cut j) j below)) t,
          rw e (ic.low-ready j (cycle_of (thread_at ts j).state) below (running-ready (thread_at ts j).state runs)),
        )

    -- the log is no longer than with what is counted
    pub logged-short : length l ≤ length (counted_log m ts l)
    logged-short = once-length ic.once (counted_log m ts l) (λ y i. with_running-kept m ts l m.t i)

    -- a record is fit as the plain run's is
    cut-fit-record : Soon m ts → (k : ℕ) → k < m.t → T (is_fit_thread m k (thread_at ts k))
    cut-fit-record soon k below =
        let there = is_fit_thread→ m k (record_at m (cut k) k) (kl.ranges.fit_record (cut k) k below) in
        let same = sym (ap (λ (t : Thread). cycle_of t.state) (ic.records k below)) ∙ seen-cycle (thread_at ts k) in
        →is_fit_thread m k (thread_at ts k) (record {
          segment = rw (cut-segment ic k below) there.segment;
          cycle = subst (FitCycle record_time) same there.cycle;
          event = λ e since w. there.event e since (sym (cut-view ic k below) ∙ w);
          soon = soon k below;
          lacks = rw (cut-segment ic k below) there.lacks;
        })

    -- a cut with a short log is fit
    pub cut-fit : Soon m ts → length (counted_log m ts l) ≤ places → is_unfit m ws (site_of x l) ts ≡ false
    cut-fit soon short =
        →is_unfit m ws (site_of x l) ts (record {
          model = kl.ranges.model;
          threads = →is_unfit_threads m ts ic.size (cut-fit-record soon);
          log = site_of-fit m x l (omega (arith, logged-short)) logged-fit;
          counted = →is_unfit_places m (site_of x l) ts (rw (log_of-site_of x l) short);
          words = kl.ranges.words;
        })
      where
        logged-fit : (y : Notification) → Memᴰ y l → FitPair m y
        logged-fit y i =
            let (q, _, _, _, now) = ic.notified y i in
            record { event = logged-event y i; cycle = is_fit_cycle→ cut_time y.cycle (subst (λ (c : Cycle). T (is_fit_cycle cut_time c)) now (kl.ranges.fit_now q)) }

  -- every reached state is fit
  pub reached-fit : {site : Site} {ts : List Thread} {h : ℕ → List Item} → Reached m site ts h → is_unfit m ws site ts ≡ false
  reached-fit {site} {ts} r = subst (λ (s : Site). is_unfit m ws s ts ≡ false) (sym r.site_is) (cut-fit r.is_cut r.soon r.short)
