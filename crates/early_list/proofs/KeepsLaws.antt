-- A call leaves a fit state fit, so that a list asks 11 once.
--     closed-fit     after a segment has run, by a log that has places for all that is logged and counted then
--     call-keeps     after a call
use Prim.Native.Nat.{ℕ, ◌<◌, ◌≤◌}
use mathlib.Core.Path.{◌≡◌, ap, ◌∙◌}
use mathlib.Core.Bool.{Bool, true, false}
use mathlib.Core.List.{List}
use native.Mathlib.Omega.{arith}
use lib.Dec.{T}
use lib.ListN.{length, length-append}
use Rattle.clock.specs.declared.Cycle.{Cycle}
use Rattle.clock.specs.declared.Bound.TheVariants.{At}
use Rattle.model.specs.declared.Model.{Model}
use Rattle.model.specs.declared.Thread.{Thread}
use Rattle.model.specs.Limits.{is_up_to_horizon}
use Rattle.model.specs.Record.{thread_at, ready_cycle, cycle_of}
use Rattle.model.specs.Footprint.{has, listed_in}
use Rattle.plain.specs.Wake.{floor_of}
use Rattle.plain_laws.proofs.RecordLaws.{running-cycle}
use Rattle.early.specs.declared.Notification.{Notification}
use Rattle.early.specs.declared.Site.{Site}
use Rattle.early.specs.declared.Call.{Call}
use Rattle.early.specs.Log.{places, pair_of, log_of, site_of, with_pairs, counted_log, counted_places, drop_before}
use Rattle.early.specs.Fit.{is_unfit}
use Rattle.early.specs.Grant.{effect_at, log_after, closed_threads, threads_after}
use Rattle.early.specs.Request.{granted_to}
use Rattle.early.specs.Call.{held_at, is_unfit_held, Called, running_from, stored_over, effect_held, finished_from, call_of}
use Rattle.early_laws.proofs.LogLaws.{In, with_pairs-kept, with_pairs-new, log_of-site_of, drop_before-only}
use Rattle.early_laws.proofs.CountedLaws.{Grown, grown-none, grown-pairs, with_running-grown, with_running-new}
use Rattle.early_laws.proofs.FitLaws.{is_fit_thread→, is_unfit_threads→, is_unfit_places→, →is_unfit_places, is_unfit→, →is_unfit, site_of-fit}
use Rattle.early_laws.proofs.GrantLaws.{site_after-log, is_full-none}
use Rattle.early_laws.proofs.RequestLaws.{Grantable}
use Rattle.early_laws.proofs.CallLaws.{Fitting, Finishable, Asked, refused, done, granted, finished, call_of-asked, call_of-held-length, running-fit}
use Rattle.early_limits.proofs.StateLaws.{FitState, is_unfit→FitState}
use Rattle.early_limits.proofs.DeliverLaws.{granted-fit, settled-fit, after-counted}

-- a thread that runs its segment at c, up to the horizon, and a log b that has grown from this one
module _ (m : Model) (ws : List ℕ) (site : Site) (ts : List Thread) (fit : FitState m ws (log_of site) ts) (k : ℕ) (c : Cycle) (thread : k < m.t)
    (ready : ready_cycle (thread_at ts k).state ≡ At c) (before : is_up_to_horizon m c ≡ true)
    (b : List Notification) (grown : Grown (log_of site) b) (few : length b ≤ places)
    (counted : (x : Notification) → In x (counted_log m ts (log_of site)) → In x b)
    (listed : (e : ℕ) → T (has (listed_in m k (thread_at ts k).segment) e) → In (pair_of e c) b)
  where
    abbrev us : List Thread
    us = threads_after m ws site ts k c

    abbrev rest : List Notification
    rest = drop_before (floor_of m us) (log_after m site ts k c)

    all-counted : length (counted_log m us rest) ≤ places
    all-counted =
        let h = rw (site_after-log m site ts k c ws) at (after-counted m ws site ts fit k c thread ready before b grown counted listed) in
        omega arith

    all-logged : length rest ≤ places
    all-logged =
        let g = with_running-grown m us rest rest m.t (grown-none rest) in
        omega (arith, ap length g.is ∙ length-append rest g.new, all-counted)

    pub closed-fit : (v : List ℕ) → is_unfit m ws (site_of v rest) us ≡ false
    unfolding threads_after
    closed-fit v =
        let log = log_after m site ts k c in
        let settled = settled-fit m ws log (closed_threads m site ts k c) (granted-fit m ws site ts fit k c thread ready before) in
        →is_unfit
        m
        ws
        (site_of v rest)
        us
        (record {
          model = fit.model;
          threads = settled.threads;
          log = site_of-fit m v rest all-logged (λ x h. settled.log x (drop_before-only (floor_of m us) log h).0);
          counted = →is_unfit_places m (site_of v rest) us (rw (log_of-site_of v rest) all-counted);
          words = fit.words;
        })

module _ (m : Model) (marks : List (List Bool)) (ws : List ℕ) (site : Site) (ts : List Thread) (k : ℕ) where
  abbrev l : List Notification
  l = log_of site

  abbrev fs : List ℕ
  fs = listed_in m k (thread_at ts k).segment

  -- 15 counts what is counted and what the segment lists
  done-fit : (c : Cycle) → Grantable m marks ws site ts k c → is_unfit m ws (granted_to m ws site ts k c).site (granted_to m ws site ts k c).threads ≡ false
  unfolding granted_to threads_after log_after closed_threads counted_places
  done-fit c g =
      let all = counted_log m ts l in
      closed-fit m ws site ts (is_unfit→FitState m ws site ts g.fit) k c g.thread g.ready g.in-time (with_pairs all c fs)
      (grown-pairs l all c fs (with_running-grown m ts l l m.t (grown-none l))) (is_full-none m site ts k c g.room)
      (λ x h. with_pairs-kept all c fs h) (λ e t. with_pairs-new all c fs e t) (effect_at m site ts k c).variables

  -- all that a running thread lists is counted; its effect is that of a state with the values that are held
  module _ (held : List ℕ) (e : is_unfit m ws site ts ≡ false) (f : Finishable m ts k) where
    abbrev then : Site
    then = record { variables = record { at = held_at held k }; log = site.log; count = site.count }

    finished-fit : is_unfit m ws (finished_from m ws site ts held k).site (finished_from m ws site ts held k).threads ≡ false
    unfolding finished_from effect_held threads_after log_after closed_threads effect_at log_of
    finished-fit =
        let c = cycle_of (thread_at ts k).state in
        let fit = is_unfit→ m ws site ts e in
        let soon = (is_fit_thread→ m k (thread_at ts k) ((is_unfit_threads→ m ts fit.threads).1 k f.thread)).soon f.running in
        closed-fit m ws then ts (is_unfit→FitState m ws site ts e) k c f.thread (running-cycle (thread_at ts k).state f.running) soon (counted_log m ts l)
        (with_running-grown m ts l l m.t (grown-none l)) (is_unfit_places→ m site ts fit.counted) (λ x h. h)
        (λ e t. with_running-new m ts l m.t k e f.thread f.running t)
        (stored_over m k (thread_at ts k).segment site.variables.at (effect_at m then ts k c).variables)

pub call-keeps : (m : Model) (marks : List (List Bool)) (ws : List ℕ) (site : Site) (ts : List Thread) (held : List ℕ) (call : Call) → Fitting m ws site ts held
    → Fitting m ws (call_of m marks ws site ts held call).left.site (call_of m marks ws site ts held call).left.threads (call_of m marks ws site ts held call).held
unfolding is_unfit_held running_from
call-keeps m marks ws site ts held call fit =
    record { state = go (call_of-asked m marks ws site ts held call); enough = rw (call_of-held-length m marks ws site ts held call) fit.enough }
  where
    go : {c : Call} {r : Called} → Asked m marks ws site ts held c r → is_unfit m ws r.left.site r.left.threads ≡ false
    go (refused c n h u) = fit.state
    go (done k i g) = done-fit m marks ws site ts k (cycle_of (thread_at ts k).state) g
    go (granted k i g) = running-fit m marks ws site ts k g
    go (finished k i f) = finished-fit m marks ws site ts k held fit.state f
