-- A hazard that does not stand does not come back (slip 5). A thread that is ready up to the horizon and is not granted stays ready as it is; and
-- whoever could come before it later, could before, since no bound falls. So its request is never refused with 14 again: it is granted, or
-- the log is full (15).
-- Takes as given the facts of the plain run (PlainFacts) and the laws of the kit (KitLaws).
use Prim.Native.Nat.{ℕ}
use mathlib.Core.Path.{◌≡◌, refl, ap, sym, ◌∙◌, subst}
use mathlib.Core.Bool.{Bool, false}
use mathlib.Core.List.{List, [], ◌∷◌, ◌++◌, Memᴰ}
use native.Mathlib.Omega.{arith}
use native.Mathlib.Decide.{ℕ_discrete}
use lib.Dec.{T}
use Rattle.base.proofs.BoolLaws.{true→T}
use Rattle.clock.specs.declared.Cycle.{Cycle}
use Rattle.model.specs.declared.Model.{Model}
use Rattle.model.specs.declared.Thread.{Thread}
use Rattle.model.specs.Limits.{is_up_to_horizon}
use Rattle.model.specs.Record as view
use Rattle.model.specs.Record.{thread_at, is_running, awaited_of, ready_cycle_of, view_of}
use Rattle.plain.specs.History.{heard}
use Rattle.plain_laws.proofs.RecordLaws.{ready_cycle→ready}
use Rattle.early.specs.declared.Notification.{Notification}
use Rattle.early.specs.declared.Site.{Site}
use Rattle.early.specs.Answer.{number_of}
use Rattle.early.specs.Log.{log_of}
use Rattle.early.specs.Hazard.{hazard}
use Rattle.early.specs.Deliver.{look_items, settled_items}
use Rattle.early.specs.Grant.{log_after, closed_threads, threads_after}
use Rattle.early.specs.Request.{Requested, granted_to, request_of, fresh_site, Listed, listed_by, requests_of}
use Rattle.early_laws.proofs.LookLaws.{heard_at-waits, Looked, unheard, hears, looked, look_items-other, look_items-none, look_items-heard}
use Rattle.early_laws.proofs.SettleLaws.{settled-carries}
use Rattle.early_laws.proofs.NumberLaws.{ZeroOrFull}
use Rattle.early_laws.proofs.GrantLaws.{threads_after-kept, items_after-self, items_after-other}
use Rattle.early_laws.proofs.RisingLaws.{hazard-none}
use Rattle.early_laws.proofs.RequestLaws.{Asked, refused, granted, request_of-asked, Unhindered, unhindered→number, number→unhindered, requests_of-append, requests_of-append-history}
use Rattle.order.specs.Claim.{FreshBelow, after_list_with, request_next}
use Rattle.order.specs.Steady.{ran_items, run_count}
use Rattle.order.proofs.PlainFacts.{PlainFacts}
use Rattle.order.proofs.KitLaws.{KitLaws}
use Rattle.order.proofs.SamePlaces.{run_count-append}
use Rattle.order.proofs.Theorem.{after-fit}
use Rattle.order.proofs.Rising.{InTime, in_time-down}
use Rattle.order.proofs.NeverFalls.{after-rising}

-- a thread that is ready and is not granted in a list keeps its record
module _ (m : Model) (marks : List (List Bool)) (ws : List ℕ) (i : ℕ) where
  granted-runs : (site : Site) (ts : List Thread) (d : Cycle) → run_count ((granted_to m ws site ts i d).items i) ≡ 0 → ⊥
  unfolding granted_to ran_items
  granted-runs site ts d e = let f = ap run_count (items_after-self m site ts i d ws) in omega arith

  request-kept : (c : Cycle) (k : ℕ) (site : Site) (ts : List Thread) → view_of (thread_at ts i).state ≡ view.ready c → run_count ((request_of m marks ws site ts k).items i) ≡ 0
      → thread_at (request_of m marks ws site ts k).threads i ≡ thread_at ts i
  unfolding granted_to threads_after log_after closed_threads
  request-kept c k site ts ready = go (request_of m marks ws site ts k) (request_of-asked m marks ws site ts k) (ℕ_discrete i k)
    where
      go : (a : Requested) → Asked m marks ws site ts k a → Dec (i ≡ k) → run_count (a.items i) ≡ 0 → thread_at a.threads i ≡ thread_at ts i
      go a (refused n u f) same none = refl
      go a (granted d g) (yes e) none = absurd (granted-runs site ts d (subst (λ (j : ℕ). run_count ((granted_to m ws site ts j d).items i) ≡ 0) (sym e) none))
      go a (granted d g) (no other) none = threads_after-kept m site ts k d ws i other (ap awaited_of ready)

  pub list-kept : (c : Cycle) (ks : List ℕ) (site : Site) (ts : List Thread) → view_of (thread_at ts i).state ≡ view.ready c → run_count ((requests_of m marks ws site ts ks).history i) ≡ 0
      → thread_at (requests_of m marks ws site ts ks).threads i ≡ thread_at ts i
  unfolding listed_by
  list-kept c [] site ts ready none = refl
  list-kept c (k ∷ ks) site ts ready none =
      let a = request_of m marks ws site ts k in
      let sum = run_count-append (a.items i) ((requests_of m marks ws a.site a.threads ks).history i) in
      let same = request-kept c k site ts ready (omega arith) in
      list-kept c ks a.site a.threads (ap (λ (t : Thread). view_of t.state) same ∙ ready) (omega arith) ∙ same

  -- a thread that is not asked for in a list does not run in it: deliveries add what is heard alone
  delivered-none : (l : List Notification) (ts : List Thread) → run_count (settled_items m ws l ts i) ≡ 0
  unfolding ran_items
  delivered-none l ts =
      settled-carries m ws l (λ us is. run_count (is i) ≡ 0) (λ us is k below e. omega (arith, e, run_count-append (is i) (look_items m ws l us k i), look us k)) ts refl
    where
      look : (us : List Thread) (k : ℕ) → run_count (look_items m ws l us k i) ≡ 0
      look us k = go (looked m ws l us k) (ℕ_discrete i k)
        where
          go : Looked m ws l us k → Dec (i ≡ k) → run_count (look_items m ws l us k i) ≡ 0
          go (unheard p) d = ap run_count (look_items-none m ws l us k i p)
          go (hears x p) (no other) = ap run_count (look_items-other m ws l us k i other)
          go (hears x p) (yes same) =
              let (e, since, w, q) = heard_at-waits m ws l us k x p in
              ap run_count (subst (λ (j : ℕ). look_items m ws l us k j ≡ heard e x ∷ []) (sym same) (look_items-heard m ws l us k e since x w p))

  request-unasked : (k : ℕ) (site : Site) (ts : List Thread) → (i ≡ k → ⊥) → run_count ((request_of m marks ws site ts k).items i) ≡ 0
  unfolding granted_to ran_items
  request-unasked k site ts other = go (request_of m marks ws site ts k) (request_of-asked m marks ws site ts k)
    where
      go : (a : Requested) → Asked m marks ws site ts k a → run_count (a.items i) ≡ 0
      go a (refused n u f) = refl
      go a (granted d g) = ap run_count (items_after-other m site ts k d ws i other) ∙ delivered-none (log_after m site ts k d) (closed_threads m site ts k d)

  list-unasked : (ks : List ℕ) (site : Site) (ts : List Thread) → (Memᴰ i ks → ⊥) → run_count ((requests_of m marks ws site ts ks).history i) ≡ 0
  unfolding listed_by ran_items
  list-unasked [] site ts none = refl
  list-unasked (k ∷ ks) site ts none =
      let a = request_of m marks ws site ts k in
      let sum = run_count-append (a.items i) ((requests_of m marks ws a.site a.threads ks).history i) in
      let here = request-unasked k site ts (λ e. none (Memᴰ.head e)) in
      let later = list-unasked ks a.site a.threads (λ j. none (Memᴰ.tail j)) in
      omega arith

  pub unasked-still : (ts : List Thread) (ks js : List ℕ) → (Memᴰ i js → ⊥)
      → run_count ((after_list_with m marks ws ts (ks ++ js)).history i) ≡ run_count ((after_list_with m marks ws ts ks).history i)
  unasked-still ts ks js none =
      let a = after_list_with m marks ws ts ks in
      let history = ap run_count (requests_of-append-history m marks ws ks js fresh_site ts i) in
      let sum = run_count-append (a.history i) ((requests_of m marks ws a.site a.threads js).history i) in
      let later = list-unasked js a.site a.threads none in
      omega arith

-- after a list, and after one that goes on from it in which thread i has not run
module _ (m : Model) (pf : PlainFacts m) {marks : List (List Bool)} {ws : List ℕ} (kl : KitLaws m marks ws) {ts : List Thread} (fresh : FreshBelow m ts)
    (ks js : List ℕ) (i : ℕ) (still : run_count ((after_list_with m marks ws ts (ks ++ js)).history i) ≡ run_count ((after_list_with m marks ws ts ks).history i)) where
  abbrev first : Listed
  first = after_list_with m marks ws ts ks

  abbrev then : Listed
  then = after_list_with m marks ws ts (ks ++ js)

  pub ready-kept : (c : Cycle) → view_of (thread_at first.threads i).state ≡ view.ready c → thread_at then.threads i ≡ thread_at first.threads i
  ready-kept c ready =
      let more = requests_of m marks ws first.site first.threads js in
      let history = ap run_count (requests_of-append-history m marks ws ks js fresh_site ts i) in
      let sum = run_count-append (first.history i) (more.history i) in
      ap (λ (us : List Thread). thread_at us i) (requests_of-append m marks ws ks js fresh_site ts)
      ∙ list-kept m marks ws i c js first.site first.threads ready (omega arith)

  pub hazard-never-returns : (c : Cycle) → view_of (thread_at first.threads i).state ≡ view.ready c → T (is_up_to_horizon m c)
      → hazard m marks ws (log_of first.site) first.threads i c ≡ false → hazard m marks ws (log_of then.site) then.threads i c ≡ false
  hazard-never-returns c ready early free =
      hazard-none (InTime m) (in_time-down m) m marks ws (after-rising m pf kl fresh ks js) i c early
      (ap (λ (t : Thread). t.segment) (ready-kept c ready)) free

  -- granted or refused with 15, and again so where it has not run since
  pub asked_again : ZeroOrFull (number_of (request_next m marks ws ts ks i).answer) → ZeroOrFull (number_of (request_next m marks ws ts (ks ++ js) i).answer)
  asked_again e = go (number→unhindered m marks ws first.site first.threads i (after-fit m pf kl fresh ks) e)
    where
      go : (c : Cycle) × Unhindered m marks ws first.site first.threads i c → ZeroOrFull (number_of (request_next m marks ws ts (ks ++ js) i).answer)
      go (c, u) =
          let ready = ready_cycle→ready (view_of (thread_at first.threads i).state) c u.ready in
          unhindered→number m marks ws then.site then.threads i (after-fit m pf kl fresh (ks ++ js)) c
          (record {
            thread = u.thread;
            unbegun = ap (λ (t : Thread). is_running t.state) (ready-kept c ready) ∙ u.unbegun;
            ready = ap (λ (t : Thread). ready_cycle_of (view_of t.state)) (ready-kept c ready) ∙ u.ready;
            in-time = u.in-time;
            no_hazard = hazard-never-returns c ready (true→T (is_up_to_horizon m c) u.in-time) u.no_hazard;
          })
