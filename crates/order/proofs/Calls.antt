-- From one state to the next by a call, and over a whole list of calls. A refused call changes nothing. A grant leaves the cut as it is (`Begun`). A combined
-- request runs its thread now (`Lists`), and so does a finish: the run that its grant stood on, on values that agree with the state's (`Issued`, `Finish`), with
-- places that were counted since then. Whoever else is running is kept (`Underway`).
-- Takes as given the facts of the plain run (PlainFacts) and the laws of the kit (KitLaws).
use Prim.Native.Nat.{ℕ, ◌*◌, ◌<◌, ◌≤◌}
use mathlib.Core.Path.{◌≡◌, refl, ap, sym, ◌∙◌, subst}
use mathlib.Core.Bool.{Bool, true, cond}
use mathlib.Core.List.{List, [], ◌∷◌, ◌++◌, append-nil}
use native.Mathlib.Omega.{arith}
use native.Mathlib.Decide.{ℕ_discrete}
use lib.Dec.{T, eqb}
use lib.ListN.{length, replicate, length-replicate}
use borrow.Author.Tests.{eq-eqb, ne_eqb}
use Rattle.base.proofs.BoolLaws.{true→T}
use Rattle.clock.specs.declared.Cycle.{Cycle}
use Rattle.model.specs.declared.Model.{Model}
use Rattle.model.specs.declared.Thread.{Thread}
use Rattle.model.specs.Limits.{is_up_to_horizon}
use Rattle.model.specs.Record.{thread_at, cycle_of, is_running}
use Rattle.model.specs.Footprint.{listed_in}
use Rattle.plain.specs.Wake.{floor_of}
use Rattle.plain.specs.History.{Item, ran}
use Rattle.early.specs.declared.Site.{Site}
use Rattle.early.specs.declared.Call.{Call}
use Rattle.early.specs.Log.{log_of, counted_log}
use Rattle.early.specs.Deliver.{settled_items}
use Rattle.early.specs.Grant.{log_after, closed_threads, threads_after, site_after, items_after}
use Rattle.early.specs.Request.{Requested, granted_to, fresh_site}
use Rattle.early.specs.Call.{held_count, with_held, Called, running_from, finished_from, call_of, calls_of}
use Rattle.early_laws.proofs.CountedLaws.{with_running-new}
use Rattle.early_laws.proofs.HeldLaws.{with_held-length, held_at-other}
use Rattle.early_laws.proofs.GrantLaws.{items_after-self, items_after-other}
use Rattle.early_laws.proofs.RequestLaws.{Grantable}
use Rattle.early_laws.proofs.CallLaws.{Asked, refused, done, granted, finished, call_of-asked}
use Rattle.order.specs.Claim.{FreshBelow}
use Rattle.order.proofs.Seen.{running-ready}
use Rattle.order.proofs.PlainFacts.{PlainFacts}
use Rattle.order.proofs.KitLaws.{KitLaws}
use Rattle.order.proofs.Capacity.{Room}
use Rattle.order.proofs.Reached.{Reached, reached-cut, reached-room, reached-short}
use Rattle.order.proofs.Stepped.{ran-reached}
use Rattle.order.proofs.Lists.{fresh-unbegun, fresh-reached, granted-reached}
use Rattle.order.proofs.CallLists.{calls_of-carries}
use Rattle.order.proofs.Issued.{issued-run, issued-safe, issued-agree}
use Rattle.order.proofs.Finish.{finished-same}
use Rattle.order.proofs.Begun.{begun-self, begun-other, begun-reached, begun-issued}
use Rattle.order.proofs.Underway.{pending, pending-none, pending-ran, Underway, stepped-history, stepped-issued}

module _ (m : Model) (pf : PlainFacts m) {marks : List (List Bool)} {ws : List ℕ} (kl : KitLaws m marks ws) where
  -- in fresh records nothing is running
  pub fresh-underway : (ts : List Thread) → FreshBelow m ts → (held : List ℕ) → held_count * m.t ≤ length held → Underway m fresh_site ts held (λ j. [])
  fresh-underway ts fresh held enough =
      record {
        ended = λ j. [];
        reached = fresh-reached m pf kl ts fresh;
        history = λ k below. sym (pending-none (thread_at ts k) (fresh-unbegun m pf kl ts fresh k below));
        enough = enough;
        issued = λ k below runs. absurd (subst T (sym runs ∙ fresh-unbegun m pf kl ts fresh k below) tt);
      }

  module _ (site : Site) (ts : List Thread) (held : List ℕ) (h : ℕ → List Item) (u : Underway m site ts held h) where
    abbrev r : Reached m site ts u.ended
    r = u.reached

    -- a granted request of thread k
    both-underway : (k : ℕ) (c : Cycle) → Grantable m marks ws site ts k c → let a = granted_to m ws site ts k c in Underway m a.site a.threads held (λ j. h j ++ a.items j)
    unfolding granted_to site_after threads_after log_after closed_threads
    both-underway k c g =
        record {
          ended = λ j. u.ended j ++ items_after m ws site ts k c j;
          reached = after;
          history =
              stepped-history m ws site ts k c inside h u.ended (items_after m ws site ts k c) (λ j other. items_after-other m site ts k c ws j other)
              (ap (λ (a : List Item). a ++ items_after m ws site ts k c k) (pending-none (thread_at ts k) g.unbegun)) u.history;
          enough = u.enough;
          issued = stepped-issued m pf kl site ts k c u.ended held held r after g.thread (λ j other. refl) u.issued;
        }
      where
        inside : k < length ts
        inside = omega (arith, g.thread, r.is_cut.size)

        after : Reached m (site_after m ws site ts k c) (threads_after m ws site ts k c) (λ j. u.ended j ++ items_after m ws site ts k c j)
        after = granted-reached m pf kl site ts u.ended r k c g

    -- a grant of thread k
    begun-underway : (k : ℕ) (c : Cycle) → Grantable m marks ws site ts k c
        → let a = running_from site ts k in Underway m a.site a.threads (with_held held k site.variables.at) (λ j. h j ++ a.items j)
    unfolding running_from
    begun-underway k c g =
        record {
          ended = u.ended;
          reached = begun-reached m pf kl site ts u.ended r k c g;
          history = λ j below. rw (u.history j below) (more j (ℕ_discrete j k));
          enough = rw (with_held-length held k site.variables.at) u.enough;
          issued = begun-issued m pf kl site ts u.ended r k c g held u.enough u.issued;
        }
      where
        us : List Thread
        us = (running_from site ts k).threads

        item : List Item
        item = ran (thread_at ts k).segment (cycle_of (thread_at ts k).state) ∷ []

        more : (j : ℕ) → Dec (j ≡ k) → (u.ended j ++ pending (thread_at ts j)) ++ cond (eqb j k) item [] ≡ u.ended j ++ pending (thread_at us j)
        more j (yes e) =
            rw (eq-eqb j k e, e, pending-none (thread_at ts k) g.unbegun, append-nil (u.ended k), ap pending (begun-self m pf kl site ts u.ended r k c g)) refl
        more j (no other) =
            rw (ne_eqb j k other, ap pending (begun-other m pf kl site ts u.ended r k c g j other)) (append-nil (u.ended j ++ pending (thread_at ts j)))

    -- a finish of thread k, which is running: its places are counted
    module _ (k : ℕ) (below : k < m.t) (runs : is_running (thread_at ts k).state ≡ true) where
      abbrev now : Cycle
      now = cycle_of (thread_at ts k).state

      counted-room : Room (floor_of m ts) (counted_log m ts (log_of site)) now (listed_in m k (thread_at ts k).segment)
      counted-room =
          record {
            log = counted_log m ts (log_of site);
            kept = λ y i. i;
            listed = λ e t. with_running-new m ts (log_of site) m.t k e below runs t;
            roomy = reached-room r;
            short = reached-short r;
          }

      soon : T (is_up_to_horizon m now)
      soon = true→T (is_up_to_horizon m now) (r.soon k below runs)

      finished-reached : Reached m (site_after m ws site ts k now) (threads_after m ws site ts k now) (λ j. u.ended j ++ items_after m ws site ts k now j)
      finished-reached =
          let i = u.issued k below runs in
          ran-reached m pf kl site ts u.ended r.cut (reached-cut r) k now below (running-ready (thread_at ts k).state runs)
          (issued-run m pf kl (reached-cut r) k below runs soon i) (issued-safe m pf kl (reached-cut r) k below runs soon i) r.soon counted-room

      finished-underway : let a = finished_from m ws site ts held k in Underway m a.site a.threads (with_held held k (replicate held_count 0)) (λ j. h j ++ a.items j)
      finished-underway =
          let told = settled_items m ws (log_after m site ts k now) (closed_threads m site ts k now) in
          subst (λ (a : Requested). Underway m a.site a.threads (with_held held k (replicate held_count 0)) (λ j. h j ++ a.items j))
          (sym (finished-same m kl.footprints ws site ts held k (issued-agree m pf kl (reached-cut r) k below runs soon (u.issued k below runs))))
          (record {
            ended = λ j. u.ended j ++ items_after m ws site ts k now j;
            reached = finished-reached;
            history =
                stepped-history m ws site ts k now (omega (arith, r.is_cut.size)) h u.ended told (λ j other. refl)
                (ap (λ (a : List Item). a ++ told k) (pending-ran (thread_at ts k) runs) ∙ sym (items_after-self m site ts k now ws)) u.history;
            enough = rw (with_held-length held k (replicate held_count 0)) u.enough;
            issued =
                stepped-issued m pf kl site ts k now u.ended held (with_held held k (replicate held_count 0)) r finished-reached below
                (λ j other. held_at-other held k j (replicate held_count 0) (length-replicate {A = ℕ} held_count 0) other) u.issued;
          })

    pub call-underway : (call : Call) → let a = call_of m marks ws site ts held call in Underway m a.left.site a.left.threads a.held (λ j. h j ++ a.left.items j)
    call-underway call = go (call_of-asked m marks ws site ts held call)
      where
        go : {call : Call} {a : Called} → Asked m marks ws site ts held call a → Underway m a.left.site a.left.threads a.held (λ j. h j ++ a.left.items j)
        go (refused call n other v) =
            record { ended = u.ended; reached = r; history = λ k below. append-nil (h k) ∙ u.history k below; enough = u.enough; issued = u.issued }
        go (done k f g) = both-underway k (cycle_of (thread_at ts k).state) g
        go (granted k f g) = begun-underway k (cycle_of (thread_at ts k).state) g
        go (finished k f g) = finished-underway k g.thread g.running

  -- and so does a list of calls
  pub calls-underway : (cs : List Call) (site : Site) (ts : List Thread) (held : List ℕ) (h : ℕ → List Item) → Underway m site ts held h
      → let a = calls_of m marks ws site ts held cs in Underway m a.listed.site a.listed.threads a.held (λ j. h j ++ a.listed.history j)
  calls-underway cs site ts held h u = calls_of-carries m marks ws (Underway m) (λ s us vs g call q. call-underway s us vs g q call) cs site ts held h u
