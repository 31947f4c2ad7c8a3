-- Every list of requests leaves a state in which nobody has anything to hear, and the forecast of an event is no sooner than any hearing of it
-- so far. A refused request changes nothing; after a granted one by the run, the deliveries and the drop.
-- Takes as given the facts of the plain run (PlainFacts) and the laws of the kit (KitLaws).
use Prim.Native.Nat.{ℕ, ◌<◌}
use mathlib.Core.Path.{◌≡◌, sym, subst, fun_ext}
use mathlib.Core.Logic.{◌⊎◌, inl, inr}
use mathlib.Core.Bool.{Bool, cond}
use mathlib.Core.List.Memᴰ
use mathlib.Core.List.{List, [], ◌∷◌, ◌++◌, append-nil, append_assoc, Memᴰ}
use native.Mathlib.Omega.{arith}
use lib.Dec.{eqb}
use Rattle.base.proofs.BoolLaws.{cond-case}
use Rattle.clock.specs.declared.Cycle.{Cycle}
use Rattle.clock.specs.declared.Bound.TheVariants.{Never}
use Rattle.clock.specs.Order.{◌⊑◌}
use Rattle.model.specs.declared.Model.{Model}
use Rattle.model.specs.declared.Thread.{Thread}
use Rattle.model.specs.Record as view
use Rattle.model.specs.Record.{thread_at, view_of}
use Rattle.plain.specs.Start.{fresh_variables}
use Rattle.plain.specs.Wake.{floor_of}
use Rattle.plain.specs.History.{Item, ran, heard}
use Rattle.early.specs.declared.Notification.{Notification}
use Rattle.early.specs.declared.Site.{Site}
use Rattle.early.specs.Log.{pair_of, log_of, drop_before}
use Rattle.early.specs.Deliver.{settled_items}
use Rattle.early.specs.Grant.{log_after, closed_threads, threads_after, site_after, items_after}
use Rattle.early.specs.Request.{Requested, granted_to, request_of, fresh_site}
use Rattle.early_laws.proofs.LogLaws.{log_of-site_of, least_heard-at, drop_before-only}
use Rattle.early_laws.proofs.LookLaws.{heard_at, heard_now-at, heard_at-waits, Looked, unheard, hears, looked}
use Rattle.early_laws.proofs.RestLaws.{Rest}
use Rattle.early_laws.proofs.RisingLaws.{unheard-rising, rest-same}
use Rattle.early_laws.proofs.GrantLaws.{site_after-log, threads_after-rest}
use Rattle.early_laws.proofs.RequestLaws.{Grantable, Asked, refused, granted, request_of-asked, requests_of-carries}
use Rattle.order.specs.Claim.{FreshBelow, after_list_with}
use Rattle.order.proofs.Seen.{Unbegun}
use Rattle.order.proofs.PlainFacts.{PlainFacts}
use Rattle.order.proofs.KitLaws.{KitLaws}
use Rattle.order.proofs.Invariant.{adding}
use Rattle.order.proofs.CutLaws.{cut-segment}
use Rattle.order.proofs.Drop.{drop_before-keeps, rest-quiet}
use Rattle.order.proofs.Reached.{Reached, reached-cut}
use Rattle.order.proofs.Stepped.{ran-cut}
use Rattle.order.proofs.Lists.{fresh-unbegun, fresh-reached, granted-ready, granted-run, granted-safe, request-reached, request-unbegun}
use Rattle.order.proofs.SamePlaces.{run_count-append}
use Rattle.order.proofs.Rising.{InTime, in_time-down, ran-rising}
use Rattle.order.proofs.Foretold.{Foretold, made→said, foretold-rising, foretold-more, foretold-settled}

-- a reached state in which nothing is running, nobody has anything to hear, and no forecast is sooner than what was heard
pub record Resting (m : Model) (ws : List ℕ) (site : Site) (ts : List Thread) (h : ℕ → List Item) : Type 0 where
  pub reached : Reached m site ts h
  pub unbegun : Unbegun m ts
  pub rest : Rest m ws (log_of site) ts
  pub foretold : Foretold m ws (log_of site) ts h

fresh-empty : (y : Notification) → Memᴰ y (log_of fresh_site) → ⊥
unfolding fresh_site
fresh-empty y i = Memᴰ.not-nil (subst (λ (l : List Notification). Memᴰ y l) (log_of-site_of fresh_variables []) i)

module _ (m : Model) (pf : PlainFacts m) {marks : List (List Bool)} {ws : List ℕ} (kl : KitLaws m marks ws) where
  -- of an empty log nothing is heard
  fresh-resting : (ts : List Thread) → FreshBelow m ts → Resting m ws fresh_site ts (λ j. [])
  fresh-resting ts fresh =
      record {
        reached = fresh-reached m pf kl ts fresh;
        unbegun = fresh-unbegun m pf kl ts fresh;
        rest = λ k below. silent k (looked m ws (log_of fresh_site) ts k);
        foretold = record { said = λ k e c below i. absurd (Memᴰ.not-nil i); no_sooner = λ k e c below i. absurd (Memᴰ.not-nil i) };
      }
    where
      silent : (k : ℕ) → Looked m ws (log_of fresh_site) ts k → heard_at m ws (log_of fresh_site) ts k ≡ Never
      silent k (unheard p) = p
      silent k (hears x p) =
          let (e, since, w, now) = heard_at-waits m ws (log_of fresh_site) ts k x p in
          absurd (fresh-empty (pair_of e x) (least_heard-at (log_of fresh_site) e since x (heard_now-at m ws (log_of fresh_site) ts e since x now).0).0)

  -- After a grant. The run hears nothing and lowers no forecast; each delivery is no later than its forecast; the drop takes nothing that
  -- could be heard.
  module _ (site : Site) (ts : List Thread) (h : ℕ → List Item) (s : Resting m ws site ts h) (k : ℕ) (c : Cycle) (g : Grantable m marks ws site ts k c) where
    abbrev new : List Notification
    new = log_after m site ts k c

    abbrev us : List Thread
    us = closed_threads m site ts k c

    abbrev vs : List Thread
    vs = threads_after m ws site ts k c

    abbrev items : List Item
    items = ran (thread_at ts k).segment c ∷ []

    ran-foretold : Foretold m ws new us (adding h k items)
    unfolding adding
    ran-foretold =
        foretold-rising m pf ws
        (ran-rising m kl.distances site ts k c g.thread (omega (arith, g.thread, s.reached.is_cut.size))
        (rw (cut-segment s.reached.is_cut k g.thread) (pf.segment_below (s.reached.cut k) k g.thread))
        (granted-ready m pf kl site ts h s.reached k c g))
        (foretold-more m pf ws (λ j. omega (arith, run_count-append (h j) (cond (eqb j k) items []))) (λ j e d i. old j e d (Memᴰ.append_cases (h j) i)) s.foretold)
      where
        old : (j e : ℕ) (d : Cycle) → Memᴰ (heard e d) (h j) ⊎ Memᴰ (heard e d) (cond (eqb j k) items []) → Memᴰ (heard e d) (h j)
        old j e d (inl i) = i
        old j e d (inr i) =
            cond-case (λ (is : List Item). Memᴰ (heard e d) is → Memᴰ (heard e d) (h j)) (eqb j k)
            (λ t i. let p = Memᴰ.eq_of_singleton i in let z : ◌≡◌ {A = ℕ} 0 1 = cc in absurd (omega arith)) (λ t i. absurd (Memᴰ.not-nil i)) i

    delivered-foretold : Foretold m ws new vs (λ j. h j ++ items_after m ws site ts k c j)
    unfolding threads_after items_after adding
    delivered-foretold =
        let r = s.reached in
        let ic = (ran-cut m pf kl site ts h r.cut (reached-cut r) k c g.thread (granted-ready m pf kl site ts h r k c g) (granted-run m pf kl site ts h r k c g) (granted-safe m pf kl site ts h r k c g)).1 in
        subst (Foretold m ws new vs) (fun_ext (λ j. append_assoc (h j) (cond (eqb j k) items []) (settled_items m ws new us j)))
        (foretold-settled m pf ws new (adding h k items) (λ y i. made→said m pf ic y (ic.notified y i)) us ran-foretold)

    -- what the drop takes could not be heard
    dropped-heard : (j e : ℕ) (since d : Cycle) → j < m.t → view_of (thread_at vs j).state ≡ view.waits e since → Memᴰ (pair_of e d) new → since ⊑ d
        → Memᴰ (pair_of e d) (drop_before (floor_of m vs) new)
    dropped-heard j e since d below w i begun =
        drop_before-keeps (floor_of m vs) new i
        (rest-quiet m kl new vs (threads_after-rest m site ts k c ws) j (pair_of e d) (record { below = below; since = since; waits = w; logged = i; begun = begun }))

    granted-rest : Rest m ws (log_of (site_after m ws site ts k c)) vs
    granted-rest =
        rw (site_after-log m site ts k c ws)
        (rest-same m ws new (drop_before (floor_of m vs) new) vs dropped-heard (λ y i. (drop_before-only (floor_of m vs) new i).0) (threads_after-rest m site ts k c ws))

    granted-foretold : Foretold m ws (log_of (site_after m ws site ts k c)) vs (λ j. h j ++ items_after m ws site ts k c j)
    granted-foretold =
        rw (site_after-log m site ts k c ws)
        (foretold-rising m pf ws
        (unheard-rising (InTime m) m ws (in_time-down m) new (drop_before (floor_of m vs) new) vs (λ j e since d b w i r. (drop_before-only (floor_of m vs) new i).0))
        delivered-foretold)

  request-resting : (site : Site) (ts : List Thread) (h : ℕ → List Item) → Resting m ws site ts h → (k : ℕ)
      → let a = request_of m marks ws site ts k in Resting m ws a.site a.threads (λ j. h j ++ a.items j)
  unfolding granted_to site_after threads_after log_after closed_threads
  request-resting site ts h s k =
      record { reached = request-reached m pf kl site ts h s.reached k; unbegun = request-unbegun m pf kl site ts h s.reached s.unbegun k; rest = (go (request_of m marks ws site ts k) asked).0; foretold = (go (request_of m marks ws site ts k) asked).1 }
    where
      asked : Asked m marks ws site ts k (request_of m marks ws site ts k)
      asked = request_of-asked m marks ws site ts k

      go : (a : Requested) → Asked m marks ws site ts k a → Rest m ws (log_of a.site) a.threads × Foretold m ws (log_of a.site) a.threads (λ j. h j ++ a.items j)
      go a (refused n u f) = (s.rest, subst (Foretold m ws (log_of site) ts) (fun_ext (λ j. sym (append-nil (h j)))) s.foretold)
      go a (granted c g) = (granted-rest site ts h s k c g, granted-foretold site ts h s k c g)

  -- every list leaves such a state
  pub after-resting : {ts : List Thread} → FreshBelow m ts → (ks : List ℕ) → let a = after_list_with m marks ws ts ks in Resting m ws a.site a.threads a.history
  after-resting {ts} fresh ks =
      requests_of-carries m marks ws (Resting m ws) (λ s us g k q. request-resting s us g q k) ks fresh_site ts (λ j. []) (fresh-resting ts fresh)
