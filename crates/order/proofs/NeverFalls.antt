-- Over a list of requests no bound falls, up to the horizon: a thread's earliest, its earliest plus the distance to a segment, and the forecast
-- of an event, after a list and after one that goes on from it.
-- Takes as given the facts of the plain run (PlainFacts) and the laws of the kit (KitLaws).
use Prim.Native.Nat.{ℕ, ◌<◌}
use mathlib.Core.Path.{sym, subst₂}
use mathlib.Core.Bool.{Bool}
use mathlib.Core.List.{List, ◌++◌}
use native.Mathlib.Omega.{arith}
use lib.Dec.{T}
use Rattle.clock.specs.declared.Cycle.{Cycle}
use Rattle.clock.specs.declared.Bound.TheVariants.{At}
use Rattle.clock.specs.Order.{◌≼◌}
use Rattle.model.specs.declared.Model.{Model}
use Rattle.model.specs.declared.Thread.{Thread}
use Rattle.model.specs.Limits.{is_up_to_horizon}
use Rattle.model.specs.Record.{thread_at, is_live}
use Rattle.plain.specs.History.{Item}
use Rattle.early.specs.declared.Site.{Site}
use Rattle.early.specs.Log.{log_of}
use Rattle.early.specs.Forecast.{forecast_of}
use Rattle.early.specs.Grant.{log_after, closed_threads, threads_after, site_after}
use Rattle.early.specs.Request.{Requested, granted_to, request_of, fresh_site, Listed, requests_of}
use Rattle.early_laws.proofs.EarliestLaws.{earliest_at}
use Rattle.early_laws.proofs.RiseLaws.{bound-live}
use Rattle.early_laws.proofs.RisingLaws.{Rising, rising-same, rising-trans, rising-forecast}
use Rattle.early_laws.proofs.RequestLaws.{Asked, refused, granted, request_of-asked, requests_of-carries, requests_of-append, requests_of-append-site}
use Rattle.order.specs.Claim.{FreshBelow, after_list_with}
use Rattle.order.proofs.PlainFacts.{PlainFacts}
use Rattle.order.proofs.KitLaws.{bound_in, KitLaws}
use Rattle.order.proofs.CutLaws.{cut-segment}
use Rattle.order.proofs.Reached.{Reached}
use Rattle.order.proofs.Lists.{granted-ready, request-reached}
use Rattle.order.proofs.Theorem.{after-reached}
use Rattle.order.proofs.Rising.{InTime, grant-rising}

module _ (m : Model) (pf : PlainFacts m) {marks : List (List Bool)} {ws : List ℕ} (kl : KitLaws m marks ws) where
  pub request-rising : (site : Site) (ts : List Thread) (h : ℕ → List Item) → Reached m site ts h → (k : ℕ)
      → let a = request_of m marks ws site ts k in Rising (InTime m) m ws (log_of site) ts ws (log_of a.site) a.threads
  unfolding granted_to site_after threads_after log_after closed_threads
  request-rising site ts h r k = go (request_of m marks ws site ts k) (request_of-asked m marks ws site ts k)
    where
      go : (a : Requested) → Asked m marks ws site ts k a → Rising (InTime m) m ws (log_of site) ts ws (log_of a.site) a.threads
      go a (refused n u f) = rising-same (InTime m) m ws (log_of site) ts
      go a (granted c g) =
          grant-rising m kl.distances site ts k c g.thread (omega (arith, g.thread, r.is_cut.size))
          (rw (cut-segment r.is_cut k g.thread) (pf.segment_below (r.cut k) k g.thread))
          (granted-ready m pf kl site ts h r k c g)

  -- a list of requests
  pub list-rising : (ks : List ℕ) (site : Site) (ts : List Thread) (h : ℕ → List Item) → Reached m site ts h
      → let a = requests_of m marks ws site ts ks in Rising (InTime m) m ws (log_of site) ts ws (log_of a.site) a.threads
  list-rising ks site ts h r =
      (requests_of-carries m marks ws (λ s us g. Reached m s us g × Rising (InTime m) m ws (log_of site) ts ws (log_of s) us)
      (λ s us g k (q, rise). (request-reached m pf kl s us g q k, rising-trans (InTime m) m ws rise (request-rising s us g q k)))
      ks site ts h (r, rising-same (InTime m) m ws (log_of site) ts)).1

  module _ {ts : List Thread} (fresh : FreshBelow m ts) (ks js : List ℕ) where
    abbrev first : Listed
    first = after_list_with m marks ws ts ks

    abbrev then : Listed
    then = after_list_with m marks ws ts (ks ++ js)

    -- from the state after a list to that after one that goes on from it
    pub after-rising : Rising (InTime m) m ws (log_of first.site) first.threads ws (log_of then.site) then.threads
    after-rising =
        subst₂ (λ (s : Site) (us : List Thread). Rising (InTime m) m ws (log_of first.site) first.threads ws (log_of s) us)
        (sym (requests_of-append-site m marks ws ks js fresh_site ts)) (sym (requests_of-append m marks ws ks js fresh_site ts))
        (list-rising js first.site first.threads first.history (after-reached m pf kl fresh ks))

    pub earliest-never-falls : (k : ℕ) (x : Cycle) → k < m.t → T (is_up_to_horizon m x)
        → earliest_at m ws (log_of then.site) then.threads k ≼ At x → earliest_at m ws (log_of first.site) first.threads k ≼ At x
    earliest-never-falls k x below early p = after-rising.earliest k below x early p

    -- a live thread's bound at a segment; it was live before
    pub bound-never-falls : (j s : ℕ) (x : Cycle) → j < m.t → s < m.n → T (is_live (thread_at then.threads j).state) → T (is_up_to_horizon m x)
        → bound_in m ws then.threads (earliest_at m ws (log_of then.site) then.threads) j s ≼ At x
        → T (is_live (thread_at first.threads j).state) × (bound_in m ws first.threads (earliest_at m ws (log_of first.site) first.threads) j s ≼ At x)
    bound-never-falls j s x below sn live early p =
        let q = after-rising.bound j s below sn live x early p in
        (bound-live m ws (log_of first.site) first.threads j s x below q, q)

    pub forecast-never-falls : (e : ℕ) (x : Cycle) → T (is_up_to_horizon m x)
        → forecast_of m ws (log_of then.site) then.threads e ≼ At x → forecast_of m ws (log_of first.site) first.threads e ≼ At x
    forecast-never-falls e x early p = rising-forecast (InTime m) m after-rising e x early p
