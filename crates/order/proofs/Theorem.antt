-- Demand 3 proved: for a model whose plain run and kit keep their laws, every list of requests ends as the plain run does,
-- and never stands still before that. It is the instance of what holds of lists of calls (`CallTheorem`): a list of requests is such a
-- list, and leaves nothing running. Beside it: what holds after every list, ended or not.
-- Takes as given the facts of the plain run (PlainFacts) and the laws of the kit (KitLaws).
use Prim.Native.Nat.{ℕ, ◌*◌, ◌≤◌, ◌<◌}
use mathlib.Core.Path.{◌≡◌, ap, sym, ◌∙◌, subst}
use mathlib.Core.Logic.{◌⊎◌, inl, inr}
use mathlib.Core.Bool.{Bool, false}
use mathlib.Core.List.Memᴰ
use mathlib.Core.List.{List, [], ◌∷◌, ◌++◌, map, Memᴰ}
use native.Mathlib.Omega.{arith}
use lib.Dec.{T}
use lib.ListN.{length, replicate, length-replicate}
use Rattle.clock.specs.declared.Cycle.{Cycle}
use Rattle.model.specs.declared.Model.{Model}
use Rattle.model.specs.declared.Thread.{Thread}
use Rattle.model.specs.Refusal.{unfit}
use Rattle.model.specs.Limits.{is_up_to_horizon}
use Rattle.model.specs.Record.{thread_at}
use Rattle.plain.specs.Wake.{some_ready}
use Rattle.plain.specs.History.{Item, history_at}
use Rattle.early.specs.declared.Site.{Site}
use Rattle.early.specs.declared.Answer.{Answer}
use Rattle.early.specs.declared.Answer.TheVariants.{Refused}
use Rattle.early.specs.declared.Call.TheVariants.{Both}
use Rattle.early.specs.Log.{places, log_of}
use Rattle.early.specs.Fit.{is_unfit}
use Rattle.early.specs.Answer.{number_of}
use Rattle.early.specs.Request.{Requested, granted_to, request_of, fresh_site, Listed, listed_by, requests_of}
use Rattle.early.specs.Call.{held_count}
use Rattle.early_laws.proofs.LogLaws.{site_of-count}
use Rattle.early_laws.proofs.OnceLaws.{Once}
use Rattle.early_laws.proofs.RequestLaws.{request_of-refused, request_of-fit, requests_of-append}
use Rattle.order.specs.Claim.{FreshBelow, after_list_with, request_next, AgreesAt, Claim, after_calls_with}
use Rattle.order.specs.Steady.{ran_items, run_count}
use Rattle.order.proofs.Seen.{Unbegun}
use Rattle.order.proofs.PlainFacts.{PlainFacts}
use Rattle.order.proofs.KitLaws.{Begins, KitLaws}
use Rattle.order.proofs.Reached.{Reached, reached-log, logged-short, reached-fit}
use Rattle.order.proofs.LeastReady.{LeastReady}
use Rattle.order.proofs.Progress.{least-granted, some-granted}
use Rattle.order.proofs.Lists.{fresh-unbegun, fresh-reached, request-reached, list-reached, list-unbegun}
use Rattle.order.proofs.CallLists.{requests-are-calls}
use Rattle.order.proofs.CallTheorem.{calls-agree}
use Rattle.order.proofs.SamePlaces.{reached-variables-same, reached-ran-same}
use Rattle.order.proofs.CarriedOn.{reached-begins, reached-carried}

module _ (m : Model) (pf : PlainFacts m) {marks : List (List Bool)} {ws : List ℕ} (kl : KitLaws m marks ws) {ts : List Thread} (fresh : FreshBelow m ts) where
  abbrev after : List ℕ → Listed
  after ks = after_list_with m marks ws ts ks

  -- every list of requests leaves a reached state
  pub after-reached : (ks : List ℕ) → Reached m (after ks).site (after ks).threads (after ks).history
  after-reached ks = list-reached m pf kl ks fresh_site ts (λ j. []) (fresh-reached m pf kl ts fresh)

  -- in which nothing is running
  pub after-unbegun : (ks : List ℕ) → Unbegun m (after ks).threads
  after-unbegun ks = list-unbegun m pf kl ks fresh_site ts (λ j. []) (fresh-reached m pf kl ts fresh) (fresh-unbegun m pf kl ts fresh)

  -- where no thread is ready up to the horizon, all is as in the plain run carried on until it is done
  pub agrees-at-end : (ks : List ℕ) → some_ready m (after ks).threads ≡ false → AgreesAt m (after ks) pf.ending.place
  agrees-at-end ks over =
      subst (λ (a : Listed). AgreesAt m a pf.ending.place) same
      (calls-agree m pf kl fresh held enough (map Both ks) (ap (λ (a : Listed). some_ready m a.threads) same ∙ over))
    where
      held : List ℕ
      held = replicate (held_count * m.t) 0

      enough : held_count * m.t ≤ length held
      enough = let e = length-replicate {A = ℕ} (held_count * m.t) 0 in omega arith

      same : (after_calls_with m marks ws ts held (map Both ks)).listed ≡ after ks
      same = requests-are-calls m marks ws ks fresh_site ts held enough

  -- the least ready stamp up to the horizon is always granted
  pub least-granted-next : (ks : List ℕ) (i : ℕ) (c : Cycle) → LeastReady m (after ks).threads i c → T (is_up_to_horizon m c)
      → request_next m marks ws ts ks i ≡ granted_to m ws (after ks).site (after ks).threads i c
  least-granted-next ks i c lr early =
      least-granted m pf kl (after ks).site (after ks).threads (after ks).history (after-reached ks) i c lr (after-unbegun ks i lr.below) early

  -- demand 3 for one list
  pub claim : (ks : List ℕ) → Claim m marks ws ts ks
  unfolding granted_to
  claim ks =
      record {
        at_end = λ over. (pf.ending.place, pf.ending.done, agrees-at-end ks over);
        goes_on = λ ready.
            let (k, c, below, p) = some-granted m pf kl (after ks).site (after ks).threads (after ks).history (after-reached ks) (after-unbegun ks) ready in
            (k, (thread_at (after ks).threads k).segment, c, ap (λ (a : Requested). a.answer) p);
      }

  -- every thread's history after any list is a beginning of its plain-run history
  pub history-prefix : (ks : List ℕ) (k : ℕ) → k < m.t → Begins ((after ks).history k) (history_at m k pf.ending.place)
  history-prefix ks k below = reached-begins m pf (after-reached ks) k below

  -- any list can be carried on to an end
  pub carried_on : (ks : List ℕ) → (more : List ℕ) × (some_ready m (after (ks ++ more)).threads ≡ false)
  carried_on ks =
      let (more, p) = reached-carried m pf kl (after ks).site (after ks).threads (after ks).history (after-reached ks) (after-unbegun ks) in
      (more, ap (some_ready m) (requests_of-append m marks ws ks more fresh_site ts) ∙ p)

  -- no request answers 11: every reached state is fit
  pub after-fit : (ks : List ℕ) → is_unfit m ws (after ks).site (after ks).threads ≡ false
  after-fit ks = reached-fit m pf kl (after-reached ks)

  pub never-unfit : (ks : List ℕ) (k : ℕ) → (request_next m marks ws ts ks k).answer ≡ Refused unfit → ⊥
  never-unfit ks k e = request_of-fit m marks ws (after ks).site (after ks).threads k (after-fit ks) e

  -- nor does any request of a list
  answers-fit : (ks : List ℕ) (site : Site) (us : List Thread) (h : ℕ → List Item) → Reached m site us h
      → (a : Answer) → Memᴰ a (requests_of m marks ws site us ks).answers → a ≡ Refused unfit → ⊥
  unfolding listed_by
  answers-fit [] site us h r a i e = Memᴰ.not-nil i
  answers-fit (k ∷ ks) site us h r a i e = go (Memᴰ.cases_cons i) (λ j. answers-fit ks b.site b.threads (λ j. h j ++ b.items j) (request-reached m pf kl site us h r k) a j e)
    where
      b : Requested
      b = request_of m marks ws site us k

      go : (a ≡ b.answer) ⊎ Memᴰ a (requests_of m marks ws b.site b.threads ks).answers
          → (Memᴰ a (requests_of m marks ws b.site b.threads ks).answers → ⊥) → ⊥
      go (inl p) ih = request_of-fit m marks ws site us k (reached-fit m pf kl r) (sym p ∙ e)
      go (inr j) ih = ih j

  pub answers-never-unfit : (ks : List ℕ) (a : Answer) → Memᴰ a (after ks).answers → a ≡ Refused unfit → ⊥
  answers-never-unfit ks a i e = answers-fit ks fresh_site ts (λ j. []) (fresh-reached m pf kl ts fresh) a i e

  -- the log never holds more than 128 pairs, and no pair twice
  pub log-bounded : (ks : List ℕ) → length (log_of (after ks).site) ≤ places
  log-bounded ks = rw (reached-log (after-reached ks)) (omega (arith, logged-short m pf kl (after-reached ks).is_cut, (after-reached ks).short))

  pub log-once : (ks : List ℕ) → Once (log_of (after ks).site)
  log-once ks = rw (reached-log (after-reached ks)) (after-reached ks).is_cut.once

  pub log-count : (ks : List ℕ) → (after ks).site.count ≤ places
  log-count ks =
      rw (ap (λ (s : Site). s.count) (after-reached ks).site_is ∙ site_of-count (after-reached ks).variables (after-reached ks).log)
      (omega (arith, logged-short m pf kl (after-reached ks).is_cut, (after-reached ks).short))

-- two lists, each with tables and records of its own, after which every thread has run equally often
module _ (m : Model) (pf : PlainFacts m) {marks marks' : List (List Bool)} {ws ws' : List ℕ} (kl : KitLaws m marks ws) (kl' : KitLaws m marks' ws')
    {ts ts' : List Thread} (fresh : FreshBelow m ts) (fresh' : FreshBelow m ts') (ks js : List ℕ)
    (same : (k : ℕ) → k < m.t → run_count ((after_list_with m marks ws ts ks).history k) ≡ run_count ((after_list_with m marks' ws' ts' js).history k)) where
  -- leave the same variables
  pub same-variables : (after_list_with m marks ws ts ks).site.variables.at ≡ (after_list_with m marks' ws' ts' js).site.variables.at
  same-variables = reached-variables-same m pf kl (after-reached m pf kl fresh ks) (after-reached m pf kl' fresh' js) same

  -- and have run the same
  pub same_runs : (k : ℕ) → k < m.t
      → ran_items ((after_list_with m marks ws ts ks).history k) ≡ ran_items ((after_list_with m marks' ws' ts' js).history k)
  same_runs = reached-ran-same m pf kl (after-reached m pf kl fresh ks) (after-reached m pf kl' fresh' js) same

-- a refused request changes nothing, whatever the model and its tables
pub refused-same : (m : Model) (marks : List (List Bool)) (ws : List ℕ) (ts : List Thread) (ks : List ℕ) (k : ℕ)
    → (number_of (request_next m marks ws ts ks k).answer ≡ 0 → ⊥)
    → ((request_next m marks ws ts ks k).site ≡ (after_list_with m marks ws ts ks).site)
    × ((request_next m marks ws ts ks k).threads ≡ (after_list_with m marks ws ts ks).threads)
    × ((j : ℕ) → (request_next m marks ws ts ks k).items j ≡ [])
refused-same m marks ws ts ks k other =
    request_of-refused m marks ws (after_list_with m marks ws ts ks).site (after_list_with m marks ws ts ks).threads k other
