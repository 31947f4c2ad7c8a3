-- Document 01, "Early issue": earliest. First by chains, then the form that computes it, which is proved to be that.
use Rattle.std.specs.Prelude.{ℕ, zero, suc, ◌<◌, ◌≡◌, cond, List, get_or}
use Rattle.base.specs.Index.{tabulate}
use Rattle.clock.specs.declared.Cycle.{Cycle}
use Rattle.clock.specs.declared.Bound.{Bound}
use Rattle.clock.specs.declared.Bound.TheVariants.{Never, At}
use Rattle.clock.specs.Advance.{is_bound_before, least, least_below, ◌⊕◌, one_delta}
use Rattle.clock.specs.Order.{◌≼◌}
use Rattle.model.specs.declared.Model.{Model}
use Rattle.model.specs.declared.State.{State}
use Rattle.model.specs.declared.Thread.{Thread}
use Rattle.model.specs.Record.{thread_at, is_live, live_cycle, Awaited, nothing, awaits, awaited_by}
use Rattle.model.specs.Footprint.{notifies_in}
use Rattle.tables.specs.Word.{distance_in}
use Rattle.early.specs.declared.Notification.{Notification}
use Rattle.early.specs.Log.{least_heard}

-- "the delta after a logged notification of its event not before its wait began"
unfoldable pub after_heard : List Notification → Awaited → Bound
after_heard l nothing = Never
after_heard l (awaits e since) = least_heard l e since ⊕ one_delta

-- where a chain begins: "at a ready thread or a logged notification"
unfoldable pub source_of : List Notification → State → Bound
source_of l s = least (live_cycle s) (after_heard l (awaited_by s))

-- thread k, live and no sooner than x, "plus the distance to a segment notifying the event"
unfoldable pub soonest_notify : Model → List ℕ → List Thread → ℕ → Bound → ℕ → Bound
soonest_notify m ws ts k x e =
    let t = thread_at ts k in
    cond (is_live t.state) (least_below m.n (λ s. cond (notifies_in m k s e) (x ⊕ distance_in m ws t.segment s) Never)) Never

-- Document 02, slip 5: a bound, or the cycle in which a wait began where that is later; never stays never
unfoldable pub raised : Cycle → Bound → Bound
raised since x = cond (is_bound_before x (At since)) (At since) x

-- "one delta after that thread's earliest plus the distance": from thread j, no sooner than x, to thread k; and slip 5: "A waiting thread
-- cannot wake before the delta after its wait began"
unfoldable pub after_notify : Model → List ℕ → List Thread → ℕ → Bound → Awaited → Bound
after_notify m ws ts j x nothing = Never
after_notify m ws ts j x (awaits e since) = raised since (soonest_notify m ws ts j x e) ⊕ one_delta

unfoldable pub link_to : Model → List ℕ → List Thread → ℕ → ℕ → Bound → Bound
link_to m ws ts j k x = after_notify m ws ts j x (awaited_by (thread_at ts k).state)

-- a chain that ends at thread k, and the cycle it gives
pub data Chain (m : Model) (ws : List ℕ) (l : List Notification) (ts : List Thread) : ℕ → Bound → Type 0 where
  source : {k : ℕ} → k < m.t → Chain m ws l ts k (source_of l (thread_at ts k).state)
  link : {j k : ℕ} {x : Bound} → k < m.t → Chain m ws l ts j x → Chain m ws l ts k (link_to m ws ts j k x)

-- "The least is over chains that begin at a ready thread or a logged notification; without a chain it is never."
pub record IsEarliest (m : Model) (ws : List ℕ) (l : List Notification) (ts : List Thread) (k : ℕ) (b : Bound) : Type 0 where
  pub below : {x : Bound} → Chain m ws l ts k x → b ≼ x
  pub attained : (b ≡ Never → ⊥) → Chain m ws l ts k b

-- the least over chains of at most so many links, a list over the threads
unfoldable pub sources : Model → List Notification → List Thread → List Bound
sources m l ts = tabulate m.t 0 (λ k. source_of l (thread_at ts k).state)

unfoldable pub relaxed : Model → List ℕ → List Thread → List Bound → List Bound
relaxed m ws ts xs =
    tabulate m.t 0 (λ k. least (get_or xs k Never) (least_below m.t (λ j. link_to m ws ts j k (get_or xs j Never))))

unfoldable pub with_links : Model → List ℕ → List Notification → List Thread → ℕ → List Bound
with_links m ws l ts zero = sources m l ts
with_links m ws l ts (suc n) = relaxed m ws ts (with_links m ws l ts n)

-- a least chain goes through no thread twice
unfoldable pub earliest_of : Model → List ℕ → List Notification → List Thread → List Bound
earliest_of m ws l ts = with_links m ws l ts m.t
