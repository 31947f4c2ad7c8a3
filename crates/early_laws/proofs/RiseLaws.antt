-- Bounds that rise from one state to another, as far as some cycles go: a bound that is not after such a cycle was not after it before. Slip 5
-- makes earliest rise so; these laws say what is to be shown of two states for that, by the sources and the links of a chain.
--     Rises, rises-≼, rises-all, rises-trans, rises_by, rises-⊕, rises-above     the relation
--     heard-risen, earliest-risen     by what can be heard, and by chains
--     earliest-live, bound-live, forecast-bound     a bound that is a cycle
--     notify-risen, waiting-risen     by what a thread may notify, and so of a thread that waits
use Prim.Native.Nat.{ℕ, ◌<◌}
use mathlib.Core.Path.{◌≡◌, refl, sym, subst}
use mathlib.Core.Logic.{◌⊎◌, inl, inr}
use mathlib.Core.Bool.{not}
use mathlib.Core.List.{List}
use native.Mathlib.Omega.{arith}
use lib.Dec.{T}
use Rattle.base.proofs.BoolLaws.{T-case}
use Rattle.clock.specs.declared.Cycle.{Cycle}
use Rattle.clock.specs.declared.Bound.{Bound}
use Rattle.clock.specs.declared.Bound.TheVariants.{Never, At}
use Rattle.clock.specs.Advance.{least, ◌⊕◌, one_delta}
use Rattle.clock.specs.Order.{Before, ◌⊑◌, ◌≼◌}
use Rattle.clock.proofs.OrderLaws.{Before→⊑, ⊑_refl, ⊑-total, ≼_refl, ≼_trans}
use Rattle.clock.proofs.LeastLaws.{least-right}
use Rattle.clock.proofs.AdvanceLaws.{⊕-mono, ⊕-inflate, Never-⊕}
use Rattle.model.specs.declared.Model.{Model}
use Rattle.model.specs.declared.Thread.{Thread}
use Rattle.model.specs.Record as view
use Rattle.model.specs.Record.{thread_at, is_live, view_of}
use Rattle.model.specs.Footprint.{notifies_in}
use Rattle.tables.specs.Word.{distance_in}
use Rattle.early.specs.declared.Notification.{Notification}
use Rattle.early.specs.Log.{least_heard, pair_of}
use Rattle.early.specs.Earliest.{source_of, soonest_notify, raised, link_to, Chain, source, link}
use Rattle.early.specs.Forecast.{forecast_of}
use Rattle.early_laws.proofs.LogLaws.{In, least_heard-at}
use Rattle.early_laws.proofs.RaiseLaws.{raised-inflate, raised-mono}
use Rattle.early_laws.proofs.LinkLaws.{soonest_notify-one, link_to-waiting}
use Rattle.early_laws.proofs.EarliestLaws.{earliest_at, chain-below, earliest_of-is, earliest-≼, earliest-idle}
use Rattle.early_laws.proofs.ForecastLaws.{forecast_below, earliest-waiting}

-- b is no sooner than a, as far as the cycles in Up go
abbrev pub Rises : (Cycle → Type 0) → Bound → Bound → Type 0
Rises Up a b = (x : Cycle) → Up x → b ≼ At x → a ≼ At x

-- cycles such that any sooner one is among them
abbrev pub DownClosed : (Cycle → Type 0) → Type 0
DownClosed Up = (a b : Cycle) → a ⊑ b → Up b → Up a

-- as far as all cycles go
pub rises-all : (a b : Bound) → Rises (λ x. Unit {0}) a b → a ≼ b
rises-all a Never r = tt
rises-all a (At b) r = r b tt ⊑_refl

module _ (Up : Cycle → Type 0) where
  pub rises-≼ : (a b : Bound) → a ≼ b → Rises Up a b
  rises-≼ a b h x u p = ≼_trans a b (At x) h p

  pub rises-trans : (a b c : Bound) → Rises Up a b → Rises Up b c → Rises Up a c
  rises-trans a b c f g x u p = f x u (g x u p)

  -- what keeps the order of bounds and lowers none keeps that they rise
  pub rises_by : DownClosed Up → (f : Bound → Bound) → ((a b : Bound) → a ≼ b → f a ≼ f b) → ((b : Bound) → b ≼ f b) → (a b : Bound) → Rises Up a b → Rises Up (f a) (f b)
  rises_by down f mono inflate a Never r x u p = absurd (≼_trans Never (f Never) (At x) (inflate Never) p)
  rises_by down f mono inflate a (At b) r x u p =
      let sooner = ≼_trans (At b) (f (At b)) (At x) (inflate (At b)) p in
      ≼_trans (f a) (f (At b)) (At x) (mono a (At b) (r b (down b x sooner u) ⊑_refl)) p

  pub rises-⊕ : DownClosed Up → (d a b : Bound) → Rises Up a b → Rises Up (a ⊕ d) (b ⊕ d)
  rises-⊕ down d = rises_by down (λ (x : Bound). x ⊕ d) (λ a b h. ⊕-mono a b d d h (≼_refl d)) (λ b. ⊕-inflate b d)

  -- what is not before a cycle stays so
  pub rises-above : DownClosed Up → (c : Cycle) (a b : Bound) → Up c → Rises Up a b → At c ≼ a → At c ≼ b
  rises-above down c a Never u r h = tt
  rises-above down c a (At d) u r h = go (⊑-total c d)
    where
      go : (c ⊑ d) ⊎ Before d c → c ⊑ d
      go (inl p) = p
      go (inr p) = ≼_trans (At c) a (At d) h (r d (down d c (Before→⊑ p) u) ⊑_refl)

  -- the delta after what is heard of a log, by each pair that can be
  pub heard-risen : (l : List Notification) (e : ℕ) (since : Cycle) (a : Bound) → ((c : Cycle) → In (pair_of e c) l → since ⊑ c → a ≼ At c ⊕ one_delta)
      → Rises Up a (least_heard l e since ⊕ one_delta)
  heard-risen l e since a each = go (least_heard l e since) refl
    where
      go : (b : Bound) → least_heard l e since ≡ b → Rises Up a (b ⊕ one_delta)
      go Never p = rw (Never-⊕ one_delta) (λ x u q. absurd q)
      go (At c) p = let (i, r) = least_heard-at l e since c p in rises-≼ a (At c ⊕ one_delta) (each c i r)

-- whose earliest is a cycle, lives
pub earliest-live : (m : Model) (ws : List ℕ) (l : List Notification) (ts : List Thread) (k : ℕ) (x : Cycle) → k < m.t → earliest_at m ws l ts k ≼ At x → T (is_live (thread_at ts k).state)
earliest-live m ws l ts k x h p = go (T-case (is_live (thread_at ts k).state))
  where
    go : T (is_live (thread_at ts k).state) ⊎ T (not (is_live (thread_at ts k).state)) → T (is_live (thread_at ts k).state)
    go (inl t) = t
    go (inr t) = absurd (subst (λ (b : Bound). b ≼ At x) (earliest-idle m ws l ts k h t) p)

-- who comes to a segment by a cycle, lives
pub bound-live : (m : Model) (ws : List ℕ) (l : List Notification) (ts : List Thread) (j s : ℕ) (x : Cycle) → j < m.t
    → earliest_at m ws l ts j ⊕ distance_in m ws (thread_at ts j).segment s ≼ At x → T (is_live (thread_at ts j).state)
bound-live m ws l ts j s x h p =
    let b = earliest_at m ws l ts j in
    let d = distance_in m ws (thread_at ts j).segment s in
    earliest-live m ws l ts j x h (≼_trans b (b ⊕ d) (At x) (⊕-inflate b d) p)

-- and if the segment notifies an event, its forecast is not after the cycle
pub forecast-bound : (m : Model) (ws : List ℕ) (l : List Notification) (ts : List Thread) (e j s : ℕ) (x : Cycle) → j < m.t → s < m.n → T (notifies_in m j s e)
    → earliest_at m ws l ts j ⊕ distance_in m ws (thread_at ts j).segment s ≼ At x → forecast_of m ws l ts e ≼ At x
forecast-bound m ws l ts e j s x h n listed p =
    ≼_trans
    (forecast_of m ws l ts e)
    (earliest_at m ws l ts j ⊕ distance_in m ws (thread_at ts j).segment s)
    (At x)
    (forecast_below m ws l ts e j s h (bound-live m ws l ts j s x h p) n listed)
    p

-- From words, log and records (ws, l, ts) to (ws', l', us), by chains: what rises at every source, and along every link if it does at its
-- beginning, rises at every thread.
module _ (Up : Cycle → Type 0) (m : Model) (ws : List ℕ) (l : List Notification) (ts : List Thread) (ws' : List ℕ) (l' : List Notification) (us : List Thread) where
  pub earliest-risen :
      ((k : ℕ) → k < m.t → Rises Up (earliest_at m ws l ts k) (source_of l' (thread_at us k).state)) →
      ((j k : ℕ) (x : Bound) → j < m.t → k < m.t → earliest_at m ws' l' us j ≼ x → Rises Up (earliest_at m ws l ts j) x → Rises Up (earliest_at m ws l ts k) (link_to m ws' us j k x)) →
      (k : ℕ) → k < m.t → Rises Up (earliest_at m ws l ts k) (earliest_at m ws' l' us k)
  earliest-risen sources links k h = go (earliest_at m ws' l' us k) refl
    where
      chains : {k : ℕ} {x : Bound} → Chain m ws' l' us k x → Rises Up (earliest_at m ws l ts k) x
      chains (source {k = k} p) = sources k p
      chains (link {j = j} {k = k} {x = x} p c) = links j k x (chain-below m ws' l' us c) p (earliest-≼ m ws' l' us c) (chains c)

      go : (b : Bound) → earliest_at m ws' l' us k ≡ b → Rises Up (earliest_at m ws l ts k) b
      go Never e = λ x u p. absurd p
      go (At b) e =
          chains (subst (Chain m ws' l' us k) e ((earliest_of-is m ws' l' us k h).attained (λ q. let z : ◌≡◌ {A = ℕ} 0 1 = cc in omega arith)))

  -- thread j, no sooner at any segment: what it may notify after is no sooner than the forecast before
  pub notify-risen : (j e : ℕ) (x : Bound) → j < m.t
      → ((s : ℕ) → s < m.n → T (is_live (thread_at us j).state) → Rises Up (earliest_at m ws l ts j ⊕ distance_in m ws (thread_at ts j).segment s) (x ⊕ distance_in m ws' (thread_at us j).segment s))
      → Rises Up (forecast_of m ws l ts e) (soonest_notify m ws' us j x e)
  notify-risen j e x h bounds y u p = go (soonest_notify m ws' us j x e) refl p
    where
      go : (b : Bound) → soonest_notify m ws' us j x e ≡ b → b ≼ At y → forecast_of m ws l ts e ≼ At y
      go Never f q = absurd q
      go (At b) f q =
          let (t, (s, n, listed, g)) = soonest_notify-one m ws' us j x e b f in
          forecast-bound m ws l ts e j s y h n listed (bounds s n t y u (subst (λ (z : Bound). z ≼ At y) (sym g) q))

  -- a thread that waits in both, by the forecast before and what thread j may notify after
  pub waiting-risen : DownClosed Up → (j k e : ℕ) (since : Cycle) (x : Bound) → k < m.t
      → view_of (thread_at ts k).state ≡ view.waits e since → view_of (thread_at us k).state ≡ view.waits e since
      → Rises Up (forecast_of m ws l ts e) (soonest_notify m ws' us j x e) → Rises Up (earliest_at m ws l ts k) (link_to m ws' us j k x)
  waiting-risen down j k e since x h w v r =
      let a = forecast_of m ws l ts e in
      let b = soonest_notify m ws' us j x e in
      rw
      (link_to-waiting m ws' us j k e since x v)
      (rises-trans
      Up
      (earliest_at m ws l ts k)
      (raised since a ⊕ one_delta)
      (raised since b ⊕ one_delta)
      (rises-≼ Up (earliest_at m ws l ts k) (raised since a ⊕ one_delta) after-forecast)
      (rises-⊕ Up down one_delta (raised since a) (raised since b) (rises_by Up down (raised since) (raised-mono since) (raised-inflate since) a b r)))
    where
      after-forecast : earliest_at m ws l ts k ≼ raised since (forecast_of m ws l ts e) ⊕ one_delta
      after-forecast =
          let heard = least_heard l e since in
          let foretold = raised since (forecast_of m ws l ts e) in
          rw
          (earliest-waiting m ws l ts k e since h w)
          (⊕-mono (least heard foretold) foretold one_delta one_delta (least-right heard foretold) (≼_refl one_delta))
