-- What is dropped is never missed (section 5 of the argument). Where nobody hears, no waiting thread has a logged
-- notification that it can hear before the floor: the least such would have a smaller forecast, which comes from a ready
-- thread, at the floor or later, or from a smaller such notification. So a drop keeps a cut, and the floor never falls.
-- Takes as given the laws of the kit (KitLaws).
use Prim.Native.Nat.{ℕ, ◌<◌}
use mathlib.Core.Path.{◌≡◌, refl, sym, ◌∙◌, subst}
use mathlib.Core.Logic.{◌⊎◌, inl, inr}
use mathlib.Core.Bool.{Bool}
use mathlib.Core.List.{List, Memᴰ}
use lib.Dec.{T}
use Rattle.clock.specs.declared.Cycle.{Cycle}
use Rattle.clock.specs.declared.Bound.{Bound}
use Rattle.clock.specs.declared.Bound.TheVariants.{Never, At}
use Rattle.clock.specs.Advance.{least_below}
use Rattle.clock.specs.Order.{Before, ◌⊑◌, ◌≼◌}
use Rattle.clock.proofs.OrderLaws.{At-not-Never, ⊑-total, Before→⊑, Before→not-⊑, ⊑_trans, ⊑-Before-trans, ≼_trans}
use Rattle.clock.proofs.LeastLaws.{least_below-≼, least_below-one}
use Rattle.clock.proofs.AdvanceLaws.{⊕-inflate}
use Rattle.model.specs.declared.Model.{Model}
use Rattle.model.specs.declared.Thread.{Thread}
use Rattle.model.specs.Record as view
use Rattle.model.specs.Record.{thread_at, is_live, Awaited, nothing, awaits, awaited_by, awaited_of, View, view_of}
use Rattle.plain.specs.Wake.{floor_of}
use Rattle.plain.specs.History.{Item}
use Rattle.tables.specs.Word.{distance_in}
use Rattle.early.specs.declared.Notification.{Notification}
use Rattle.early.specs.Log.{pair_of, least_heard, drop_before}
use Rattle.early.specs.Forecast.{forecast_of}
use Rattle.early.specs.Deliver.{heard_now}
use Rattle.early_laws.proofs.LogLaws.{least_heard-≼, drop_before-kept, drop_before-only}
use Rattle.early_laws.proofs.OnceLaws.{drop_before-once}
use Rattle.early_laws.proofs.LookLaws.{heard_now-none}
use Rattle.early_laws.proofs.RestLaws.{Rest}
use Rattle.order.proofs.Places.{now_at}
use Rattle.order.proofs.KitLaws.{Hearable, Source, from_ready, from_logged, bound_in, KitLaws}
use Rattle.order.proofs.Invariant.{Known, Gone, IsCut}
use Rattle.order.proofs.Floor.{not-⊑→Before, finite-below, floor-below, floor-glb}

-- what a thread could hear of the log, by its wait
abbrev hearable : List Notification → Awaited → Bound
hearable l nothing = Never
hearable l (awaits e since) = least_heard l e since

hearable-waits : (l : List Notification) (v : View) (c : Cycle) → hearable l (awaited_of v) ≡ At c
    → (e : ℕ) × (since : Cycle) × (v ≡ view.waits e since) × (least_heard l e since ≡ At c)
hearable-waits l view.idle c e = absurd (At-not-Never (sym e))
hearable-waits l (view.ready d) c e = absurd (At-not-Never (sym e))
hearable-waits l (view.waits a d) c e = (a, d, refl, e)

-- nothing before the floor can be heard
abbrev pub Quiet : Model → List Notification → List Thread → Type 0
Quiet m l ts = (k : ℕ) (y : Notification) → Hearable m l ts k y → floor_of m ts ≼ At y.cycle

-- a bound that a cycle is not below, is before it
pub before-or-not : (b : Bound) (c : Cycle) → (At c ≼ b → ⊥) → (d : Cycle) × (b ≡ At d) × Before d c
before-or-not Never c h = absurd (h tt)
before-or-not (At d) c h = (d, refl, not-⊑→Before h)

-- a drop keeps what is not before its bound
pub drop_before-keeps : (f : Bound) (l : List Notification) {y : Notification} → Memᴰ y l → f ≼ At y.cycle → Memᴰ y (drop_before f l)
drop_before-keeps Never l i h = absurd h
drop_before-keeps (At f) l i h = drop_before-kept f l i h

kept-or-dropped : (f : Bound) (c : Cycle) → (f ≼ At c) ⊎ (f ≼ At c → ⊥)
kept-or-dropped Never c = inr (λ h. h)
kept-or-dropped (At f) c = go (⊑-total f c)
  where
    go : (f ⊑ c) ⊎ Before c f → (f ⊑ c) ⊎ (f ⊑ c → ⊥)
    go (inl h) = inl h
    go (inr h) = inr (λ k. Before→not-⊑ h k)

-- a thread with a finite bound has a finite earliest, not after it
pub bound-finite : (m : Model) (ws : List ℕ) (ts : List Thread) (earliest : ℕ → Bound) (j s : ℕ) (b : Cycle)
    → bound_in m ws ts earliest j s ≡ At b
    → (a : Cycle) × (earliest j ≡ At a) × (a ⊑ b)
bound-finite m ws ts earliest j s b e =
    finite-below (earliest j) b (subst (λ (z : Bound). earliest j ≼ z) e (⊕-inflate (earliest j) (distance_in m ws (thread_at ts j).segment s)))

module _ (m : Model) {marks : List (List Bool)} {ws : List ℕ} (kl : KitLaws m marks ws) (l : List Notification) (ts : List Thread) where
  abbrev least_hearable : Bound
  least_hearable = least_below m.t (λ k. hearable l (awaited_by (thread_at ts k).state))

  -- the least that anybody could hear
  least_hearable-≼ : (k : ℕ) (y : Notification) → Hearable m l ts k y → least_hearable ≼ At y.cycle
  least_hearable-≼ k y h =
      let least = least_below-≼ m.t (λ k. hearable l (awaited_by (thread_at ts k).state)) k h.below in
      ≼_trans least_hearable (least_heard l y.event h.since) (At y.cycle)
      (subst (λ (v : View). least_hearable ≼ hearable l (awaited_of v)) h.waits least)
      (least_heard-≼ l y.event h.since y h.logged refl h.begun)

  -- If the least that anybody could hear is at c and nobody hears, the floor is not after c: some forecast is before c,
  -- so some earliest; that comes from a ready thread, or from something smaller that somebody could hear.
  floor-below-least : Rest m ws l ts → (k e : ℕ) (since c : Cycle) → k < m.t → view_of (thread_at ts k).state ≡ view.waits e since
      → least_heard l e since ≡ At c → least_hearable ≡ At c → floor_of m ts ≼ At c
  floor-below-least rest k e since c below w p q =
      forecast (before-or-not (forecast_of m ws l ts e) c (heard_now-none m ws l ts e since c none p))
    where
      none : heard_now m ws l ts (awaits e since) ≡ Never
      none = subst (λ (v : View). heard_now m ws l ts (awaited_of v) ≡ Never) w (rest k below)

      earliest : ℕ → Bound
      earliest = (kl.forecasts l ts).earliest

      from : (j : ℕ) (a b : Cycle) → a ⊑ b → Before b c → Source m l ts j a → floor_of m ts ≼ At c
      from j a b ab bc (from_ready i d i-below ready da _) =
          ≼_trans (floor_of m ts) (At d) (At c) (floor-below m ts i d i-below ready) (⊑_trans da (⊑_trans ab (Before→⊑ bc)))
      from j a b ab bc (from_logged i y h ya) =
          absurd (Before→not-⊑ bc (⊑_trans (subst (λ (z : Bound). z ≼ At y.cycle) q (least_hearable-≼ i y h)) (⊑_trans (Before→⊑ ya) ab)))

      forecast : (b : Cycle) × (forecast_of m ws l ts e ≡ At b) × Before b c → floor_of m ts ≼ At c
      forecast (b, fb, bc) = attained ((kl.forecasts l ts).forecast_attained e b fb)
        where
          attained : (j : ℕ) × (s : ℕ) × (j < m.t) × T (is_live (thread_at ts j).state) × (bound_in m ws ts earliest j s ≡ At b)
              → floor_of m ts ≼ At c
          attained (j, s, j-below, live, eb) = source (bound-finite m ws ts earliest j s b eb)
            where
              source : (a : Cycle) × (earliest j ≡ At a) × (a ⊑ b) → floor_of m ts ≼ At c
              source (a, ea, ab) = from j a b ab bc ((kl.forecasts l ts).attained j a j-below ea)

  -- where nobody hears, nothing before the floor can be heard
  pub rest-quiet : Rest m ws l ts → Quiet m l ts
  rest-quiet rest k y h = found (finite-below least_hearable y.cycle (least_hearable-≼ k y h))
    where
      found : (c : Cycle) × (least_hearable ≡ At c) × (c ⊑ y.cycle) → floor_of m ts ≼ At y.cycle
      found (c, p, cy) = go (least_below-one m.t (λ k. hearable l (awaited_by (thread_at ts k).state)))
        where
          go : (least_hearable ≡ Never) ⊎ ((i : ℕ) × (i < m.t) × (least_hearable ≡ hearable l (awaited_by (thread_at ts i).state)))
              → floor_of m ts ≼ At y.cycle
          go (inl n) = absurd (At-not-Never (sym p ∙ n))
          go (inr (i, below, q)) =
              let (e, since, w, r) = hearable-waits l (view_of (thread_at ts i).state) c (sym q ∙ p) in
              ≼_trans (floor_of m ts) (At c) (At y.cycle) (floor-below-least rest i e since c below w r p) cy

  -- a finite earliest comes from a cycle at the floor or later; a waiting thread's comes later than that
  pub earliest-source : Quiet m l ts → (k : ℕ) (b : Cycle) → k < m.t → (kl.forecasts l ts).earliest k ≡ At b
      → (d : Cycle) × (floor_of m ts ≼ At d) × (d ⊑ b) × ((e : ℕ) (since : Cycle) → view_of (thread_at ts k).state ≡ view.waits e since → Before d b)
  earliest-source quiet k b below e = from ((kl.forecasts l ts).attained k b below e)
    where
      from : Source m l ts k b
          → (d : Cycle) × (floor_of m ts ≼ At d) × (d ⊑ b) × ((e : ℕ) (since : Cycle) → view_of (thread_at ts k).state ≡ view.waits e since → Before d b)
      from (from_ready i d i-below ready db strict) = (d, floor-below m ts i d i-below ready, db, strict)
      from (from_logged i y h yb) = (y.cycle, quiet i y h, Before→⊑ yb, λ f u w. yb)

  -- every earliest is at the floor or later
  pub floor-below-earliest : Quiet m l ts → (k : ℕ) → k < m.t → floor_of m ts ≼ (kl.forecasts l ts).earliest k
  floor-below-earliest quiet k below = go ((kl.forecasts l ts).earliest k) refl
    where
      go : (b : Bound) → (kl.forecasts l ts).earliest k ≡ b → floor_of m ts ≼ b
      go Never e = tt
      go (At b) e = let (d, fd, db, _) = earliest-source quiet k b below e in ≼_trans (floor_of m ts) (At d) (At b) fd db

  -- a waiting thread's is later
  pub waiting-after-floor : Quiet m l ts → (k e : ℕ) (since f b : Cycle) → k < m.t → view_of (thread_at ts k).state ≡ view.waits e since
      → floor_of m ts ≡ At f → (kl.forecasts l ts).earliest k ≡ At b → Before f b
  waiting-after-floor quiet k e since f b below w fl eb =
      let (d, fd, _, strict) = earliest-source quiet k b below eb in
      ⊑-Before-trans (subst (λ (z : Bound). z ≼ At d) fl fd) (strict e since w)

module _ {m : Model} {x : List ℕ} {l : List Notification} {ts : List Thread} {h : ℕ → List Item} {cut : ℕ → ℕ} {low : Bound} (ic : IsCut m x l ts h cut low) where
  -- the floor never falls
  pub floor-rises : low ≼ floor_of m ts
  floor-rises = floor-glb m ts low ic.low-ready

  -- a drop keeps a cut, at the floor
  pub dropped-cut : Quiet m l ts → IsCut m x (drop_before (floor_of m ts) l) ts h cut (floor_of m ts)
  dropped-cut quiet =
      record {
        size = ic.size;
        records = ic.records;
        history = ic.history;
        good = ic.good;
        low-ready = λ k c below r. floor-below m ts k c below r;
        low-logged = λ y i. (drop_before-only (floor_of m ts) l i).1;
        logged = λ q k e d s. still e (now_at m q) (ic.logged q k e d s);
        notified = λ y i. ic.notified y (drop_before-only (floor_of m ts) l i).0;
        once = drop_before-once (floor_of m ts) ic.once;
      }
    where
      floor : Bound
      floor = floor_of m ts

      -- a logged pair that is dropped is past for all
      dropped : (e : ℕ) (c : Cycle) → Memᴰ (pair_of e c) l → (floor ≼ At c → ⊥) → Gone m ts floor e c
      dropped e c logged before =
          record {
            dropped = before;
            unheard = λ k since below w.
                not-⊑→Before (λ begun. before (quiet k (pair_of e c) (record { below = below; since = since; waits = w; logged = logged; begun = begun })));
          }

      still : (e : ℕ) (c : Cycle) → Known m l ts low e c
          → Known m (drop_before floor l) ts floor e c
      still e c (inr g) = inr (record { dropped = λ b. g.dropped (≼_trans low floor (At c) floor-rises b); unheard = g.unheard })
      still e c (inl logged) = go (kept-or-dropped floor c)
        where
          go : (floor ≼ At c) ⊎ (floor ≼ At c → ⊥) → Known m (drop_before floor l) ts floor e c
          go (inl b) = inl (drop_before-keeps floor l logged b)
          go (inr b) = inr (dropped e c logged b)

-- a cut at its floor is quiet
pub cut-quiet : {m : Model} {x : List ℕ} {l : List Notification} {ts : List Thread} {h : ℕ → List Item} {cut : ℕ → ℕ}
    → IsCut m x l ts h cut (floor_of m ts) → Quiet m l ts
cut-quiet ic k y h = ic.low-logged y h.logged
