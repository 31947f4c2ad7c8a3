-- What is heard is what the plain run hears (section 4 of the argument). The least logged notification that a waiting
-- thread can hear, where no forecast is smaller, is the one by which the plain run next wakes it: done places are logged or
-- past for it, and places that are not done come no sooner than the forecast.
-- Takes as given the facts of the plain run (PlainFacts) and the laws of the kit (KitLaws).
use Prim.Native.Nat.{ℕ, suc, ◌≤◌, ◌<◌}
use mathlib.Core.Path.{◌≡◌, refl, sym, ◌∙◌, subst}
use mathlib.Core.Logic.{inl, inr}
use mathlib.Core.Bool.{Bool}
use mathlib.Core.List.{List, [], ◌∷◌, ◌++◌, Memᴰ}
use native.Mathlib.Omega.{arith}
use native.Mathlib.Decide.{dec_lt}
use Rattle.clock.specs.declared.Cycle.{Cycle}
use Rattle.clock.specs.declared.Bound.{Bound}
use Rattle.clock.specs.declared.Bound.TheVariants.{At}
use Rattle.clock.specs.Order.{◌⊑◌, ◌≼◌}
use Rattle.clock.proofs.OrderLaws.{Before→not-⊑, ⊑-antisym, ≼_trans}
use Rattle.model.specs.declared.Model.{Model}
use Rattle.model.specs.declared.Thread.{Thread}
use Rattle.model.specs.Record as view
use Rattle.model.specs.Record.{thread_at, awaits, view_of}
use Rattle.plain.specs.Step.{place_at}
use Rattle.plain.specs.History.{Item, heard, history_at}
use Rattle.plain_laws.proofs.RecordLaws.{ready-not-waits, waits-event}
use Rattle.plain_laws.proofs.HappenLaws.{history_at-more}
use Rattle.early.specs.declared.Notification.{Notification}
use Rattle.early.specs.Log.{pair_of, least_heard}
use Rattle.early.specs.Forecast.{forecast_of}
use Rattle.early.specs.Deliver.{heard_now}
use Rattle.early_laws.proofs.LogLaws.{least_heard-≼, least_heard-at}
use Rattle.early_laws.proofs.LookLaws.{heard_now-at}
use Rattle.order.proofs.Places.{now_at, record_at, woken_in, Runs, Says, Hears, Happens, idle, runs, hears}
use Rattle.order.proofs.PlainFacts.{PlainFacts, NextHearing}
use Rattle.order.proofs.KitLaws.{bound_in, KitLaws}
use Rattle.order.proofs.Invariant.{Known, Made, IsCut, Bounded}
use Rattle.order.proofs.CutLaws.{cut-view}

-- the plain run's next hearing of thread k after its cut, at cycle c
pub record HearingAt (m : Model) (n k e : ℕ) (since c : Cycle) : Type 0 where
  pub place : ℕ
  pub from : n ≤ place
  pub hears : Hears m place k e since
  pub now : now_at m place ≡ c
  pub still : record_at m place k ≡ record_at m n k
  pub history : history_at m k place ≡ history_at m k n
  pub quiet : (q : ℕ) → n ≤ q → q < suc place → Runs m q k → ⊥
  pub after : record_at m (suc place) k ≡ woken_in (record_at m n k).segment c
  pub history_after : history_at m k (suc place) ≡ history_at m k n ++ (heard e c ∷ [])

module _ (m : Model) (pf : PlainFacts m) {marks : List (List Bool)} {ws : List ℕ} (kl : KitLaws m marks ws) where
  module _ {x : List ℕ} {l : List Notification} {ts : List Thread} {h : ℕ → List Item} {cut : ℕ → ℕ} {low : Bound}
      (ic : IsCut m x l ts h cut low) (bd : Bounded m ws ts cut (kl.forecasts l ts).earliest) where
    -- whoever notifies what k hears, does so no sooner than what is heard now
    pub no_sooner : (k e : ℕ) (since c : Cycle) → k < m.t → view_of (thread_at ts k).state ≡ view.waits e since
        → heard_now m ws l ts (awaits e since) ≡ At c
        → (q j : ℕ) → Says m q j e → since ⊑ now_at m q → c ⊑ now_at m q
    no_sooner k e since c below w now q j says begun = go (dec_lt q (cut j))
      where
        least-now : (least_heard l e since ≡ At c) × (At c ≼ forecast_of m ws l ts e)
        least-now = heard_now-at m ws l ts e since c now

        undone : (q < cut j → ⊥) → c ⊑ now_at m q
        undone late =
            let run = says.runs in
            let segment = (record_at m q j).segment in
            let f = kl.forecasts l ts in
            let says-listed = kl.distances.listed j segment (now_at m q) (place_at m q).variables e says.notifies in
            ≼_trans (At c) (forecast_of m ws l ts e) (At (now_at m q)) least-now.1
            (≼_trans (forecast_of m ws l ts e) (bound_in m ws ts f.earliest j segment) (At (now_at m q))
            (f.forecast_below e j segment run.below (bd.live q j run late) (pf.segment_below q j run.below) says-listed)
            (bd.sound q j run late))

        done : Known m l ts low e (now_at m q) → c ⊑ now_at m q
        done (inl logged) =
            subst (λ (b : Bound). b ≼ At (now_at m q)) least-now.0 (least_heard-≼ l e since (pair_of e (now_at m q)) logged refl begun)
        done (inr gone) = absurd (Before→not-⊑ (gone.unheard k since below w) begun)

        go : Dec (q < cut j) → c ⊑ now_at m q
        go (yes early) = done (ic.logged q j e (record { runs = says.runs; passed = early }) says)
        go (no late) = undone late

    -- what is heard now, the plain run hears next
    pub next-heard : (k e : ℕ) (since c : Cycle) → k < m.t → view_of (thread_at ts k).state ≡ view.waits e since
        → heard_now m ws l ts (awaits e since) ≡ At c → HearingAt m (cut k) k e since c
    next-heard k e since c below w now = found (ic.notified (pair_of e c) logged)
      where
        logged : Memᴰ (pair_of e c) l
        logged = (least_heard-at l e since c (heard_now-at m ws l ts e since c now).0).0

        begun : since ⊑ c
        begun = (least_heard-at l e since c (heard_now-at m ws l ts e since c now).0).1

        waits : view_of (record_at m (cut k) k).state ≡ view.waits e since
        waits = sym (cut-view ic k below) ∙ w

        made : (q : ℕ) → now_at m q ≡ c → NextHearing m (cut k) k e since (now_at m q) → HearingAt m (cut k) k e since c
        made q same n = after (pf.happens n.place k below)
          where
            r : ℕ
            r = n.place

            at_c : now_at m r ≡ c
            at_c =
                let (p, j, _, s, f) = pf.source r k e since n.hears in
                let sooner = no_sooner k e since c below w now p j s (subst (λ (y : Cycle). since ⊑ y) (sym f) n.hears.begun) in
                ⊑-antisym (subst (λ (y : Cycle). now_at m r ⊑ y) same n.by) (subst (λ (y : Cycle). c ⊑ y) f sooner)

            not_run : Runs m r k → ⊥
            not_run u = ready-not-waits u.ready n.hears.waits

            quiet : (q : ℕ) → cut k ≤ q → q < suc r → Runs m q k → ⊥
            quiet q from to u = go (dec_lt q r)
              where
                go : Dec (q < r) → ⊥
                go (yes d) = n.quiet q from d u
                go (no d) = let f : q ≡ r = omega arith in not_run (subst (λ (y : ℕ). Runs m y k) f u)

            after : Happens m r k → HearingAt m (cut k) k e since c
            after (idle same items not-runs not-hears) = absurd (not-hears e since n.hears)
            after (runs u new items) = absurd (not_run u)
            after (hears e' since' u new items) =
                record {
                  place = r;
                  from = n.from;
                  hears = n.hears;
                  now = at_c;
                  still = n.still;
                  history = n.history;
                  quiet = quiet;
                  after = new ∙ record-after;
                  history_after = item;
                }
              where
                same-event : e' ≡ e
                same-event = waits-event u.waits n.hears.waits

                record-after : woken_in (record_at m r k).segment (now_at m r) ≡ woken_in (record_at m (cut k) k).segment c
                record-after = λ i. woken_in (n.still i).segment (at_c i)

                item : history_at m k (suc r) ≡ history_at m k (cut k) ++ (heard e c ∷ [])
                item = rw (history_at-more m k r, n.history, items, same-event, at_c) refl

        found : Made m cut (pair_of e c) → HearingAt m (cut k) k e since c
        found (q, j, _, says, same) =
            made q same (pf.next_hearing (cut k) k e q j since below waits says (subst (λ (y : Cycle). since ⊑ y) (sym same) begun))
