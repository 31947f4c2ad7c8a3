-- The end (section 7 of the argument). Where no thread is ready up to the horizon, nor running, every place that runs a thread is done:
-- its thread's earliest would not be later than the horizon, nor the floor. Nor is a wake left: it would be by a done place,
-- so logged, so not before the floor. So variables, histories and records are the plain run's, carried on until it is done.
-- Takes as given the facts of the plain run (PlainFacts), the laws of the kit (KitLaws) and the lower bound at this cut (`LowerBound`).
use Prim.Native.Nat.{ℕ, zero, suc, ◌+◌, ◌-◌, ◌≤◌, ◌<◌}
use mathlib.Core.Path.{◌≡◌, ap, sym, ◌∙◌, subst}
use mathlib.Core.Logic.{inl, inr}
use mathlib.Core.Bool.{Bool, false}
use mathlib.Core.List.{List, [], ◌++◌, append-nil}
use native.Mathlib.Omega.{arith}
use native.Mathlib.Decide.{dec_lt, dec_le}
use lib.Dec.{T}
use lib.Seq.{ext_get_or}
use Rattle.clock.specs.declared.Cycle.{Cycle}
use Rattle.clock.specs.declared.Bound.{Bound}
use Rattle.clock.specs.declared.Bound.TheVariants.{At}
use Rattle.clock.specs.Order.{◌⊑◌, ◌≼◌}
use Rattle.clock.proofs.OrderLaws.{Before→not-⊑, ≼_trans}
use Rattle.clock.proofs.AdvanceLaws.{⊕-inflate}
use Rattle.model.specs.declared.Model.{Model}
use Rattle.model.specs.declared.Thread.{Thread}
use Rattle.model.specs.Limits.{is_up_to_horizon}
use Rattle.model.specs.Record as view
use Rattle.model.specs.Record.{thread_at, view_of}
use Rattle.plain.specs.Start.{Place}
use Rattle.plain.specs.Step.{place_at}
use Rattle.plain.specs.Wake.{floor_of, some_ready}
use Rattle.plain.specs.History.{Item, history_at, items_at}
use Rattle.tables.specs.Word.{distance_in}
use Rattle.plain_laws.proofs.RecordLaws.{horizon-mono}
use Rattle.plain_laws.proofs.HappenLaws.{history_at-more}
use Rattle.plain_laws.proofs.WakeLaws.{floor_of-attained}
use Rattle.early.specs.declared.Notification.{Notification}
use Rattle.early.specs.Log.{pair_of}
use Rattle.order.proofs.Seen.{seen}
use Rattle.order.proofs.Places.{now_at, record_at, Runs, Says, Hears, Happens, idle, runs, hears}
use Rattle.order.proofs.PlainFacts.{PlainFacts}
use Rattle.order.proofs.KitLaws.{bound_in, KitLaws}
use Rattle.order.proofs.Invariant.{Known, IsCut, Bounded}
use Rattle.order.proofs.CutLaws.{cut-view}
use Rattle.order.proofs.Floor.{finite-below}
use Rattle.order.proofs.Drop.{cut-quiet, floor-below-earliest}
use Rattle.order.proofs.LeastReady.{some_ready-none}

-- from where the run is done, histories stand still
pub history-ended : (m : Model) (pf : PlainFacts m) (k : ℕ) → k < m.t → (d : ℕ)
    → history_at m k (pf.ending.place + d) ≡ history_at m k pf.ending.place
history-ended m pf k below zero = let e : pf.ending.place + 0 ≡ pf.ending.place = omega arith in ap (history_at m k) e
history-ended m pf k below (suc d) =
    let e : pf.ending.place + suc d ≡ suc (pf.ending.place + d) = omega arith in
    ap (history_at m k) e ∙ history_at-more m k i ∙ ap (λ (a : List Item). history_at m k i ++ a) (quiet (pf.happens i k below)) ∙ append-nil (history_at m k i) ∙ history-ended m pf k below d
  where
    i : ℕ
    i = pf.ending.place + d

    past : pf.ending.place ≤ i
    past = omega arith

    quiet : Happens m i k → items_at m (place_at m i) k ≡ []
    quiet (idle stays none not-runs not-hears) = none
    quiet (runs r new items) = absurd (pf.ending.no_run i k past r)
    quiet (hears e since h new items) = absurd (pf.ending.no_hearing i k e since past h)

pub history-past : (m : Model) (pf : PlainFacts m) (k i : ℕ) → k < m.t → pf.ending.place ≤ i
    → history_at m k i ≡ history_at m k pf.ending.place
history-past m pf k i below past =
    let e : i ≡ pf.ending.place + (i - pf.ending.place) = omega arith in
    ap (history_at m k) e ∙ history-ended m pf k below (i - pf.ending.place)

module _ (m : Model) (pf : PlainFacts m) {marks : List (List Bool)} {ws : List ℕ} (kl : KitLaws m marks ws)
    {x : List ℕ} {l : List Notification} {ts : List Thread} {h : ℕ → List Item} {cut : ℕ → ℕ}
    (ic : IsCut m x l ts h cut (floor_of m ts)) (bd : Bounded m ws ts cut (kl.forecasts l ts).earliest) (over : some_ready m ts ≡ false)
  where
    -- the floor is past the horizon
    floor-late : (c : Cycle) → floor_of m ts ≼ At c → T (is_up_to_horizon m c) → ⊥
    floor-late c fc early =
        let (f, fl, below) = finite-below (floor_of m ts) c fc in
        let (k, inside, ready) = floor_of-attained m ts f fl in
        some_ready-none m ts over k f inside ready (horizon-mono m below early)

    -- every place that runs a thread is done
    pub all_done : (q j : ℕ) → Runs m q j → q < cut j
    all_done q j r = go (dec_lt q (cut j))
      where
        earliest : Bound
        earliest = (kl.forecasts l ts).earliest j

        go : Dec (q < cut j) → q < cut j
        go (yes early) = early
        go (no late) =
            let bound = bound_in m ws ts (kl.forecasts l ts).earliest j (record_at m q j).segment in
            absurd (floor-late (now_at m q)
            (≼_trans (floor_of m ts) earliest (At (now_at m q)) (floor-below-earliest m kl l ts (cut-quiet ic) j r.below)
            (≼_trans earliest bound (At (now_at m q)) (⊕-inflate earliest (distance_in m ws (thread_at ts j).segment (record_at m q j).segment))
            (bd.sound q j r late)))
            (pf.now_before q))

    -- no thread hears after its cut, while its record is as it was there
    no-wake : (i k e : ℕ) (since : Cycle) → record_at m i k ≡ record_at m (cut k) k → Hears m i k e since → ⊥
    no-wake i k e since stays heard = told (pf.source i k e since heard)
      where
        waits : view_of (thread_at ts k).state ≡ view.waits e since
        waits = cut-view ic k heard.below ∙ ap (λ (t : Thread). view_of t.state) (sym stays) ∙ heard.waits

        told : (q : ℕ) × (j : ℕ) × (q < i) × Says m q j e × (now_at m q ≡ now_at m i) → ⊥
        told (q, j, _, says, now) = go (ic.logged q j e (record { runs = says.runs; passed = all_done q j says.runs }) says)
          where
            begun : since ⊑ now_at m q
            begun = subst (λ (c : Cycle). since ⊑ c) (sym now) heard.begun

            go : Known m l ts (floor_of m ts) e (now_at m q) → ⊥
            go (inl logged) = floor-late (now_at m q) (ic.low-logged (pair_of e (now_at m q)) logged) (pf.now_before q)
            go (inr gone) = Before→not-⊑ (gone.unheard k since heard.below waits) begun

    -- from its cut on, a thread's record and history stand still
    stands : (k : ℕ) → k < m.t → (d : ℕ)
        → (record_at m (cut k + d) k ≡ record_at m (cut k) k) × (history_at m k (cut k + d) ≡ history_at m k (cut k))
    stands k below zero = let e : cut k + 0 ≡ cut k = omega arith in (ap (λ (i : ℕ). record_at m i k) e, ap (history_at m k) e)
    stands k below (suc d) =
        let e : cut k + suc d ≡ suc (cut k + d) = omega arith in
        let (r, s) = next (stands k below d) (pf.happens i k below) in
        (ap (λ (n : ℕ). record_at m n k) e ∙ r, ap (history_at m k) e ∙ history_at-more m k i ∙ s)
      where
        i : ℕ
        i = cut k + d

        next : (record_at m i k ≡ record_at m (cut k) k) × (history_at m k i ≡ history_at m k (cut k)) → Happens m i k
            → (record_at m (suc i) k ≡ record_at m (cut k) k) × (history_at m k i ++ items_at m (place_at m i) k ≡ history_at m k (cut k))
        next (a, b) (idle stays none not-runs not-hears) = (stays ∙ a, ap (λ (u : List Item). history_at m k i ++ u) none ∙ append-nil (history_at m k i) ∙ b)
        next (a, b) (runs r new items) = absurd (let late = all_done i k r in omega arith)
        next (a, b) (hears e since heard new items) = absurd (no-wake i k e since a heard)

    abbrev end : ℕ
    end = pf.ending.place

    pub end-record : (k : ℕ) → k < m.t → seen (thread_at ts k) ≡ record_at m end k
    end-record k below = go (dec_le (cut k) end)
      where
        go : Dec (cut k ≤ end) → seen (thread_at ts k) ≡ record_at m end k
        go (yes h) =
            let e : cut k + (end - cut k) ≡ end = omega arith in
            ic.records k below ∙ sym (stands k below (end - cut k)).0 ∙ ap (λ (i : ℕ). record_at m i k) e
        go (no h) = ic.records k below ∙ ap (λ (p : Place). thread_at p.threads k) (pf.ending.still (cut k) (omega arith))

    pub end-history : (k : ℕ) → k < m.t → h k ≡ history_at m k end
    end-history k below = go (dec_le (cut k) end)
      where
        go : Dec (cut k ≤ end) → h k ≡ history_at m k end
        go (yes p) =
            let e : cut k + (end - cut k) ≡ end = omega arith in
            ic.history k below ∙ sym (stands k below (end - cut k)).1 ∙ ap (history_at m k) e
        go (no p) = ic.history k below ∙ history-past m pf k (cut k) below (omega arith)

    pub end-variables : x ≡ (place_at m end).variables
    end-variables =
        ext_get_or 0 x (place_at m end).variables (ic.good.size ∙ sym (pf.variables_length end))
        (λ v below. ic.good.value v end (λ p a h r w. record { runs = r; passed = all_done p a r }) (λ p a past r w d. pf.ending.no_run p a past r))
