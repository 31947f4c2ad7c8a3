-- What was heard, no forecast contradicts later: in every state that a list of requests can reach, the forecast of an event is no sooner than
-- any hearing of it so far, since it was no sooner then and never falls up to the horizon (slip 5). Beside it: a done place notified whatever was
-- heard, and nobody has anything to hear.
-- Takes as given the facts of the plain run (PlainFacts) and the laws of the kit (KitLaws).
use Prim.Native.Nat.{ℕ, ◌≤◌, ◌<◌}
use mathlib.Core.Path.{◌≡◌, ap, sym, subst, fun_ext}
use mathlib.Core.Logic.{◌⊎◌, inl, inr}
use mathlib.Core.List.Memᴰ
use mathlib.Core.List.{List, ◌++◌, append-nil, append_assoc, Memᴰ}
use native.Mathlib.Omega.{arith}
use native.Mathlib.Decide.{dec_lt}
use Rattle.clock.specs.declared.Cycle.{Cycle}
use Rattle.clock.specs.declared.Bound.{Bound}
use Rattle.clock.specs.declared.Bound.TheVariants.{At}
use Rattle.clock.specs.Order.{◌≼◌}
use Rattle.clock.proofs.OrderLaws.{≼_trans}
use Rattle.model.specs.declared.Model.{Model}
use Rattle.model.specs.declared.Thread.{Thread}
use Rattle.plain.specs.History.{Item, heard, history_at}
use Rattle.early.specs.declared.Notification.{Notification}
use Rattle.early.specs.Log.{pair_of}
use Rattle.early.specs.Forecast.{forecast_of}
use Rattle.early.specs.Deliver.{looked_at, look_items, settled, settled_items}
use Rattle.early_laws.proofs.LogLaws.{least_heard-at}
use Rattle.early_laws.proofs.LookLaws.{heard_now-at, look_items-only}
use Rattle.early_laws.proofs.HearLaws.{forecast-rises}
use Rattle.early_laws.proofs.SettleLaws.{settled-carries}
use Rattle.early_laws.proofs.RiseLaws.{rises-above}
use Rattle.early_laws.proofs.RisingLaws.{Rising, rising-forecast}
use Rattle.order.specs.Steady.{run_count}
use Rattle.order.proofs.Places.{now_at, Says}
use Rattle.order.proofs.PlainFacts.{PlainFacts}
use Rattle.order.proofs.Invariant.{Known, Made, IsCut}
use Rattle.order.proofs.SamePlaces.{run_count-append, ran-≤, ran-between}
use Rattle.order.proofs.Rising.{InTime, in_time-down}

-- event e was notified at c by a place that is done: its thread has run more often, by the histories h, than before it
pub record Said (m : Model) (h : ℕ → List Item) (e : ℕ) (c : Cycle) : Type 0 where
  pub place : ℕ
  pub thread : ℕ
  pub says : Says m place thread e
  pub now : now_at m place ≡ c
  pub passed : run_count (history_at m thread place) < run_count (h thread)

pub said_more : {m : Model} {h h' : ℕ → List Item} {e : ℕ} {c : Cycle} → ((k : ℕ) → k < m.t → run_count (h k) ≤ run_count (h' k)) → Said m h e c → Said m h' e c
said_more more s =
    record { place = s.place; thread = s.thread; says = s.says; now = s.now; passed = omega (arith, s.passed, more s.thread s.says.runs.below) }

longer : (h is : ℕ → List Item) (k : ℕ) → run_count (h k) ≤ run_count (h k ++ is k)
longer h is k = omega (arith, run_count-append (h k) (is k))

module _ (m : Model) (pf : PlainFacts m) where
  pub said-in-time : {h : ℕ → List Item} {e : ℕ} {c : Cycle} → Said m h e c → InTime m c
  said-in-time s = subst (InTime m) s.now (pf.now_before s.place)

  -- by a cut
  module _ {x : List ℕ} {l : List Notification} {ts : List Thread} {h : ℕ → List Item} {cut : ℕ → ℕ} {low : Bound} (ic : IsCut m x l ts h cut low) where
    pub made→said : (y : Notification) → Made m cut y → Said m h y.event y.cycle
    made→said y (q, k, d, s, now) =
        let below = d.runs.below in
        let a = ran-between m pf k below q q (cut k) (omega arith) d.passed d.runs in
        let b = ap run_count (ic.history k below) in
        record { place = q; thread = k; says = s; now = now; passed = omega arith }

    pub said→known : (e : ℕ) (c : Cycle) → Said m h e c → Known m l ts low e c
    said→known e c s =
        subst (Known m l ts low e) s.now
        (ic.logged s.place s.thread e (record { runs = s.says.runs; passed = go (dec_lt s.place (cut s.thread)) }) s.says)
      where
        go : Dec (s.place < cut s.thread) → s.place < cut s.thread
        go (yes d) = d
        go (no d) =
            let below = s.says.runs.below in
            let a = ran-≤ m pf s.thread below (cut s.thread) s.place (omega arith) in
            let b = ap run_count (ic.history s.thread below) in
            let p = s.passed in
            absurd (omega arith)

-- of everything heard so far
pub record Foretold (m : Model) (ws : List ℕ) (l : List Notification) (ts : List Thread) (h : ℕ → List Item) : Type 0 where
  pub said : (k e : ℕ) (c : Cycle) → k < m.t → Memᴰ (heard e c) (h k) → Said m h e c
  pub no_sooner : (k e : ℕ) (c : Cycle) → k < m.t → Memᴰ (heard e c) (h k) → At c ≼ forecast_of m ws l ts e

module _ (m : Model) (pf : PlainFacts m) (ws : List ℕ) where
  -- where no bound falls
  pub foretold-rising : {l l' : List Notification} {ts us : List Thread} {h : ℕ → List Item} → Rising (InTime m) m ws l ts ws l' us → Foretold m ws l ts h → Foretold m ws l' us h
  foretold-rising {l} {l'} {ts} {us} rise f =
      record {
        said = f.said;
        no_sooner = λ k e c below i.
            rises-above (InTime m) (in_time-down m) c (forecast_of m ws l ts e) (forecast_of m ws l' us e) (said-in-time m pf (f.said k e c below i))
            (rising-forecast (InTime m) m rise e) (f.no_sooner k e c below i);
      }

  -- histories with no more heard
  pub foretold-more : {l : List Notification} {ts : List Thread} {h h' : ℕ → List Item} → ((k : ℕ) → run_count (h k) ≤ run_count (h' k))
      → ((k e : ℕ) (c : Cycle) → Memᴰ (heard e c) (h' k) → Memᴰ (heard e c) (h k)) → Foretold m ws l ts h → Foretold m ws l ts h'
  foretold-more more only f =
      record {
        said = λ k e c below i. said_more (λ j b. more j) (f.said k e c below (only k e c i));
        no_sooner = λ k e c below i. f.no_sooner k e c below (only k e c i);
      }

  -- deliveries, of a log that done places made
  module _ (l : List Notification) (h : ℕ → List Item) (made : (y : Notification) → Memᴰ y l → Said m h y.event y.cycle) where
    foretold-looked : (us : List Thread) (is : ℕ → List Item) (k : ℕ) → k < m.t → Foretold m ws l us (λ j. h j ++ is j)
        → Foretold m ws l (looked_at m ws l us k) (λ j. h j ++ (is j ++ look_items m ws l us k j))
    foretold-looked us is k kt f =
        record {
          said = λ j e c below i. by_said j e c below (either j e c i);
          no_sooner = λ j e c below i.
              ≼_trans (At c) (forecast_of m ws l us e) (forecast_of m ws l (looked_at m ws l us k) e) (before j e c below (either j e c i))
              (forecast-rises m ws l us k kt e);
        }
      where
        new : ℕ → List Item
        new j = look_items m ws l us k j

        -- heard before, or now
        either : (j e : ℕ) (c : Cycle) → Memᴰ (heard e c) (h j ++ (is j ++ new j)) → Memᴰ (heard e c) (h j ++ is j) ⊎ Memᴰ (heard e c) (new j)
        either j e c i = Memᴰ.append_cases (h j ++ is j) (subst (λ (a : List Item). Memᴰ (heard e c) a) (sym (append_assoc (h j) (is j) (new j))) i)

        by_said : (j e : ℕ) (c : Cycle) → j < m.t → Memᴰ (heard e c) (h j ++ is j) ⊎ Memᴰ (heard e c) (new j) → Said m (λ j. h j ++ (is j ++ new j)) e c
        by_said j e c below (inl i) =
            said_more (λ n b. let p = longer (λ j. h j ++ is j) new n in let q = ap run_count (append_assoc (h n) (is n) (new n)) in omega arith) (f.said j e c below i)
        by_said j e c below (inr i) =
            let (since, w, now) = look_items-only m ws l us k j e c i in
            let held = (least_heard-at l e since c (heard_now-at m ws l us e since c now).0).0 in
            said_more (λ n b. longer h (λ j. is j ++ new j) n) (made (pair_of e c) held)

        before : (j e : ℕ) (c : Cycle) → j < m.t → Memᴰ (heard e c) (h j ++ is j) ⊎ Memᴰ (heard e c) (new j) → At c ≼ forecast_of m ws l us e
        before j e c below (inl i) = f.no_sooner j e c below i
        before j e c below (inr i) = let (since, w, now) = look_items-only m ws l us k j e c i in (heard_now-at m ws l us e since c now).1

    pub foretold-settled : (ts : List Thread) → Foretold m ws l ts h → Foretold m ws l (settled m ws l ts) (λ j. h j ++ settled_items m ws l ts j)
    foretold-settled ts f =
        settled-carries m ws l (λ us is. Foretold m ws l us (λ j. h j ++ is j)) foretold-looked ts
        (subst (Foretold m ws l ts) (fun_ext (λ j. sym (append-nil (h j)))) f)
