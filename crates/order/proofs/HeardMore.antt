-- Two cuts, with nothing running, after which a thread has run equally often: its record and history are the same in both, or it waits in one and has heard, once, in
-- the other. What it has heard is the first notification that the plain run has for it.
-- Takes as given the facts of the plain run (PlainFacts).
use Prim.Native.Nat.{ℕ, zero, suc, ◌+◌, ◌-◌, ◌≤◌, ◌<◌}
use mathlib.Core.Path.{◌≡◌, refl, ap, sym, ◌∙◌, subst}
use mathlib.Core.Logic.{◌⊎◌, inl, inr}
use mathlib.Core.List.{List, [], ◌∷◌, ◌++◌, append-nil}
use native.Mathlib.Omega.{arith}
use native.Mathlib.Decide.{dec_lt, dec_le, ℕ_discrete}
use Rattle.clock.specs.declared.Cycle.{Cycle}
use Rattle.clock.specs.declared.Wait.TheVariants as wait
use Rattle.clock.specs.declared.Bound.{Bound}
use Rattle.clock.specs.declared.Bound.TheVariants.{Never, At}
use Rattle.clock.specs.Wait.{wait_ends}
use Rattle.clock.specs.Order.{◌⊑◌}
use Rattle.clock.proofs.OrderLaws.{⊑_trans}
use Rattle.model.specs.declared.Model.{Model}
use Rattle.model.specs.declared.Thread.{Thread}
use Rattle.model.specs.Record as view
use Rattle.model.specs.Record.{thread_at, view_of}
use Rattle.plain.specs.Step.{place_at}
use Rattle.plain.specs.History.{Item, heard, items_at, history_at}
use Rattle.plain_laws.proofs.RecordLaws.{state_after-not-waits}
use Rattle.plain_laws.proofs.HappenLaws.{history_at-more}
use Rattle.early.specs.declared.Notification.{Notification}
use Rattle.order.specs.Steady.{run_count}
use Rattle.order.proofs.Seen.{Unbegun}
use Rattle.order.proofs.Places.{now_at, record_at, woken_in, Runs, Says, Hears, Happens, idle, runs, hears}
use Rattle.order.proofs.PlainFacts.{PlainFacts, NextHearing}
use Rattle.order.proofs.Invariant.{IsCut}
use Rattle.order.proofs.CutLaws.{cut-view, cut-segment, cut_record}
use Rattle.order.proofs.SamePlaces.{ran-between}

module _ (m : Model) (pf : PlainFacts m) (k : ℕ) (below : k < m.t) (n : ℕ) where
  -- thread k neither ran nor heard from place n to place p
  record Still (p : ℕ) : Type 0 where
    same : record_at m p k ≡ record_at m n k
    history : history_at m k p ≡ history_at m k n
    unheard : (q e : ℕ) (since : Cycle) → n ≤ q → q < p → Hears m q k e since → ⊥

  -- it heard once, the first time that it could, and did not run
  record Woken (p : ℕ) : Type 0 where
    place : ℕ
    event : ℕ
    since : Cycle
    hears-it : Hears m place k event since
    waits : view_of (record_at m n k).state ≡ view.waits event since
    unheard : (q e : ℕ) (since : Cycle) → n ≤ q → q < place → Hears m q k e since → ⊥
    woken : record_at m p k ≡ woken_in (record_at m n k).segment (now_at m place)
    history : history_at m k p ≡ history_at m k n ++ (heard event (now_at m place) ∷ [])

  history-idle : (p : ℕ) → items_at m (place_at m p) k ≡ [] → history_at m k (suc p) ≡ history_at m k p
  history-idle p none = history_at-more m k p ∙ ap (λ (is : List Item). history_at m k p ++ is) none ∙ append-nil (history_at m k p)

  still-next : (p : ℕ) → Still p → (Runs m p k → ⊥) → Happens m p k → Still (suc p) ⊎ Woken (suc p)
  still-next p s quiet (runs r new items) = absurd (quiet r)
  still-next p s quiet (idle same items not-runs not-hears) = inl (record { same = same ∙ s.same; history = history-idle p items ∙ s.history; unheard = unheard })
    where
      unheard : (q e : ℕ) (since : Cycle) → n ≤ q → q < suc p → Hears m q k e since → ⊥
      unheard q e since from to hear = go (ℕ_discrete q p)
        where
          go : Dec (q ≡ p) → ⊥
          go (yes f) = not-hears e since (subst (λ (i : ℕ). Hears m i k e since) f hear)
          go (no f) = s.unheard q e since from (omega arith) hear
  still-next p s quiet (hears e since hear new items) =
      inr (record {
        place = p;
        event = e;
        since = since;
        hears-it = hear;
        waits = ap (λ (t : Thread). view_of t.state) (sym s.same) ∙ hear.waits;
        unheard = s.unheard;
        woken = new ∙ ap (λ (t : Thread). woken_in t.segment (now_at m p)) s.same;
        history = history_at-more m k p ∙ rw (s.history, items) refl;
      })

  woken-next : (p : ℕ) → Woken p → (Runs m p k → ⊥) → Happens m p k → Woken (suc p)
  woken-next p w quiet (runs r new items) = absurd (quiet r)
  woken-next p w quiet (idle same items not-runs not-hears) =
      record {
        place = w.place;
        event = w.event;
        since = w.since;
        hears-it = w.hears-it;
        waits = w.waits;
        unheard = w.unheard;
        woken = same ∙ w.woken;
        history = history-idle p items ∙ w.history;
      }
  woken-next p w quiet (hears e since hear new items) =
      absurd (state_after-not-waits (wait_ends wait.Event (now_at m w.place)) e since (ap (λ (t : Thread). view_of t.state) (sym w.woken) ∙ hear.waits))

  -- d places on, in which it does not run
  walk : (d : ℕ) → ((q : ℕ) → n ≤ q → q < n + d → Runs m q k → ⊥) → Still (n + d) ⊎ Woken (n + d)
  walk zero quiet =
      let e : n + 0 ≡ n = omega arith in
      inl (rw e (record { same = refl; history = refl; unheard = λ q e since from to hear. omega arith }))
  walk (suc d) quiet =
      let e : n + suc d ≡ suc (n + d) = omega arith in
      rw e (go (walk d (λ q from to. quiet q from (omega arith))) (pf.happens (n + d) k below))
    where
      here : Runs m (n + d) k → ⊥
      here r = quiet (n + d) (omega arith) (omega arith) r

      go : Still (n + d) ⊎ Woken (n + d) → Happens m (n + d) k → Still (suc (n + d)) ⊎ Woken (suc (n + d))
      go (inl s) h = still-next (n + d) s here h
      go (inr w) h = inr (woken-next (n + d) w here h)

  -- no notification that it could hear is sooner than what it heard
  woken-first : (p : ℕ) (w : Woken p) (q j : ℕ) → Says m q j w.event → w.since ⊑ now_at m q → now_at m w.place ⊑ now_at m q
  woken-first p w q j says begun = go (pf.next_hearing n k w.event q j w.since below w.waits says begun)
    where
      go : NextHearing m n k w.event w.since (now_at m q) → now_at m w.place ⊑ now_at m q
      go next = by (dec_lt next.place w.place)
        where
          by : Dec (next.place < w.place) → now_at m w.place ⊑ now_at m q
          by (yes l) = absurd (w.unheard next.place w.event w.since next.from l next.hears)
          by (no l) = ⊑_trans (pf.now_mono w.place next.place (omega arith)) next.by

-- thread k waits, by (ts, h), and by (us, h') has heard e at c, than which it could hear nothing sooner
pub record Behind (m : Model) (ts us : List Thread) (h h' : ℕ → List Item) (k e : ℕ) (since c : Cycle) : Type 0 where
  pub below : k < m.t
  pub waits : view_of (thread_at ts k).state ≡ view.waits e since
  pub woken : thread_at us k ≡ woken_in (thread_at ts k).segment c
  pub history : h' k ≡ h k ++ (heard e c ∷ [])
  pub begun : since ⊑ c
  pub first : (q j : ℕ) → Says m q j e → since ⊑ now_at m q → c ⊑ now_at m q

-- thread k by both
pub data Compared (m : Model) (ts us : List Thread) (h h' : ℕ → List Item) (k : ℕ) : Type 0 where
  alike : (k < m.t → (thread_at ts k ≡ thread_at us k) × (h k ≡ h' k)) → Compared m ts us h h' k
  behind : (e : ℕ) (since c : Cycle) → Behind m ts us h h' k e since c → Compared m ts us h h' k
  ahead : (e : ℕ) (since c : Cycle) → Behind m us ts h' h k e since c → Compared m ts us h h' k

pub swapped : {m : Model} {ts us : List Thread} {h h' : ℕ → List Item} {k : ℕ} → Compared m ts us h h' k → Compared m us ts h' h k
swapped (alike p) = alike (λ b. (sym (p b).0, sym (p b).1))
swapped (behind e since c b) = ahead e since c b
swapped (ahead e since c b) = behind e since c b

-- the cycle heard in one of them alone
abbrev pub heard_in : {m : Model} {ts us : List Thread} {h h' : ℕ → List Item} {k : ℕ} → Compared m ts us h h' k → Bound
heard_in (alike p) = Never
heard_in (behind e since c b) = At c
heard_in (ahead e since c b) = At c

pub swapped_same : {m : Model} {ts us : List Thread} {h h' : ℕ → List Item} {k : ℕ} (x : Compared m ts us h h' k) → heard_in (swapped x) ≡ heard_in x
unfolding swapped
swapped_same (alike p) = refl
swapped_same (behind e since c b) = refl
swapped_same (ahead e since c b) = refl

module _ (m : Model) (pf : PlainFacts m) where
  -- from a cut to a later one
  onward : {x x' : List ℕ} {l l' : List Notification} {ts us : List Thread} {h h' : ℕ → List Item} {cut cut' : ℕ → ℕ} {low low' : Bound}
      → IsCut m x l ts h cut low → IsCut m x' l' us h' cut' low' → Unbegun m ts → Unbegun m us → (k : ℕ) → k < m.t → run_count (h k) ≡ run_count (h' k) → cut k ≤ cut' k
      → Compared m ts us h h' k
  onward {ts = ts} {us = us} {h = h} {h' = h'} {cut = cut} {cut' = cut'} ic ic' unbegun unbegun' k below same later =
      go (subst (λ (p : ℕ). Still m pf k below (cut k) p ⊎ Woken m pf k below (cut k) p) at (walk m pf k below (cut k) (cut' k - cut k) quiet))
    where
      at : cut k + (cut' k - cut k) ≡ cut' k
      at = omega arith

      quiet : (q : ℕ) → cut k ≤ q → q < cut k + (cut' k - cut k) → Runs m q k → ⊥
      quiet q from to r =
          let a = ran-between m pf k below (cut k) q (cut' k) from (omega arith) r in
          let b = ap run_count (ic.history k below) in
          let c = ap run_count (ic'.history k below) in
          omega arith

      go : Still m pf k below (cut k) (cut' k) ⊎ Woken m pf k below (cut k) (cut' k) → Compared m ts us h h' k
      go (inl s) =
          alike (λ b. (cut_record ic k b (unbegun k b) ∙ sym s.same ∙ sym (cut_record ic' k b (unbegun' k b)), ic.history k b ∙ sym s.history ∙ sym (ic'.history k b)))
      go (inr w) =
          behind w.event w.since (now_at m w.place) (record {
            below = below;
            waits = cut-view ic k below ∙ w.waits;
            woken = cut_record ic' k below (unbegun' k below) ∙ w.woken ∙ ap (λ (s : ℕ). woken_in s (now_at m w.place)) (sym (cut-segment ic k below));
            history = ic'.history k below ∙ w.history ∙ ap (λ (a : List Item). a ++ (heard w.event (now_at m w.place) ∷ [])) (sym (ic.history k below));
            begun = w.hears-it.begun;
            first = woken-first m pf k below (cut k) (cut' k) w;
          })

  pub compared : {x x' : List ℕ} {l l' : List Notification} {ts us : List Thread} {h h' : ℕ → List Item} {cut cut' : ℕ → ℕ} {low low' : Bound}
      → IsCut m x l ts h cut low → IsCut m x' l' us h' cut' low' → Unbegun m ts → Unbegun m us → ((k : ℕ) → k < m.t → run_count (h k) ≡ run_count (h' k)) → (k : ℕ)
      → Compared m ts us h h' k
  compared {ts = ts} {us = us} {h = h} {h' = h'} {cut = cut} {cut' = cut'} ic ic' unbegun unbegun' same k = go (dec_lt k m.t) (dec_le (cut k) (cut' k))
    where
      go : Dec (k < m.t) → Dec (cut k ≤ cut' k) → Compared m ts us h h' k
      go (no n) d = alike (λ b. absurd (n b))
      go (yes b) (yes l) = onward ic ic' unbegun unbegun' k b (same k b) l
      go (yes b) (no l) = swapped (onward ic' ic unbegun' unbegun k b (sym (same k b)) (omega arith))
