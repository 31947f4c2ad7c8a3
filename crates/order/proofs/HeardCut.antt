-- One look at a thread keeps a cut: whoever hears now moves on as the plain run moves it at its next hearing, past the
-- close of that cycle, and nobody else changes; the same places are done.
-- Takes as given the facts of the plain run (PlainFacts) and the laws of the kit (KitLaws).
use Prim.Native.Nat.{ℕ, suc, ◌≤◌, ◌<◌}
use mathlib.Core.Path.{◌≡◌, ap, sym, ◌∙◌, subst₂, fun_ext}
use mathlib.Core.Logic.{inl, inr}
use mathlib.Core.Bool.{Bool}
use mathlib.Core.List.{List, [], ◌∷◌, ◌++◌, Memᴰ, append-nil}
use native.Mathlib.Omega.{arith}
use native.Mathlib.Decide.{ℕ_discrete}
use lib.ListN.{length, set, length-set}
use Rattle.clock.specs.declared.Cycle.{Cycle}
use Rattle.clock.specs.declared.Wait.TheVariants as wait
use Rattle.clock.specs.declared.Bound.{Bound}
use Rattle.clock.specs.declared.Bound.TheVariants.{At}
use Rattle.clock.specs.Order.{Before, ◌≼◌}
use Rattle.clock.specs.Wait.{wait_ends}
use Rattle.clock.proofs.OrderLaws.{Before→⊑, ≼_trans}
use Rattle.clock.proofs.WaitLaws.{wait_ends-later}
use Rattle.model.specs.declared.Model.{Model}
use Rattle.model.specs.declared.Thread.{Thread}
use Rattle.model.specs.Record as view
use Rattle.model.specs.Record.{thread_at, awaits, view_of}
use Rattle.plain.specs.History.{Item, heard, history_at}
use Rattle.plain_laws.proofs.RecordLaws.{state_after-ready, state_after-not-waits}
use Rattle.early.specs.declared.Notification.{Notification}
use Rattle.early.specs.Log.{pair_of}
use Rattle.early.specs.Deliver.{heard_now, looked_at, look_items}
use Rattle.early_laws.proofs.LogLaws.{least_heard-at}
use Rattle.early_laws.proofs.LookLaws.{Looked, unheard, hears, looked, heard_now-at, heard_at-waits, looked_at-none, looked_at-heard, look_items-none, look_items-other, look_items-heard}
use Rattle.order.proofs.Seen.{seen, seen_self}
use Rattle.order.proofs.Places.{now_at, record_at, woken_in}
use Rattle.order.proofs.PlainFacts.{PlainFacts}
use Rattle.order.proofs.KitLaws.{KitLaws}
use Rattle.order.proofs.Invariant.{Known, Gone, IsCut, SomeCut, Bounded, moved, adding}
use Rattle.order.proofs.CutLaws.{cut-segment, set-each, moved-records, moved-history, adding-same, adding_other, done-kept, done-back}
use Rattle.order.proofs.GoodLaws.{good-moved}
use Rattle.order.proofs.Hear.{HearingAt, next-heard}

-- a cut of the same records and histories
pub cut-same : {m : Model} {x : List ℕ} {l : List Notification} {ts ts' : List Thread} {h h' : ℕ → List Item} {cut : ℕ → ℕ} {low : Bound}
    → IsCut m x l ts h cut low → ts ≡ ts' → ((j : ℕ) → h j ≡ h' j) → IsCut m x l ts' h' cut low
cut-same {m} {x} {l} {cut = cut} {low = low} ic e f = subst₂ (λ (a : List Thread) (b : ℕ → List Item). IsCut m x l a b cut low) e (fun_ext f) ic

module _ (m : Model) (pf : PlainFacts m) {marks : List (List Bool)} {ws : List ℕ} (kl : KitLaws m marks ws) where
  module _
      {x : List ℕ} {l : List Notification} {ts : List Thread} {h : ℕ → List Item} {cut : ℕ → ℕ} {low : Bound}
      (ic : IsCut m x l ts h cut low)
      (bd : Bounded m ws ts cut (kl.forecasts l ts).earliest)
    where
      -- a look at a thread that hears: its record, its history, and its cut past the close at which the plain run wakes it
      module _ (k e : ℕ) (since c : Cycle) (below : k < m.t) (heard-now : low ≼ At c) (ha : HearingAt m (cut k) k e since c) where
        -- the record that it gets
        abbrev woken : Thread
        woken = woken_in (thread_at ts k).segment c

        abbrev later : ℕ → ℕ
        later = moved cut k (suc ha.place)

        on : cut k ≤ suc ha.place
        on = omega (arith, ha.from)

        inside : k < length ts
        inside = omega (arith, ic.size)

        low-ready-after : (j : ℕ) (d : Cycle) → j < m.t → view_of (thread_at (set ts k woken) j).state ≡ view.ready d → low ≼ At d
        low-ready-after j d =
            set-each (λ j t. j < m.t → view_of t.state ≡ view.ready d → low ≼ At d) ts k woken inside
            (λ b r. ≼_trans low (At c) (At d) heard-now (Before→⊑ (wait_ends-later wait.Event c (state_after-ready (wait_ends wait.Event c) d r))))
            (λ j other. ic.low-ready j d) j

        gone-after : (f : ℕ) (d : Cycle) → Gone m ts low f d → Gone m (set ts k woken) low f d
        gone-after f d g =
            record {
              dropped = g.dropped;
              unheard = λ j s.
                  set-each (λ j t. j < m.t → view_of t.state ≡ view.waits f s → Before d s) ts k woken inside
                  (λ b r. absurd (state_after-not-waits (wait_ends wait.Event c) f s r)) (λ j other. g.unheard j s) j;
            }

        pub heard-cut : IsCut m x l (set ts k woken) (adding h k (heard e c ∷ [])) later low
        heard-cut =
            record {
              size = rw length-set ic.size;
              records = moved-records m ts cut k (suc ha.place) woken inside (ap seen woken-is ∙ seen_self (record_at m (suc ha.place) k) (pf.unbegun (suc ha.place) k below)) ic.records;
              history = moved-history m h cut k (suc ha.place) (heard e c ∷ []) heard-is ic.history;
              good = good-moved m pf kl cut x k (suc ha.place) on ha.quiet ic.good;
              low-ready = low-ready-after;
              low-logged = ic.low-logged;
              logged = λ q j f d s. logged-after f (now_at m q) (ic.logged q j f (done-back m cut k (suc ha.place) on ha.quiet q j d) s);
              notified = λ y i. let (q, j, d, s, f) = ic.notified y i in (q, j, done-kept m cut k (suc ha.place) on q j d, s, f);
              once = ic.once;
            }
          where
            woken-is : woken ≡ record_at m (suc ha.place) k
            woken-is = ap (λ (s : ℕ). woken_in s c) (cut-segment ic k below) ∙ sym ha.after

            heard-is : h k ++ (heard e c ∷ []) ≡ history_at m k (suc ha.place)
            heard-is = ap (λ (a : List Item). a ++ (heard e c ∷ [])) (ic.history k below) ∙ sym ha.history_after

            logged-after : (f : ℕ) (d : Cycle) → Known m l ts low f d
                → Known m l (set ts k woken) low f d
            logged-after f d (inl i) = inl i
            logged-after f d (inr g) = inr (gone-after f d g)

      -- One look keeps a cut. A thread that hears moves on as the plain run moves it; any other stays as it is.
      pub looked-cut : (k : ℕ) → k < m.t
          → SomeCut m x l (looked_at m ws l ts k) (λ j. h j ++ look_items m ws l ts k j) low
      looked-cut k below = go (looked m ws l ts k)
        where
          go : Looked m ws l ts k → SomeCut m x l (looked_at m ws l ts k) (λ j. h j ++ look_items m ws l ts k j) low
          go (unheard none) = (
            cut,
            cut-same
                ic (sym (looked_at-none m ws l ts k none))
                (λ j. sym (ap (λ (a : List Item). h j ++ a) (look_items-none m ws l ts k j none) ∙ append-nil (h j))),
          )
          go (hears c at_c) = moves (heard_at-waits m ws l ts k c at_c)
            where
              moves : (e : ℕ) × (since : Cycle) × (view_of (thread_at ts k).state ≡ view.waits e since) × (heard_now m ws l ts (awaits e since) ≡ At c)
                  → SomeCut m x l (looked_at m ws l ts k) (λ j. h j ++ look_items m ws l ts k j) low
              moves (e, since, w, now) = (
                moved cut k (suc ha.place),
                cut-same
                    (heard-cut k e since c below (ic.low-logged (pair_of e c) logged) ha) (sym (looked_at-heard m ws l ts k c at_c))
                    (λ j. added j (ℕ_discrete j k)),
              )
                where
                  ha : HearingAt m (cut k) k e since c
                  ha = next-heard m pf kl ic bd k e since c below w now

                  logged : Memᴰ (pair_of e c) l
                  logged = (least_heard-at l e since c (heard_now-at m ws l ts e since c now).0).0

                  added : (j : ℕ) → Dec (j ≡ k) → adding h k (heard e c ∷ []) j ≡ h j ++ look_items m ws l ts k j
                  added j (yes same) =
                      adding-same h k (heard e c ∷ []) j same ∙ ap (λ (a : List Item). h j ++ a) (sym (rw same (look_items-heard m ws l ts k e since c w at_c)))
                  added j (no other) =
                      adding_other h k (heard e c ∷ []) j other ∙ sym (ap (λ (a : List Item). h j ++ a) (look_items-other m ws l ts k j other) ∙ append-nil (h j))
