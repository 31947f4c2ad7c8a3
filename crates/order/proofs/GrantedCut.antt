-- After a run, before anything is delivered: variables, log, records and histories are again a cut of the plain run, the
-- thread's cut moved just past its place. What was past for all stays so: a wait that begins now begins at the granted
-- cycle, and nothing ready is before the floor of the last drop.
-- Takes as given the facts of the plain run (PlainFacts) and the laws of the kit (KitLaws).
use Prim.Native.Nat.{ℕ, suc, ◌<◌}
use mathlib.Core.Path.{◌≡◌, ap, ap₂, sym, ◌∙◌}
use mathlib.Core.Logic.{◌⊎◌, inl, inr}
use mathlib.Core.Bool.{Bool}
use mathlib.Core.List.Memᴰ
use mathlib.Core.List.{List, [], ◌∷◌, ◌++◌, Memᴰ}
use native.Mathlib.Omega.{arith}
use lib.Dec.{T}
use lib.ListN.{length, set, length-set}
use Rattle.clock.specs.declared.Cycle.{Cycle}
use Rattle.clock.specs.declared.Bound.{Bound}
use Rattle.clock.specs.declared.Bound.TheVariants.{At}
use Rattle.clock.specs.Order.{Before, ◌≼◌}
use Rattle.clock.proofs.OrderLaws.{≼_trans}
use Rattle.model.specs.declared.Model.{Model}
use Rattle.model.specs.declared.Thread.{Thread}
use Rattle.model.specs.Record as view
use Rattle.model.specs.Record.{thread_at, view_of}
use Rattle.model.specs.Effect.{Effect, effect_of}
use Rattle.model.specs.Footprint.{has}
use Rattle.plain.specs.History.{Item, ran, history_at}
use Rattle.early.specs.declared.Notification.{Notification}
use Rattle.early.specs.Log.{pair_of, with_pairs}
use Rattle.early_laws.proofs.LogLaws.{with_pairs-kept, with_pairs-new, with_pairs-only}
use Rattle.early_laws.proofs.OnceLaws.{with_pairs-once}
use Rattle.order.proofs.Seen.{seen, seen_self}
use Rattle.order.proofs.Places.{now_at, record_at, effect_there, Says}
use Rattle.order.proofs.PlainFacts.{PlainFacts, NextRun}
use Rattle.order.proofs.KitLaws.{KitLaws}
use Rattle.order.proofs.PlaceLaws.{run-record, run-history, run-later}
use Rattle.order.proofs.Invariant.{Known, Made, Done, Gone, Safe, IsCut, moved, adding}
use Rattle.order.proofs.CutLaws.{set-each, moved-records, moved-history, done-kept, done-here, done-now}
use Rattle.order.proofs.Floor.{not-⊑→Before}
use Rattle.order.proofs.Grant.{same-segment, effect-thread, effect-notified, effect-good}

module _ (m : Model) (pf : PlainFacts m) {marks : List (List Bool)} {ws : List ℕ} (kl : KitLaws m marks ws)
    {x : List ℕ} {l : List Notification} {ts : List Thread} {h : ℕ → List Item} {cut : ℕ → ℕ} {low : Bound}
    (ic : IsCut m x l ts h cut low) (k : ℕ) (c : Cycle) (kt : k < m.t) (ready : view_of (thread_at ts k).state ≡ view.ready c)
    (r : NextRun m (cut k) k c) (safe : Safe m cut r.place k)
  where
    -- what the grant does, and what it leaves
    abbrev effect : Effect
    effect = effect_of m k (thread_at ts k).segment c x

    abbrev new_log : List Notification
    new_log = with_pairs l c effect.notified

    abbrev new_records : List Thread
    new_records = set ts k effect.thread

    abbrev new_cut : ℕ → ℕ
    new_cut = moved cut k (suc r.place)

    inside : k < length ts
    inside = omega (arith, ic.size)

    thread-there : effect.thread ≡ (effect_there m r.place k).thread
    thread-there = effect-thread m pf kl ic k c kt ready r safe

    notified-there : effect.notified ≡ (effect_there m r.place k).notified
    notified-there = effect-notified m pf kl ic k c kt ready r safe

    seen-there : seen effect.thread ≡ record_at m (suc r.place) k
    seen-there =
        ap seen (thread-there ∙ sym (run-record m pf r.place k r.runs))
        ∙ seen_self (record_at m (suc r.place) k) (pf.unbegun (suc r.place) k kt)

    low-now : low ≼ At c
    low-now = ic.low-ready k c kt ready

    abbrev items : List Item
    items = ran (thread_at ts k).segment c ∷ []

    items-there : items ≡ ran (record_at m r.place k).segment (now_at m r.place) ∷ []
    items-there = ap₂ (λ (s : ℕ) (d : Cycle). ran s d ∷ []) (same-segment m pf kl ic k c kt ready r) (sym r.now)

    history-there : h k ++ items ≡ history_at m k (suc r.place)
    history-there =
        ap₂ (λ (a b : List Item). a ++ b) (ic.history k kt ∙ sym r.history) items-there ∙ sym (run-history m pf r.place k r.runs)

    low-ready-after : (j : ℕ) (d : Cycle) → j < m.t → view_of (thread_at new_records j).state ≡ view.ready d → low ≼ At d
    low-ready-after j d =
        set-each (λ j t. j < m.t → view_of t.state ≡ view.ready d → low ≼ At d) ts k effect.thread inside
        (λ jt st. ≼_trans low (At c) (At d) low-now (rw r.now at (run-later m pf r.place k r.runs d (rw thread-there at st))))
        (λ j other. ic.low-ready j d) j

    low-logged-after : (y : Notification) → Memᴰ y new_log → low ≼ At y.cycle
    low-logged-after y held = go (with_pairs-only l c effect.notified held)
      where
        go : Memᴰ y l ⊎ ((y.cycle ≡ c) × T (has effect.notified y.event)) → low ≼ At y.cycle
        go (inl old) = ic.low-logged y old
        go (inr (e, _)) = rw e low-now

    -- what was past for all is past for the wait that may begin now
    gone-kept : (e : ℕ) (d : Cycle) → Gone m ts low e d → Gone m new_records low e d
    gone-kept e d gone =
        record {
          dropped = gone.dropped;
          unheard = λ j since.
              set-each (λ j t. j < m.t → view_of t.state ≡ view.waits e since → Before d since) ts k effect.thread inside
              (λ jt st. rw (kl.distances.wait_begins k (thread_at ts k).segment c x e since st) earlier)
              (λ j other. gone.unheard j since) j;
        }
      where
        earlier : Before d c
        earlier = not-⊑→Before (λ p. gone.dropped (≼_trans low (At c) (At d) low-now p))

    logged-after : (q j e : ℕ) → Done m new_cut q j → Says m q j e
        → Known m new_log new_records low e (now_at m q)
    logged-after q j e d says = go (done-now m cut k r.place r.from r.runs r.quiet q j d)
      where
        kept : Known m l ts low e (now_at m q)
            → Known m new_log new_records low e (now_at m q)
        kept (inl held) = inl (with_pairs-kept l c effect.notified held)
        kept (inr gone) = inr (gone-kept e (now_at m q) gone)

        go : Done m cut q j ⊎ ((q ≡ r.place) × (j ≡ k)) → Known m new_log new_records low e (now_at m q)
        go (inl old) = kept (ic.logged q j e old says)
        go (inr (p, f)) =
            let here : Says m r.place k e = rw (p, f) at says in
            inl (Memᴰ.cast (ap (pair_of e) (ap (now_at m) p ∙ r.now)) (with_pairs-new l c effect.notified e (rw notified-there here.notifies)))

    notified-after : (y : Notification) → Memᴰ y new_log
        → Made m new_cut y
    notified-after y held = go (with_pairs-only l c effect.notified held)
      where
        go : Memᴰ y l ⊎ ((y.cycle ≡ c) × T (has effect.notified y.event))
            → Made m new_cut y
        go (inl old) =
            let (q, j, d, says, now) = ic.notified y old in
            (q, j, done-kept m cut k (suc r.place) (omega (arith, r.from)) q j d, says, now)
        go (inr (e, t)) = (r.place, k, done-here m cut k r.place r.from r.runs r.quiet, record { runs = r.runs; notifies = rw notified-there at t }, r.now ∙ sym e)

    pub granted-cut : IsCut m (effect_of m k (thread_at ts k).segment c x).variables (with_pairs l c (effect_of m k (thread_at ts k).segment c x).notified) (set ts k (effect_of m k (thread_at ts k).segment c x).thread) (adding h k (ran (thread_at ts k).segment c ∷ [])) (moved cut k (suc r.place)) low
    granted-cut =
        record {
          size = rw (length-set ts k effect.thread) ic.size;
          records = moved-records m ts cut k (suc r.place) effect.thread inside seen-there ic.records;
          history = moved-history m h cut k (suc r.place) items history-there ic.history;
          good = effect-good m pf kl ic k c kt ready r safe;
          low-ready = low-ready-after;
          low-logged = low-logged-after;
          logged = logged-after;
          notified = notified-after;
          once = with_pairs-once l c effect.notified ic.once;
        }
