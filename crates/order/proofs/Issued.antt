-- What holds of a thread that is running, between its grant and its finish: it runs a place of the plain run, its next; every earlier place that touches
-- that one is done, as no hazard stood at the grant; and the values that are held for it are the plain run's there, on all that it uses. Other calls keep
-- that, as what is done stays done.
--     Issued, issued-kept     the facts, and that they are kept
--     same_place     two places that run a thread, after equal histories, are one
--     issued-run, issued-safe, issued-agree     at the finish
-- Takes as given the facts of the plain run (PlainFacts) and the laws of the kit (KitLaws).
use Prim.Native.Nat.{ℕ, ◌<◌}
use mathlib.Core.Path.{◌≡◌, ap, sym, ◌∙◌, subst}
use mathlib.Core.Bool.{Bool, true}
use mathlib.Core.List.{List}
use native.Mathlib.Omega.{arith}
use native.Mathlib.Decide.{dec_lt}
use lib.Dec.{T}
use Rattle.clock.specs.declared.Bound.{Bound}
use Rattle.model.specs.declared.Model.{Model}
use Rattle.model.specs.declared.Thread.{Thread}
use Rattle.model.specs.Limits.{is_up_to_horizon}
use Rattle.model.specs.Record.{thread_at, cycle_of, is_running}
use Rattle.model.specs.Footprint.{uses_in}
use Rattle.model_effect.proofs.FrameLaws.{Agree, agree-sym, agree_trans}
use Rattle.plain.specs.Step.{place_at}
use Rattle.plain.specs.History.{Item, history_at}
use Rattle.early.specs.declared.Notification.{Notification}
use Rattle.early.specs.Call.{held_at}
use Rattle.order.specs.Steady.{run_count}
use Rattle.order.proofs.Seen.{running-ready}
use Rattle.order.proofs.Places.{Runs}
use Rattle.order.proofs.PlainFacts.{PlainFacts, NextRun}
use Rattle.order.proofs.KitLaws.{KitLaws}
use Rattle.order.proofs.Invariant.{Done, Safe, IsCut}
use Rattle.order.proofs.Grant.{next_place, same-segment, found}
use Rattle.order.proofs.SamePlaces.{ran-between}

-- by a cut and the histories of what has been run to its end
pub record Issued (m : Model) (cut : ℕ → ℕ) (h : ℕ → List Item) (ts : List Thread) (held : List ℕ) (k : ℕ) : Type 0 where
  pub place : ℕ
  pub runs : Runs m place k
  pub history : history_at m k place ≡ h k
  pub safe : Safe m cut place k
  pub agree : Agree (λ v. T (uses_in m k (thread_at ts k).segment v)) (held_at held k) (place_at m place).variables

-- where no less is done, and its history, its segment and its values are as they were
pub issued-kept : {m : Model} {cut cut' : ℕ → ℕ} {h h' : ℕ → List Item} {ts ts' : List Thread} {held held' : List ℕ} {k : ℕ}
    → ((q j : ℕ) → Done m cut q j → Done m cut' q j) → h' k ≡ h k → thread_at ts' k ≡ thread_at ts k → held_at held' k ≡ held_at held k
    → Issued m cut h ts held k → Issued m cut' h' ts' held' k
issued-kept {m} {k = k} more history same values i =
    record {
      place = i.place;
      runs = i.runs;
      history = i.history ∙ sym history;
      safe = λ p a sooner runs touch. more p a (i.safe p a sooner runs touch);
      agree = rw (same, values) i.agree;
    }

-- two places that run a thread, after equal histories, are one
pub same_place : (m : Model) → PlainFacts m → (k p q : ℕ) → Runs m p k → Runs m q k → history_at m k p ≡ history_at m k q → p ≡ q
same_place m pf k p q r s same = go (dec_lt p q) (dec_lt q p)
  where
    counts : run_count (history_at m k p) ≡ run_count (history_at m k q)
    counts = ap run_count same

    go : Dec (p < q) → Dec (q < p) → p ≡ q
    go (yes l) _ = let a = ran-between m pf k r.below p p q (omega arith) l r in absurd (omega (arith, counts))
    go (no _) (yes l) = let a = ran-between m pf k r.below q q p (omega arith) l s in absurd (omega (arith, counts))
    go (no a) (no b) = omega arith

-- at the finish of thread k
module _ (m : Model) (pf : PlainFacts m) {marks : List (List Bool)} {ws : List ℕ} (kl : KitLaws m marks ws)
    {x : List ℕ} {l : List Notification} {ts : List Thread} {h : ℕ → List Item} {cut : ℕ → ℕ} {low : Bound}
    (ic : IsCut m x l ts h cut low) (k : ℕ) (kt : k < m.t) (running : is_running (thread_at ts k).state ≡ true) (soon : T (is_up_to_horizon m (cycle_of (thread_at ts k).state)))
    {held : List ℕ} (i : Issued m cut h ts held k)
  where
    -- its next place is the one that it was granted
    pub issued-run : NextRun m (cut k) k (cycle_of (thread_at ts k).state)
    issued-run = next_place m pf kl ic k (cycle_of (thread_at ts k).state) kt (running-ready (thread_at ts k).state running) soon

    there : i.place ≡ issued-run.place
    there = same_place m pf k i.place issued-run.place i.runs issued-run.runs (i.history ∙ ic.history k kt ∙ sym issued-run.history)

    pub issued-safe : Safe m cut issued-run.place k
    issued-safe = subst (λ (p : ℕ). Safe m cut p k) there i.safe

    abbrev uses : ℕ → Type 0
    uses v = T (uses_in m k (thread_at ts k).segment v)

    -- and the values that are held for it are those of the state, on all that it uses
    pub issued-agree : Agree uses (held_at held k) x
    issued-agree =
        let c = cycle_of (thread_at ts k).state in
        let ready = running-ready (thread_at ts k).state running in
        agree_trans uses (held_at held k) (place_at m issued-run.place).variables x
        (subst (λ (p : ℕ). Agree uses (held_at held k) (place_at m p).variables) there i.agree)
        (agree-sym uses x (place_at m issued-run.place).variables
        (subst (λ (s : ℕ). Agree (λ v. T (uses_in m k s v)) x (place_at m issued-run.place).variables) (sym (same-segment m pf kl ic k c kt ready issued-run))
        (found m pf kl ic k c kt ready issued-run issued-safe)))
