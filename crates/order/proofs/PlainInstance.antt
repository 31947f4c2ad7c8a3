-- The facts of the plain run that the argument uses, for every model that keeps the file rules. Each is a law of plain_laws,
-- said of places in the argument's words.
-- Assumes nothing.
use Prim.Native.Nat.{ℕ, suc, ◌≤◌, ◌<◌}
use mathlib.Core.Path.{◌≡◌, refl, ap, sym, ◌∙◌, subst}
use mathlib.Core.Logic.{◌⊎◌, inl, inr}
use mathlib.Core.List.{List}
use native.Mathlib.Omega.{arith}
use lib.Dec.{T}
use Rattle.clock.specs.declared.Cycle.{Cycle}
use Rattle.clock.specs.Order.{◌⊑◌}
use Rattle.model.specs.declared.Model.{Model}
use Rattle.model.specs.declared.Thread.{Thread}
use Rattle.model.specs.Limits.{is_up_to_horizon}
use Rattle.model.specs.Record as view
use Rattle.model.specs.Record.{thread_at, view_of}
use Rattle.model.specs.Footprint.{has}
use Rattle.model.specs.Rules.{model_fault}
use Rattle.plain.specs.Start.{Place}
use Rattle.plain.specs.Step.{stepped, place_at}
use Rattle.plain.specs.Run.{last_step}
use Rattle.plain_laws.proofs.RecordLaws.{has-none}
use Rattle.plain_laws.proofs.StepLaws.{Sees, sees, sees_ran, sees_passed, sees_begun, sees_rested, ran-not-closed, closed→turned, turned→closed, ready→ran, place_at-more, stepped-variables-ran, stepped-variables-other}
use Rattle.plain_laws.proofs.HappenLaws as happen
use Rattle.plain_laws.proofs.SteadyLaws as steady
use Rattle.plain_laws.proofs.NotifyLaws as notify
use Rattle.plain_laws.proofs.HearLaws as hear
use Rattle.plain_laws.proofs.RangeLaws as range
use Rattle.plain_laws.proofs.StampLaws as stamp
use Rattle.plain_laws.proofs.EndLaws as end
use Rattle.plain_laws.proofs.DoneLaws.{Done, is_done-parts, place_at-stands, is_done-closed}
use Rattle.plain_laws.proofs.KeepLaws.{model_fault-keeps}
use Rattle.order.proofs.Places.{now_at, record_at, Runs, effect_there, Says, Hears, Happens, idle, runs, hears}
use Rattle.order.proofs.PlainFacts.{NextRun, NextHearing, Ending, PlainFacts}

-- the record of thread k after the step from place i
abbrev step_record : Model → ℕ → ℕ → Thread
step_record m i k = thread_at (stepped m (place_at m i)).threads k

module _ (m : Model) where
  -- who runs, in either words
  runs-there : (i k : ℕ) → happen.Runs m (place_at m i) k → Runs m i k
  runs-there i k r = record { below = happen.Runs-below m (place_at m i) k r; turn = r.1; ready = happen.Runs-ready m (place_at m i) k r }

  runs-back : (i k : ℕ) → Runs m i k → happen.Runs m (place_at m i) k
  runs-back i k r =
      let turn = r.turn in
      let ready : view_of (record_at m i (place_at m i).turn).state ≡ view.ready (now_at m i) = subst (λ (j : ℕ). view_of (record_at m i j).state ≡ view.ready (now_at m i)) (sym turn) r.ready in
      (ready→ran m (place_at m i) (omega (arith, turn, r.below)) ready, turn)

  -- who hears
  hears-there : (i k e : ℕ) → k < m.t → (h : happen.Hears m (place_at m i) k e) → Hears m i k e h.since
  hears-there i k e l h = record { below = l; closes = closed→turned m (place_at m i) h.closing; waits = h.waiting; notified = h.notified; begun = h.begun }

  hears_back : (i k e : ℕ) (since : Cycle) → Hears m i k e since → happen.Hears m (place_at m i) k e
  hears_back i k e since h = record { closing = turned→closed m (place_at m i) h.closes; since = since; waiting = h.waits; notified = h.notified; begun = h.begun }

  happens-there : (i k : ℕ) → k < m.t → Happens m i k
  happens-there i k l = go (happen.happens-at m i k)
    where
      step : record_at m (suc i) k ≡ step_record m i k
      step = ap (λ (p : Place). thread_at p.threads k) (place_at-more m i)

      go : happen.Happens m (place_at m i) k → Happens m i k
      go (happen.idle s r h j) = idle (step ∙ s) j (λ x. r (runs-back i k x)) (λ e since x. h e (hears_back i k e since x))
      go (happen.runs r y s j) = runs (runs-there i k r) (step ∙ s) j
      go (happen.hears e h s j) = hears e h.since (hears-there i k e l h) (step ∙ s) j

  -- who notifies
  says_back : (q j e : ℕ) → Says m q j e → notify.Says m q e
  says_back q j e s =
      let r = runs-back q j s.runs in
      (r.0, subst (λ (k : ℕ). T (has (effect_there m q k).notified e)) (sym r.1) s.notifies)

  says_there : (q e : ℕ) → notify.Says m q e → Says m q (place_at m q).turn e
  says_there q e s = record { runs = runs-there q (place_at m q).turn (s.0, refl); notifies = s.1 }

  one-runs : (i : ℕ) → ((k : ℕ) × Runs m i k) ⊎ ((k : ℕ) → Runs m i k → ⊥)
  one-runs i = go (sees m (place_at m i))
    where
      go : Sees m (place_at m i) → ((k : ℕ) × Runs m i k) ⊎ ((k : ℕ) → Runs m i k → ⊥)
      go (sees_ran q h r s) = inl ((place_at m i).turn, runs-there i (place_at m i).turn (q, refl))
      go (sees_passed q h r s) = inr (λ k x. r (subst (λ (j : ℕ). view_of (record_at m i j).state ≡ view.ready (now_at m i)) (sym x.turn) x.ready))
      go (sees_begun q h c f b s) = inr (λ k x. ran-not-closed (runs-back i k x).0 q)
      go (sees_rested q h l s) = inr (λ k x. ran-not-closed (runs-back i k x).0 q)

  variables-after : (i k : ℕ) → Runs m i k → (place_at m (suc i)).variables ≡ (effect_there m i k).variables
  variables-after i k r =
      let b = runs-back i k r in
      ap (λ (p : Place). p.variables) (place_at-more m i) ∙ stepped-variables-ran m (place_at m i) b.0 ∙ ap (λ (j : ℕ). (effect_there m i j).variables) b.1

  variables-same : (i : ℕ) → ((k : ℕ) → Runs m i k → ⊥) → (place_at m (suc i)).variables ≡ (place_at m i).variables
  variables-same i none =
      ap (λ (p : Place). p.variables) (place_at-more m i) ∙ stepped-variables-other m (place_at m i) (λ q. none (place_at m i).turn (runs-there i (place_at m i).turn (q, refl)))

  source-there : (i k e : ℕ) (since : Cycle) → Hears m i k e since → (q : ℕ) × (j : ℕ) × (q < i) × Says m q j e × (now_at m q ≡ now_at m i)
  source-there i k e since h =
      let s = notify.source m i e h.notified in
      (s.place, (place_at m s.place).turn, s.earlier, says_there s.place e s.says, s.now)

  module _ (kept : range.Keeps m) where
    run-there : (n k : ℕ) (c : Cycle) → k < m.t → view_of (record_at m n k).state ≡ view.ready c → T (is_up_to_horizon m c) → NextRun m n k c
    run-there n k c l e b =
        let r = end.will-run m k n c kept l e b in
        record {
          place = r.place;
          from = r.quiet.forth;
          runs = runs-there r.place k r.runs;
          now = r.now;
          still = r.quiet.still r.place r.quiet.forth (omega arith);
          history = r.quiet.same_history;
          quiet = λ q a d x. r.quiet.not_run q a d (runs-back q k x);
        }

    hearing-there : (n k e q j : ℕ) (since : Cycle) → k < m.t → view_of (record_at m n k).state ≡ view.waits e since → Says m q j e
        → since ⊑ now_at m q → NextHearing m n k e since (now_at m q)
    hearing-there n k e q j since l w s b =
        let h = hear.will-hear m k n e since w q (says_back q j e s) b in
        let same : record_at m h.place k ≡ record_at m n k = h.quiet.still h.place h.quiet.forth (omega arith) in
        let waits : view_of (record_at m h.place k).state ≡ view.waits e since = ap (λ (t : Thread). view_of t.state) same ∙ w in
        record {
          place = h.place;
          from = h.quiet.forth;
          hears = record { below = l; closes = closed→turned m (place_at m h.place) h.hears.closing; waits = waits; notified = h.hears.notified; begun = hear.begun m h.place k e since waits };
          by = h.not_after;
          still = same;
          history = h.quiet.same_history;
          quiet = λ x a d y. h.quiet.not_run x a d (runs-back x k y);
        }

    ending_there : Ending m
    ending_there =
        record {
          place = last_step m;
          done = end.ends m kept;
          still = λ i h. place_at-stands m (last_step m) (end.ends m kept) i h;
          no_run = λ i k h r. ran-not-closed (runs-back i k r).0 (is_done-closed m (place_at m i) (end.done_at m kept i h));
          no_hearing = no_hearing;
        }
      where
        no_hearing : (i k e : ℕ) (since : Cycle) → last_step m ≤ i → Hears m i k e since → ⊥
        no_hearing i k e since h x = none-notified (is_done-parts m (place_at m i) (end.done_at m kept i h))
          where
            none-notified : Done m (place_at m i) → ⊥
            none-notified d = has-none e (subst (λ (l : List ℕ). T (has l e)) d.heard_all x.notified)

    pub facts : PlainFacts m
    facts =
        record {
          happens = happens-there;
          runs_one = one-runs;
          variables_run = variables-after;
          variables_idle = variables-same;
          variables_length = range.variables_length m kept;
          segment_below = λ i k l. ((range.in-range m kept i).fits k l).segment;
          unbegun = λ i k l. ((range.in-range m kept i).fits k l).unbegun;
          now_mono = steady.now_mono m;
          stamps = λ i j a b l r s. stamp.run-stamps m i j a b l (runs-back i a r) (runs-back j b s);
          now_before = range.now_before m kept;
          begun = λ i k e since l w. hear.begun m i k e since w;
          source = source-there;
          next_run = run-there;
          next_hearing = hearing-there;
          ending = ending_there;
        }

pub plain-facts : (m : Model) → model_fault m ≡ 0 → PlainFacts m
plain-facts m e = facts m (model_fault-keeps m e)
