-- What follows for one thread at one place of the plain run: a run leaves the record and the item that the effect says, and
-- no sooner a ready cycle than its own; a hearing leaves the thread ready one delta later, or overrun; a thread that has ended or
-- overrun stays so.
-- Takes as given the facts of the plain run (PlainFacts).
use Prim.Native.Nat.{ℕ, zero, suc, ◌≤◌, ◌<◌}
use mathlib.Core.Path.{◌≡◌, refl, ap, sym, ◌∙◌, subst}
use mathlib.Core.Logic.{◌⊎◌, inl, inr}
use mathlib.Core.Bool.{not}
use mathlib.Core.List.{List, [], ◌∷◌, ◌++◌}
use native.Mathlib.Omega.{arith}
use native.Mathlib.Decide.{ℕ_discrete}
use lib.Dec.{T, T_not}
use Rattle.base.proofs.BoolLaws.{T-case}
use Rattle.clock.specs.declared.Cycle.{Cycle}
use Rattle.clock.specs.declared.Wait.TheVariants as wait
use Rattle.clock.specs.declared.Bound.TheVariants.{At}
use Rattle.clock.specs.Wait.{wait_ends}
use Rattle.clock.specs.Advance.{◌⊕◌, one_delta}
use Rattle.clock.specs.Order.{◌⊑◌}
use Rattle.clock.proofs.OrderLaws.{Before→⊑}
use Rattle.clock.proofs.AdvanceLaws.{advance_of-Event}
use Rattle.clock.proofs.WaitLaws.{wait_ends-advance}
use Rattle.model.specs.declared.Model.{Model}
use Rattle.model.specs.declared.Thread.{Thread}
use Rattle.model.specs.Limits.{is_up_to_horizon}
use Rattle.model.specs.Record as view
use Rattle.model.specs.Record.{is_live, is_live_view, state_after, View, view_of}
use Rattle.plain.specs.Step.{place_at}
use Rattle.plain.specs.History.{Item, ran, items_at, history_at}
use Rattle.plain_laws.proofs.RecordLaws.{ready-not-waits, state_after-ready, horizon-mono}
use Rattle.plain_laws.proofs.HappenLaws.{history_at-more}
use Rattle.order.proofs.Places.{now_at, record_at, effect_there, Runs, Happens, idle, runs, hears}
use Rattle.order.proofs.PlainFacts.{PlainFacts}
use Rattle.order.proofs.Floor.{not-Before→⊑}

-- whoever hears at c, and is then ready, is so one delta later
pub heard-ready : (c d : Cycle) → view_of (state_after (wait_ends wait.Event c)) ≡ view.ready d → At c ⊕ one_delta ≡ At d
heard-ready c d e = rw (← advance_of-Event) (wait_ends-advance wait.Event c (state_after-ready (wait_ends wait.Event c) d e))

-- a cycle up to the horizon is not after one that is past it
horizon-⊑ : (m : Model) (c d : Cycle) → T (is_up_to_horizon m c) → T (not (is_up_to_horizon m d)) → c ⊑ d
horizon-⊑ m c d before late = not-Before→⊑ (λ h. T_not (is_up_to_horizon m d) late (horizon-mono m (Before→⊑ h) before))

-- one that has ended or overrun neither runs nor hears
abbrev pub Over : Thread → Type 0
Over t = T (not (is_live t.state))

pub over-ready-not : (t : Thread) (c : Cycle) → Over t → view_of t.state ≡ view.ready c → ⊥
over-ready-not t c over e = subst (λ (v : View). T (not (is_live_view v))) e over

pub over-waits-not : (t : Thread) (e : ℕ) (since : Cycle) → Over t → view_of t.state ≡ view.waits e since → ⊥
over-waits-not t e since over p = subst (λ (v : View). T (not (is_live_view v))) p over

-- a place runs one thread
pub same-runner : (m : Model) (p a b : ℕ) → Runs m p a → Runs m p b → a ≡ b
same-runner m p a b r s = sym r.turn ∙ s.turn

module _ (m : Model) (pf : PlainFacts m) where
  pub over-stays : (k n j : ℕ) → k < m.t → n ≤ j → Over (record_at m n k) → record_at m j k ≡ record_at m n k
  over-stays k n zero kt h over = let e : n ≡ 0 = omega arith in rw e refl
  over-stays k n (suc j) kt h over = go (λ l. over-stays k n j kt l over) (ℕ_discrete n (suc j))
    where
      after : record_at m j k ≡ record_at m n k → Happens m j k → record_at m (suc j) k ≡ record_at m n k
      after same (idle e _ _ _) = e ∙ same
      after same (runs r _ _) = absurd (over-ready-not (record_at m n k) (now_at m j) over (rw same at r.ready))
      after same (hears e since r _ _) = absurd (over-waits-not (record_at m n k) e since over (rw same at r.waits))

      go : (n ≤ j → record_at m j k ≡ record_at m n k) → Dec (n ≡ suc j) → record_at m (suc j) k ≡ record_at m n k
      go ih (yes e) = rw e refl
      go ih (no e) = after (ih (omega arith)) (pf.happens j k kt)

  module _ (i k : ℕ) (here : Runs m i k) where
    pub run-record : record_at m (suc i) k ≡ (effect_there m i k).thread
    run-record = go (pf.happens i k here.below)
      where
        go : Happens m i k → record_at m (suc i) k ≡ (effect_there m i k).thread
        go (idle _ _ none _) = absurd (none here)
        go (runs _ next _) = next
        go (hears e since r _ _) = absurd (ready-not-waits here.ready r.waits)

    pub run-history : history_at m k (suc i) ≡ history_at m k i ++ (ran (record_at m i k).segment (now_at m i) ∷ [])
    run-history = history_at-more m k i ∙ ap (λ (l : List Item). history_at m k i ++ l) (go (pf.happens i k here.below))
      where
        go : Happens m i k → items_at m (place_at m i) k ≡ ran (record_at m i k).segment (now_at m i) ∷ []
        go (idle _ _ none _) = absurd (none here)
        go (runs _ _ items) = items
        go (hears e since r _ _) = absurd (ready-not-waits here.ready r.waits)

    -- it is ready again no sooner than now: at a later place, or past the horizon
    pub run-later : (d : Cycle) → view_of (effect_there m i k).thread.state ≡ view.ready d → now_at m i ⊑ d
    run-later d e = go (T-case (is_up_to_horizon m d))
      where
        again : view_of (record_at m (suc i) k).state ≡ view.ready d
        again = ap (λ (t : Thread). view_of t.state) run-record ∙ e

        go : T (is_up_to_horizon m d) ⊎ T (not (is_up_to_horizon m d)) → now_at m i ⊑ d
        go (inr late) = horizon-⊑ m (now_at m i) d (pf.now_before i) late
        go (inl before) = let next = pf.next_run (suc i) k d here.below again before in subst (λ (c : Cycle). now_at m i ⊑ c) next.now (pf.now_mono i next.place (omega (arith, next.from)))
