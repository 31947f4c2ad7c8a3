-- What one step of the plain run does to one thread: nothing, or it runs, or it hears an event at the cycle's end.
-- Each case says what the thread's record is afterwards and what the step adds to its history.
--     Runs, Hears     the step runs thread k; it lets thread k hear event e
--     Happens, happens     the three cases, for every thread
--     Runs-dec, Runs-below, Runs-ready     who runs
--     history_at-more     the history after one more step
use Prim.Native.Nat.{ℕ, suc, ◌<◌, ◌≤◌}
use mathlib.Core.Path.{◌≡◌, refl, sym, ◌∙◌, subst}
use mathlib.Core.Bool.{Bool, true, false, not, cond, ◌&&◌}
use mathlib.Core.List.{[], ◌∷◌, ◌++◌}
use native.Mathlib.Omega.{arith}
use native.Mathlib.Decide.{ℕ_discrete}
use lib.Dec.{T, eqb, not_T}
use lib.ListN.{length, set}
use borrow.Author.Tests.{lt-ltb, le-ltb, eq-eqb, ne_eqb}
use Rattle.base.proofs.BoolLaws.{T→true, T→false}
use Rattle.clock.specs.declared.Cycle.{Cycle}
use Rattle.clock.specs.declared.Wait.TheVariants as wait
use Rattle.clock.specs.Order.{◌⊑◌}
use Rattle.clock.specs.Wait.{wait_ends}
use Rattle.model.specs.declared.Model.{Model}
use Rattle.model.specs.Record as view
use Rattle.model.specs.Record.{thread_at, awaited_by, state_after, view_of}
use Rattle.model.specs.Effect.{effect_of}
use Rattle.model.specs.Footprint.{has}
use Rattle.plain.specs.Start.{Place}
use Rattle.plain.specs.Wake.{is_woken, woken_state}
use Rattle.plain.specs.Step.{is_due, stepped, place_at}
use Rattle.plain.specs.History.{heard, heard_item, items_at, history_at}
use Rattle.plain.specs.History as history
use Rattle.plain_laws.proofs.RecordLaws.{thread-path, thread_at-set, thread_at-other}
use Rattle.plain_laws.proofs.WakeLaws.{Wakes, rises, sleeps, wakes, woken-at}
use Rattle.plain_laws.proofs.StepLaws.{record_of, state_of, woken_at, effect_at, Kind, ran, passed, closed, kind_of, Sees, sees, sees_ran, sees_passed, sees_begun, sees_rested, ran-not-passed, ran-not-closed, passed-not-closed, ready→is_due, is_due→ready}
use Rattle.plain_laws.proofs.StartLaws.{shape}

-- what the step adds to the history of thread k, by its kind
module _ (m : Model) (p : Place) (k : ℕ) where
  items_at-ran : p.turn < m.t → p.turn ≡ k → view_of (state_of p p.turn) ≡ view.ready p.now → items_at m p k ≡ history.ran (record_of p k).segment p.now ∷ []
  unfolding items_at
  items_at-ran h e d = rw (lt-ltb p.turn m.t h, eq-eqb p.turn k e, T→true (is_due p) (ready→is_due p d)) refl

  items_at-other : p.turn < m.t → (p.turn ≡ k → ⊥) → items_at m p k ≡ []
  unfolding items_at
  items_at-other h e = rw (lt-ltb p.turn m.t h, ne_eqb p.turn k e) refl

  items_at-passed : p.turn < m.t → (view_of (state_of p p.turn) ≡ view.ready p.now → ⊥) → items_at m p k ≡ []
  unfolding items_at
  items_at-passed h d =
      rw (lt-ltb p.turn m.t h, T→false (is_due p) (not_T (is_due p) (λ t. d (is_due→ready p t)))) (both (eqb p.turn k))
    where
      both : (b : Bool) → cond (b && false) (history.ran (record_of p k).segment p.now ∷ []) [] ≡ []
      both true = refl
      both false = refl

  items_at-heard : m.t ≤ p.turn → (e : ℕ) (since : Cycle) → view_of (state_of p k) ≡ view.waits e since
      → T (is_woken p.notified p.now (awaited_by (state_of p k))) → items_at m p k ≡ heard e p.now ∷ []
  unfolding items_at heard_item
  items_at-heard h e since q t =
      rw (le-ltb p.turn m.t h, T→true (is_woken p.notified p.now (awaited_by (state_of p k))) t, q) refl

  items_at-slept : m.t ≤ p.turn → T (not (is_woken p.notified p.now (awaited_by (state_of p k)))) → items_at m p k ≡ []
  unfolding items_at
  items_at-slept h t = rw (le-ltb p.turn m.t h, T→false (is_woken p.notified p.now (awaited_by (state_of p k))) t) refl

module _ (m : Model) where
  abbrev pub Runs : Place → ℕ → Type 0
  Runs p k = (kind_of m p ≡ ran) × (p.turn ≡ k)

  -- thread k waits on event e, which was notified in the cycle that closes, not before the wait began
  pub record Hears (p : Place) (k e : ℕ) : Type 0 where
    pub closing : kind_of m p ≡ closed
    pub since : Cycle
    pub waiting : view_of (state_of p k) ≡ view.waits e since
    pub notified : T (has p.notified e)
    pub begun : since ⊑ p.now

  pub data Happens (p : Place) (k : ℕ) : Type 0 where
    idle : record_of (stepped m p) k ≡ record_of p k → (Runs p k → ⊥) → ((e : ℕ) → Hears p k e → ⊥) → items_at m p k ≡ [] → Happens p k
    runs : Runs p k → view_of (state_of p k) ≡ view.ready p.now
        → record_of (stepped m p) k ≡ (effect_of m k (record_of p k).segment p.now p.variables).thread
        → items_at m p k ≡ history.ran (record_of p k).segment p.now ∷ [] → Happens p k
    hears : (e : ℕ) → Hears p k e
        → record_of (stepped m p) k ≡ record { segment = (record_of p k).segment; state = state_after (wait_ends wait.Event p.now) }
        → items_at m p k ≡ heard e p.now ∷ [] → Happens p k

  -- at the close of a cycle
  happens-closed : (p : Place) (k : ℕ) → kind_of m p ≡ closed → m.t ≤ p.turn → record_of (stepped m p) k ≡ thread_at (woken_at p) k → Happens p k
  happens-closed p k q l s = go (wakes p.notified p.now (state_of p k))
    where
      after : record_of (stepped m p) k ≡ record { segment = (record_of p k).segment; state = woken_state p.notified p.now (state_of p k) }
      after = s ∙ woken-at p.notified p.now p.threads k

      go : Wakes p.notified p.now (state_of p k) → Happens p k
      go (rises e since w h b t f) =
          hears e (record { closing = q; since = since; waiting = w; notified = h; begun = b })
          (after ∙ thread-path refl f)
          (items_at-heard m p k l e since w t)
      go (sleeps asleep t f) =
          idle (after ∙ thread-path refl f) (λ r. ran-not-closed r.0 q) (λ e h. asleep e h.since h.waiting h.notified h.begun) (items_at-slept m p k l t)

  pub happens : (p : Place) (k : ℕ) → m.t ≤ length p.threads → Happens p k
  happens p k enough = go (sees m p) (ℕ_discrete p.turn k)
    where
      go : Sees m p → Dec (p.turn ≡ k) → Happens p k
      go (sees_ran q h r s) (yes e) =
          runs (q, e) (subst (λ (j : ℕ). view_of (state_of p j) ≡ view.ready p.now) e r)
          (rw s (subst (λ (j : ℕ). thread_at (set p.threads p.turn (effect_at m p).thread) j ≡ (effect_of m j (record_of p j).segment p.now p.variables).thread) e (thread_at-set p.threads p.turn (effect_at m p).thread (omega arith))))
          (items_at-ran m p k h e r)
      go (sees_ran q h r s) (no e) =
          idle (rw s (thread_at-other p.threads p.turn k (effect_at m p).thread (λ f. e (sym f)))) (λ f. e f.1) (λ v f. ran-not-closed q f.closing) (items_at-other m p k h e)
      go (sees_passed q h r s) d =
          idle (rw s refl) (λ f. ran-not-passed f.0 q) (λ v f. passed-not-closed q f.closing) (items_at-passed m p k h r)
      go (sees_begun q h c f b s) d = happens-closed p k q h (rw s refl)
      go (sees_rested q h l s) d = happens-closed p k q h (rw s refl)

  -- whether a step runs thread k can be told
  pub Runs-dec : (p : Place) (k : ℕ) → Dec (Runs p k)
  Runs-dec p k = go (kind_of m p) refl (ℕ_discrete p.turn k)
    where
      go : (x : Kind) → kind_of m p ≡ x → Dec (p.turn ≡ k) → Dec (Runs p k)
      go ran q (yes e) = yes (q, e)
      go ran q (no e) = no (λ r. e r.1)
      go passed q d = no (λ r. ran-not-passed r.0 q)
      go closed q d = no (λ r. ran-not-closed r.0 q)

  -- who runs is a thread below T, ready now
  pub Runs-below : (p : Place) (k : ℕ) → Runs p k → k < m.t
  Runs-below p k (q, e) = go (sees m p)
    where
      go : Sees m p → k < m.t
      go (sees_ran r h d s) = omega arith
      go (sees_passed r h d s) = absurd (ran-not-passed q r)
      go (sees_begun r h c f b s) = absurd (ran-not-closed q r)
      go (sees_rested r h l s) = absurd (ran-not-closed q r)

  pub Runs-ready : (p : Place) (k : ℕ) → Runs p k → view_of (state_of p k) ≡ view.ready p.now
  Runs-ready p k (q, e) = subst (λ (j : ℕ). view_of (state_of p j) ≡ view.ready p.now) e (go (sees m p))
    where
      go : Sees m p → view_of (state_of p p.turn) ≡ view.ready p.now
      go (sees_ran r h d s) = d
      go (sees_passed r h d s) = absurd (ran-not-passed q r)
      go (sees_begun r h c f b s) = absurd (ran-not-closed q r)
      go (sees_rested r h l s) = absurd (ran-not-closed q r)

  pub happens-at : (i k : ℕ) → Happens (place_at m i) k
  happens-at i k = happens (place_at m i) k (shape m i).enough

  pub history_at-none : (k : ℕ) → history_at m k 0 ≡ []
  unfolding history_at
  history_at-none k = refl

  pub history_at-more : (k i : ℕ) → history_at m k (suc i) ≡ history_at m k i ++ items_at m (place_at m i) k
  unfolding history_at
  history_at-more k i = refl
