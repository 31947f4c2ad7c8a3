-- Where the run starts, and the shape that every place has: records for all T threads, none past them, and a turn not past T.
--     start_of-record, start_of-ready, start_of-past, start_of-length     the records at the start
--     Shape, shape, woken-past     at every place, whatever the model
use Prim.Native.Nat.{ℕ, zero, suc, ◌+◌, ◌-◌, ◌<◌, ◌≤◌}
use mathlib.Core.Path.{◌≡◌, refl, ap, ◌∙◌}
use mathlib.Core.List.{List, [], ◌++◌}
use native.Mathlib.Omega.{arith}
use lib.ListN.{length, get_or, replicate, length-append, length-replicate, get_or-append}
use lib.Seq.{get_or-append-add}
use Rattle.base.specs.Index.{tabulate}
use Rattle.base.proofs.IndexLaws.{tabulate-length, tabulate-at}
use Rattle.clock.specs.Cycle.{cycle_at}
use Rattle.model.specs.declared.Model.{Model}
use Rattle.model.specs.declared.Thread.{Thread}
use Rattle.model.specs.Values.{start_at}
use Rattle.model.specs.Record as view
use Rattle.model.specs.Record.{no_thread, thread_at, view_of}
use Rattle.plain.specs.Start.{Place, started, fresh_threads, start_of}
use Rattle.plain.specs.Step.{stepped, place_at}
use Rattle.plain_laws.proofs.RecordLaws.{thread_at-at, thread_at-other, thread-path}
use Rattle.plain_laws.proofs.WakeLaws.{woken-at, woken_state-idle}
use Rattle.plain_laws.proofs.StepLaws.{record_of, state_of, effect_at, woken_at, Sees, sees, sees_ran, sees_passed, sees_begun, sees_rested, stepped-threads-length}

replicate-any : {A : Type 0} (n i : ℕ) (a : A) → get_or (replicate n a) i a ≡ a
replicate-any zero i a = refl
replicate-any (suc n) zero a = refl
replicate-any (suc n) (suc i) a = replicate-any n i a

module _ (m : Model) where
  abbrev starts : List Thread
  starts = tabulate m.t 0 (λ k. started (start_at m k))

  starts-length : length starts ≡ m.t
  starts-length = tabulate-length m.t 0 (λ k. started (start_at m k))

  -- "All threads start ready at (0, 0)."
  pub start_of-record : (k : ℕ) → k < m.t → record_of (start_of m) k ≡ started (start_at m k)
  unfolding start_of fresh_threads
  start_of-record k h =
      thread_at-at (starts ++ replicate (32 - m.t) no_thread) k
      ∙ get_or-append starts (replicate (32 - m.t) no_thread) no_thread k (omega (arith, starts-length))
      ∙ tabulate-at m.t 0 k (λ j. started (start_at m j)) no_thread h
      ∙ ap (λ (j : ℕ). started (start_at m j)) (omega arith)

  pub start_of-ready : (k : ℕ) → k < m.t → view_of (state_of (start_of m) k) ≡ view.ready (cycle_at 0 0)
  unfolding started
  start_of-ready k h = ap (λ (t : Thread). view_of t.state) (start_of-record k h)

  pub start_of-now : (start_of m).now ≡ cycle_at 0 0
  unfolding start_of
  start_of-now = refl

  pub start_of-turn : (start_of m).turn ≡ 0
  unfolding start_of
  start_of-turn = refl

  pub start_of-notified : (start_of m).notified ≡ []
  unfolding start_of
  start_of-notified = refl

  pub start_of-n : (start_of m).n ≡ 0
  unfolding start_of
  start_of-n = refl

  pub start_of-past : (k : ℕ) → m.t ≤ k → record_of (start_of m) k ≡ no_thread
  unfolding start_of fresh_threads
  start_of-past k h =
      let e : k ≡ length starts + (k - m.t) = omega (arith, starts-length) in
      thread_at-at (starts ++ replicate (32 - m.t) no_thread) k
      ∙ ap (λ (j : ℕ). get_or (starts ++ replicate (32 - m.t) no_thread) j no_thread) e
      ∙ get_or-append-add starts (replicate (32 - m.t) no_thread) (k - m.t) no_thread
      ∙ replicate-any (32 - m.t) (k - m.t) no_thread

  start-length : length (start_of m).threads ≡ m.t + (32 - m.t)
  unfolding start_of fresh_threads
  start-length = length-append starts (replicate (32 - m.t) no_thread) ∙ omega (arith, starts-length, length-replicate (32 - m.t) no_thread)

  pub start_of-length : m.t ≤ 32 → length (start_of m).threads ≡ 32
  start_of-length h = omega (arith, start-length)

  pub record Shape (p : Place) : Type 0 where
    pub enough : m.t ≤ length p.threads
    pub past : (k : ℕ) → m.t ≤ k → record_of p k ≡ no_thread
    pub turns : p.turn ≤ m.t

  shape-start : Shape (start_of m)
  unfolding start_of
  shape-start = record { enough = omega (arith, start-length); past = start_of-past; turns = omega arith }

  -- nor are there records past T after the wakes
  pub woken-past : (p : Place) → Shape p → (k : ℕ) → m.t ≤ k → thread_at (woken_at p) k ≡ no_thread
  woken-past p g k h =
      woken-at p.notified p.now p.threads k
      ∙ rw (g.past k h) (thread-path refl (woken_state-idle p.notified p.now _ refl))

  shape-step : (p : Place) → Shape p → Shape (stepped m p)
  shape-step p g = record { enough = omega (arith, g.enough, stepped-threads-length m p); past = λ k h. past k h (sees m p); turns = turns (sees m p) }
    where
      past : (k : ℕ) → m.t ≤ k → Sees m p → record_of (stepped m p) k ≡ no_thread
      past k h (sees_ran q l r s) = rw s (thread_at-other p.threads p.turn k (effect_at m p).thread (λ e. omega arith) ∙ g.past k h)
      past k h (sees_passed q l r s) = rw s (g.past k h)
      past k h (sees_begun q l c f b s) = rw s (woken-past p g k h)
      past k h (sees_rested q l f s) = rw s (woken-past p g k h)

      turns : Sees m p → (stepped m p).turn ≤ m.t
      turns (sees_ran q l r s) = rw s (omega arith)
      turns (sees_passed q l r s) = rw s (omega arith)
      turns (sees_begun q l c f b s) = rw s (omega arith)
      turns (sees_rested q l f s) = rw s g.turns

  pub shape : (i : ℕ) → Shape (place_at m i)
  unfolding place_at
  shape zero = shape-start
  shape (suc i) = shape-step (place_at m i) (shape i)
